-- A direction takes a line for the first time, or again after a warning: the state then.
use Rattle.crx_filter.proofs
use proofs.Vocabulary.{◌≡◌, ◌⊎◌, inl, inr, List, [], map, length, InputLine, ReadLine, as_read, Choices, RunState}
use proofs.Vocabulary.{Direction}
use Rattle.crx_filter.specs.DirectionParts.{DirectionParts, ComesAfter, state_by}
use proofs.ReadyLines.{taken-either}
use proofs.steps.EngineAnswers.{ComesAgain, comes-again}

module _ {U O K : Type 0} (direction : Direction U O K) {chosen : Choices → Choices}
    (state_after : Choices → List ReadLine → RunState O K) (choices : Choices) (lines : List InputLine)
    (line : InputLine) (parts : DirectionParts O K)
    (given : ComesAfter direction chosen state_after choices lines line parts) where
  abbrev seen : RunState O K
  seen = state_by choices (length lines) parts

  abbrev before : RunState O K
  before = state_after choices (map as_read lines)

  pub given-either : (seen ≡ before) ⊎ ComesAgain direction before seen (as_read line)
  given-either = elim (taken-either direction (state_after choices) seen lines given.notices line
      given.has_taken given.awaited) as
      (λ _. (seen ≡ before) ⊎ ComesAgain direction before seen (as_read line)) [
        | inl h ↦ inl h.1
        | inr h ↦ inr (comes-again direction before seen (as_read line) h.0 [] h.2)
      ]
