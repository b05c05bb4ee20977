-- The answer to a line that makes lines ready.
use Rattle.crx_filter.proofs.Vocabulary.{◌≡◌, ℕ, false, List, [], ReadLine, RunState, Direction, Choices}
use Rattle.crx_filter.proofs.Vocabulary.{Count, LineStep, state_next, is_again, arith, common_steps, None}
use Rattle.crx_filter.{proofs.Vocabulary.{Made, noticed_by, failed_by, step_of_made}, specs.Laws.is_ready}
use Rattle.crx_filter.proofs.Vocabulary.{true, ◌∷◌, ◌⊎◌, inl, inr, refl, map, as_read, InputLine, At, Notice}
use Rattle.crx_filter.specs.{EngineLines.HasTaken, LineByLine.{answer_of_lines, Phase}}
use Rattle.crx_runs.specs.Engines.{Awaited, IsAwaited}

abbrev pub state_in : {O K : Type 0} → Choices → ℕ → Phase O → List Count → K → RunState O K
state_in choices number phase types kept =
    record { choices = choices; number = number; phase = phase; types = types; kept = kept }

pub noticed-lines : (lines : List (List ℕ)) → noticed_by (answer_of_lines lines) ≡ []
noticed-lines lines = grind (arith, common_steps)

pub failed-lines : (lines : List (List ℕ)) → failed_by (answer_of_lines lines) ≡ None
failed-lines lines = grind (arith, common_steps)

pub again-lines : (lines : List (List ℕ)) → is_again (answer_of_lines lines) ≡ false
again-lines lines = grind (arith, common_steps)

-- an engine that has taken some lines is in the state after them; or the next one is fed again, after a warning
pub taken-either : {U O K : Type 0} (direction : Direction U O K) (state_after : List ReadLine → RunState O K)
    (now : RunState O K) (lines : List InputLine) (notices : List Awaited) (line : InputLine)
    → HasTaken direction state_after now lines notices → IsAwaited notices line
    → ((notices ≡ []) × (now ≡ state_after (map as_read lines)))
    ⊎ ((notice : At) × (notices ≡ record { notice = notice; line = line } ∷ [])
    × (record { answer = Notice notice true; handed_out = []; next = now }
    ≡ state_next direction (state_after (map as_read lines)) (as_read line)))
taken-either direction state_after now lines [] line taken awaited = inl (refl, taken)
taken-either direction state_after now lines (a ∷ []) line taken awaited =
    rw (← awaited) (inr (a.notice, refl, taken))
taken-either direction state_after now lines (a ∷ b ∷ others) line taken awaited = absurd taken

-- only a step with the answer `Ready` has lines ready
module _ {U O K : Type 0} (direction : Direction U O K) (before : RunState O K) where
  quiet-made : (line : ReadLine) (made : Made U O)
      → is_ready (step_of_made direction before line made).answer ≡ false
      → (step_of_made direction before line made).handed_out ≡ []
  quiet-made line made quiet = grind (arith, common_steps)

  pub quiet-next : (line : ReadLine) (step : LineStep O K) → step ≡ state_next direction before line
      → is_ready step.answer ≡ false → step.handed_out ≡ []
  quiet-next line step e quiet = grind (arith, common_steps, quiet-made)
