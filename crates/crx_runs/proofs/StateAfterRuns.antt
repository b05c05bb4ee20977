-- The state after a run, by how it ended.
use Rattle.std.proofs.lemmas.Grind.{common_steps}
use Rattle.std.proofs.Common.{arith, ◌≡◌, ◌⊎◌, inl, inr, ℕ, ◌≤◌, List, [], ◌++◌}
use Rattle.std.proofs.Common.{length, take, drop, Option, Some, None, refl}
use Rattle.std.proofs.{Common.{sym, ap, subst, ◌∙◌, append-nil, append_assoc}, lemmas.List.take_all}
use Rattle.std.proofs.lemmas.List.{take-append-drop}
use Rattle.crx_lines.proofs.ProgressLemmas.{ended_lines-none}
use Rattle.crx_lines.specs.{Progress.{HasRead, StandsAt, IsOpen, IsStopped}, Reading.{HasNoFeed, ReaderState}}
use Rattle.crx_lines.specs.{declared.phase.Phase.TheVariants.{Open, Ended}, meaning.Devices.{Tally, one_more}}
use Rattle.crx_base.specs.declared.fault.Fault.{TheVariants.{InputTooLong, ReadFailed}, Fault}
use Rattle.crx_base.specs.{declared.limits.TheConstants.INPUT_LIMIT, meaning.AsRead.ended_lines_of}
use Rattle.crx_base.specs.meaning.Lines.{InputLine, lines_of}
use Rattle.crx_runs.specs.Lawful.{IsLawful}
use Rattle.crx_runs.specs.meaning.Interruptions.{complete_lines, AreAll, AreAllSoFar, AreTaken, IsTurn}
use Rattle.crx_runs.specs.meaning.{Results.Begins, Filters.{Filter, course_with, lines_with}, Spans.Input}

-- ---- which lines were read

-- up to the limit of an input all its bytes count
complete-within : (given : List ℕ) → length given ≤ INPUT_LIMIT → complete_lines given ≡ ended_lines_of given
complete-within given within = ap ended_lines_of (take_all _ given within)

-- the end was reported at most once
abbrev pub AskedOnce : Input → Type 0
AskedOnce input = (input.counted.ends ≡ input.start.ends) ⊎ (input.counted.ends ≡ one_more input.start.ends)

module _ {input : Input} {now : ReaderState} {lines : List InputLine}
    (h : HasRead input.gave input.at_end input.start input.counted now lines) where
  pub is-open : now.phase ≡ Open → IsOpen input.start input.counted h.given now lines
  is-open e = subst (λ f. StandsAt f input.at_end input.start input.counted h.given now lines) e h.stands

  pub all-read : now.phase ≡ Ended → AreAll input h.given lines
  all-read = grind arith

  pub taken-read : (now.phase ≡ Open) ⊎ (now.phase ≡ Ended) → AreTaken input h.given lines
  taken-read (inl e) =
      let o = is-open e in
      inl (
        ended_lines_of (now.rest ++ []),
        complete-within h.given o.within ∙ ap ended_lines_of (sym (append-nil h.given)) ∙ o.ended [],
      )
  taken-read (inr e) = inr (all-read e)

  pub all-so-far : (now.phase ≡ Open) ⊎ (now.phase ≡ Ended) → (now.phase ≡ Open → HasNoFeed now.rest)
      → AreAllSoFar input h.given lines
  all-so-far (inl e) none =
      let o = is-open e in
      inl (
        complete-within h.given o.within ∙ ap ended_lines_of (sym (append-nil h.given)) ∙ o.ended []
            ∙ ap (λ (l : List ℕ). lines ++ ended_lines_of l) (append-nil now.rest)
            ∙ ap (λ (l : List InputLine). lines ++ l) (ended_lines-none now.rest (none e)) ∙ append-nil lines,
        (o.within, o.counts),
      )
  all-so-far (inr e) none = inr (all-read e)

  pub none-failed : (now.phase ≡ Open) ⊎ (now.phase ≡ Ended) → input.counted.failures ≡ input.start.failures
  none-failed = grind arith

  pub asked-once : (now.phase ≡ Open) ⊎ (now.phase ≡ Ended) → AskedOnce input
  asked-once = grind arith

-- the last line or the end that was taken of an input
pub turn-read : {input : Input} {now : ReaderState} (lines : List InputLine) (next : Option InputLine)
    (h : HasRead input.gave input.at_end input.start input.counted now (lines_with lines next))
    → (now.phase ≡ Open) ⊎ (now.phase ≡ Ended) → (next ≡ None → now.phase ≡ Ended)
    → IsTurn input h.given lines next
turn-read lines (Some line) h going ended = taken-read h going
turn-read lines None h going ended = all-read h (ended refl)

-- the lines before the reader stopped are the complete ones
pub complete-stopped : (given : List ℕ) (lines : List InputLine) (f : Fault) (start counted : Tally)
    → IsStopped f start counted given lines → lines ≡ complete_lines given
complete-stopped given lines InputTooLong start counted s = s.1
complete-stopped given lines ReadFailed start counted s = s.1 ∙ sym (complete-within given s.0)
complete-stopped given lines _ start counted s = absurd s

-- ---- prefixes

begins-more : {text middle first : List ℕ} → Begins text middle → Begins middle first → Begins text first
begins-more {first = first} a b = grind (arith, common_steps, append_assoc)

pub begins-itself : (text : List ℕ) → Begins text text
begins-itself text = record { rest = []; same = sym (append-nil text) }

pub begins-taken : (n : ℕ) (text : List ℕ) → Begins text (take n text)
begins-taken n text = record { rest = drop n text; same = sym (take-append-drop n text) }

-- the output of lines that were taken is a prefix
module _ {filter : Filter} (lawful : IsLawful filter) (input : Input) (given : List ℕ) where
  abbrev pub IsFirst : List ℕ → Type 0
  IsFirst written = Begins (filter.so_far (complete_lines given)).output written
      ⊎ (input.at_end × Begins (filter.whole (lines_of given)).output written)

  pub first-taken : (lines : List InputLine) (written : List ℕ)
      → AreTaken input given lines → Begins (filter.so_far lines).output written → IsFirst written
  first-taken lines written (inl t) begins = inl (begins-more (grind arith) begins)
  first-taken lines written (inr t) begins = inr (
    t.reported,
    begins-more (subst (λ ls. Begins (filter.whole ls).output (filter.so_far lines).output) (append-nil lines
        ∙ sym t.same) (lawful.goes_on lines [])) begins,
  )

  -- the output after a line or the end is a prefix, and so is the output before it
  pub first-after-turn : (lines : List InputLine) (next : Option InputLine) (written : List ℕ)
      → IsTurn input given lines next → Begins (course_with filter lines next).output written → IsFirst
      written
  first-after-turn lines (Some line) written turn begins = first-taken _ written turn begins
  first-after-turn lines None written turn begins = inr (turn.reported, rw turn.same begins)

  pub first-before-turn : (lines : List InputLine) (next : Option InputLine) (written : List ℕ)
      → IsTurn input given lines next → Begins (filter.so_far lines).output written → IsFirst written
  first-before-turn lines (Some line) written turn begins =
      first-taken _ written turn (begins-more (lawful.grows lines _) begins)
  first-before-turn lines None written turn begins = first-taken _ written (inr turn) begins

  pub first-complete : (lines : List InputLine) → lines ≡ complete_lines given
      → IsFirst (filter.so_far lines).output
  first-complete lines same = inl (rw (← same) (begins-itself (filter.so_far lines).output))
