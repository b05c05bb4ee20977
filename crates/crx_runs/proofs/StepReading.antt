-- The results of a reader of lines, by the lines that were read before.
use Rattle.std.proofs.lemmas.Grind.{common_steps}
use Rattle.std.proofs.Common.{◌≡◌, ◌⊎◌, ℕ, ◌+◌, true, List, [], ◌++◌, length, Option, Some, None}
use Rattle.std.proofs.Common.{Result, Ok, Err, arith, ◌∙◌, ◌≢◌}
use Rattle.std.{proofs.lemmas.List.Elements.{All-from_get_or}, specs.List.{Contains}}
use Rattle.crx_lines.{proofs.ProgressLemmas.HasRead-next, specs.Progress.{AtAnswer, HasRead}}
use Rattle.crx_lines.specs.Devices.{tally_after_line}
use Rattle.crx_lines.specs.Reading.{ReaderState, ReaderAnswers, AnswersFault}
use Rattle.crx_lines.specs.Reading.{AnswersHeld, HasNoFeed, TakesPiece, line_shown}
use Rattle.crx_lines.specs.{Reading.line_number, declared.line.Line.Line, declared.phase.Phase.Phase}
use Rattle.crx_lines.specs.{declared.phase.Phase.TheVariants.{Open, Ended, Stopped}, meaning.Devices.Tally}
use Rattle.crx_base.specs.declared.fault.{At.At, Fault.{Fault, TheVariants.LineTooLong}}
use Rattle.crx_base.specs.meaning.Lines.{InputLine, Piece, is_long}
use Rattle.crx_runs.specs.meaning.Filters.{with_next}

-- a line was read: these lines and it
pub record ReadsLine (gives : List ℕ → Type 0) (at_end : Type 0) (start counted : Tally) (new : ReaderState)
    (lines : List InputLine) (line : InputLine) (number : ℕ) : Type 0 where
  pub read : HasRead gives at_end start counted new (with_next lines line)
  pub going : (new.phase ≡ Open) ⊎ (new.phase ≡ Ended)
  pub number_is : number ≡ length lines + 1

pub some-not-none : (line : Line) → ◌≡◌ {A = Result (Option Line) At} (Ok (Some line)) (Ok None) → ⊥
some-not-none line e = cc

pub err-not-none : (at : At) → ◌≡◌ {A = Result (Option Line) At} (Err at) (Ok None) → ⊥
err-not-none at e = cc

pub ended-not-open : ◌≡◌ {A = Phase} Ended Open → ⊥
ended-not-open e = cc

-- the results of a reader that isn't stopped
pub record HasAsked (step : List ℕ → Type 0) (at_end : Type 0) (counted counted' : Tally)
    (old new : ReaderState) (r : Result (Option Line) At) : Type 0 where
  pub going : (old.phase ≡ Open) ⊎ (old.phase ≡ Ended)
  pub at_open : old.phase ≡ Open → (more : List ℕ) × step more × ReaderAnswers old more at_end counted
      counted' r new
  pub at_ended : old.phase ≡ Ended → r ≡ Ok None

module _ {step : List ℕ → Type 0} {at_end' : Type 0} {counted counted' : Tally} {old new : ReaderState}
    {r : Result (Option Line) At} (asked : HasAsked step at_end' counted counted' old new r) where
  -- a result other than the end was read from some bytes
  answers : (x : Result (Option Line) At) → r ≡ x → (x ≡ Ok None → ⊥) → (old.phase ≡ Open) × ((more : List ℕ)
      × step more × ReaderAnswers old more at_end' counted counted' x new)
  answers = grind arith

  module _ {gave gives : List ℕ → Type 0} {at_end : Type 0} {start : Tally} {lines : List InputLine}
      (goes : (given more : List ℕ) → gave given → step more → gives (given ++ more))
      (h : HasRead gave at_end start counted old lines) where
    -- the lines that were read then
    next-lines : (x : Result (Option Line) At) → old.phase ≡ Open → (more : List ℕ) × step more
        × ReaderAnswers old more at_end' counted counted' x new → (then : List InputLine) × AtAnswer x old new
        lines then × HasRead gives at_end' start counted' new then
    next-lines x e a = HasRead-next gave gives step at_end at_end' start counted _ old new lines h goes e a.0
        a.1 x a.2

    pub line-read : (line : Line) → r ≡ Ok (Some line)
        → ReadsLine gives at_end' start counted' new lines (line_shown line) (line_number line)
    line-read line is =
        let a = answers (Ok (Some line)) is (some-not-none line) in
        let n = next-lines (Ok (Some line)) a.0 a.1 in
        grind arith

    pub overlong-read : (at : At) → r ≡ Err at → at.fault ≡ LineTooLong → (line : InputLine)
        × (is_long line ≡ true) × ReadsLine gives at_end' start counted' new lines line at.line
    overlong-read at is long =
        grind (arith, common_steps, answers (Err at) is (err-not-none at), next-lines (Err at))

    pub stop-read : (at : At) → r ≡ Err at → (at.fault ≡ LineTooLong → ⊥)
        → HasRead gives at_end' start counted' new lines × (new.phase ≡ Stopped at)
    stop-read at is other =
        let a = answers _ is (err-not-none at) in
        let n = next-lines (Err at) a.0 a.1 in
        (grind arith)

    pub end-read : r ≡ Ok None → (old.phase ≡ Ended → HasRead gives at_end' start counted' new lines
        × (new.phase ≡ Ended)) → HasRead gives at_end' start counted' new lines × (new.phase ≡ Ended)
    end-read is kept = grind (arith, common_steps, next-lines (Ok None))

-- bytes without LF
pub has-no-feed : (bytes : List ℕ) → (Contains bytes 10 → ⊥) → HasNoFeed bytes
has-no-feed bytes none = All-from_get_or (λ b. b ≢ 10) bytes 10 (λ k within is. none (k, within, is))

-- a line that ends with LF is the first one, whether or not the end was reported
takes-any : {old new : ReaderState} {given : List ℕ} {p : Piece} (at_end : Type 0) → p.is_ended ≡ true
    → TakesPiece old given ⊥ p new → TakesPiece old given at_end p new
takes-any = grind arith

held-line : (p : Piece) (tally : Tally) → p.is_ended ≡ true → tally ≡ tally_after_line p.is_ended tally
held-line = grind arith

held-long : (old new : ReaderState) (at_end : Type 0) (tally : Tally) (at : At)
    → AnswersHeld line_shown line_number
    old (Err at) new → (fault : Fault) → fault ≡ at.fault
    → AnswersFault old [] at_end tally tally at fault new
held-long old new at_end tally at (is, p, ended, takes, long, line) fault same =
    rw (same ∙ is) (p, takes-any at_end ended takes, long, line, held-line p tally ended)

held-answers : (old new : ReaderState) (at_end : Type 0) (tally : Tally) (r : Result (Option Line) At)
    → AnswersHeld line_shown line_number old r new → (r ≡ Ok None → ⊥)
    → ReaderAnswers old [] at_end tally tally r new
held-answers old new at_end tally r held some = grind (arith, common_steps, takes-any, held-line, held-long)

-- a result from held bytes, as one for which the reader gave nothing
pub held-asked : {step : List ℕ → Type 0} {at_end : Type 0} {tally : Tally} {old new : ReaderState}
    (r : Result (Option Line) At) → step [] → old.phase ≡ Open → AnswersHeld line_shown line_number old r new
    → (r ≡ Ok None → ⊥) → HasAsked step at_end tally tally old new r
held-asked {at_end = at_end} {tally = tally} {old = old} {new = new} r none opened held some =
    grind (arith, common_steps, held-answers, ended-not-open)
