-- Reading an input line by line, from the bytes that a reader returns part by part.
use Rattle.std.specs.Prelude.{◌≡◌, ℕ, ◌+◌, ◌-◌, ◌<◌, ◌≤◌, List, [], ◌∷◌, ◌++◌, MatchBool, IsTrue, length, take}
use Rattle.std.specs.Prelude.{if◌then◌else◌, Option, Some, None, Result, Ok, Err, ◌≢◌, All, true}
use Rattle.crx_lines.specs.meaning.Devices.{Tally, with_failure}
use Rattle.crx_lines.specs.Devices.{with_end, tally_after_line}
use Rattle.crx_base.specs.Padded.{line_in}
use Rattle.crx_base.specs.meaning.Lines.{InputLine, Piece, line_of, is_long}
use Rattle.crx_base.specs.declared.limits.TheConstants.{INPUT_LIMIT}
use Rattle.crx_base.specs.declared.fault.At.{At}
use Rattle.crx_base.specs.declared.fault.Fault.{Fault}
use Rattle.crx_base.specs.declared.fault.Fault.TheVariants.{LineTooLong, InputTooLong, ReadFailed}
use Rattle.crx_lines.specs.declared.line.Line.{Line}
use Rattle.crx_lines.specs.declared.phase.Phase.{Phase}
use Rattle.crx_lines.specs.declared.phase.Phase.TheVariants.{Open, Ended, Stopped}

-- no LF is among these bytes
abbrev pub HasNoFeed : List ℕ → Type 0
HasNoFeed bytes = All (λ b. b ≢ 10) bytes

-- a line as an `InputLine`: its content, and whether only an LF ends it
abbrev pub line_shown : Line → InputLine
line_shown l = record { content = line_in l.content; is_plain = l.is_plain }

abbrev pub line_number : Line → ℕ
line_number l = l.number

-- how far the reading of an input is
pub record ReaderState : Type 0 where
  -- the bytes that were read and are of no line yet
  pub rest : List ℕ
  -- how many bytes the lines so far had, including their ends and refused lines
  pub passed : ℕ
  -- the number of the last line, 0 before the first
  pub number : ℕ
  -- whether more lines may follow, the end was reported and no line is pending, or a fault is repeated
  pub phase : Phase

-- the input begins with this piece and continues with `rest`; only the last piece, once the end was reported,
-- has no LF
pub record BeginsWith (input : List ℕ) (at_end : Type 0) (p : Piece) (rest : List ℕ) : Type 0 where
  pub cut : MatchBool p.is_ended (input ≡ p.bytes ++ 10 ∷ rest) ((input ≡ p.bytes)
      × (rest ≡ []) × (0 < length p.bytes) × at_end)
  pub no_feed : HasNoFeed p.bytes

-- the first line of the old rest and the bytes read after it was taken
pub record TakesPiece (old : ReaderState)
    (given : List ℕ) (at_end : Type 0) (p : Piece) (new : ReaderState) : Type 0 where
  pub first : BeginsWith (old.rest ++ given) at_end p new.rest
  pub passed : new.passed + length new.rest ≡ old.passed + length (old.rest ++ given)
  pub within : new.passed + length new.rest ≤ INPUT_LIMIT
  pub number : new.number ≡ old.number + 1
  pub phase : new.phase ≡ (if p.is_ended then Open else Ended)

-- this fault ends the reading, in the line after the last one
pub record Stops (old : ReaderState) (at : At) (new : ReaderState) : Type 0 where
  pub line : at.line ≡ old.number + 1
  pub number : new.number ≡ old.number
  pub phase : new.phase ≡ Stopped at

-- when a fault is returned: at a line over its limit, at an input over its limit without an LF within it, or
-- at a failed read after bytes without LF; and the source's tally then
abbrev pub AnswersFault : ReaderState → List ℕ → Type 0 → Tally → Tally → At → Fault → ReaderState → Type 0
AnswersFault old given at_end before after at LineTooLong new =
    (p : Piece) × TakesPiece old given at_end p new
    × IsTrue (is_long (line_of p)) × (at.line ≡ new.number) × (after ≡ tally_after_line p.is_ended before)
AnswersFault old given at_end before after at InputTooLong new =
    (INPUT_LIMIT < old.passed + length (old.rest ++ given))
    × HasNoFeed (take (INPUT_LIMIT - old.passed) (old.rest ++ given)) × Stops old at new × (after ≡ before)
AnswersFault old given at_end before after at ReadFailed new =
    (old.passed + length (old.rest ++ given) ≤ INPUT_LIMIT)
    × HasNoFeed (old.rest ++ given) × Stops old at new × (after ≡ with_failure before)
AnswersFault old given at_end before after at _ new = ⊥

-- the answer while more lines may follow, from the old rest and the bytes read after it: the next line, as it
-- is shown and numbered, none at the end, or a fault. A failed read is counted, and so is a report of the end
-- if it ended the last line or was the answer.
abbrev pub AnswersAs : {X : Type 0} → (X → InputLine)
    → (X → ℕ) → ReaderState → List ℕ → Type 0 → Tally → Tally → Result (Option X) At → ReaderState → Type 0
AnswersAs shown numbered old given at_end before after (Ok (Some x)) new =
    (p : Piece) × TakesPiece old given at_end p new
    × (shown x ≡ line_of p) × (numbered x ≡ new.number) × (after ≡ tally_after_line p.is_ended before)
AnswersAs shown numbered old given at_end before after (Ok None) new =
    (old.rest ++ given ≡ []) × at_end × (new ≡ record old { rest = []; phase = Ended }) × (after ≡ with_end before)
AnswersAs shown numbered old given at_end before after (Err at) new =
    AnswersFault old given at_end before after at at.fault new

-- a reader's answer by `AnswersAs`, with a borrowed line
abbrev pub ReaderAnswers : ReaderState
    → List ℕ → Type 0 → Tally → Tally → Result (Option Line) At → ReaderState → Type 0
ReaderAnswers old given at_end before after r new = AnswersAs line_shown line_number old given at_end before after r new

-- the answer from pending bytes only, without a read: the next line, or that it is too long, or none if
-- nothing has changed
abbrev pub AnswersHeld : {X : Type 0} → (X → InputLine)
    → (X → ℕ) → ReaderState → Result (Option X) At → ReaderState → Type 0
AnswersHeld shown numbered old (Ok (Some x)) new =
    (p : Piece) × (p.is_ended ≡ true) × TakesPiece old [] ⊥ p new × (shown x ≡ line_of p) × (numbered x ≡ new.number)
AnswersHeld shown numbered old (Ok None) new = new ≡ old
AnswersHeld shown numbered old (Err at) new = (at.fault ≡ LineTooLong)
    × (p : Piece) × (p.is_ended ≡ true) × TakesPiece old [] ⊥ p new × IsTrue (is_long (line_of p)) × (at.line ≡ new.number)
