-- How far the reading of an input is, from its first byte on: the lines so far, and the bytes that were read.
use Rattle.std.specs.Prelude.{◌≡◌, ℕ, ◌+◌, ◌<◌, ◌≤◌, List, [], ◌∷◌, ◌++◌, IsTrue, Option, Some, None, Result, Ok, Err}
use Rattle.std.specs.Prelude.{length, take}
use Rattle.crx_lines.specs.meaning.Devices.{Tally, with_failure}
use Rattle.crx_lines.specs.Devices.{with_end}
use Rattle.crx_base.specs.meaning.Lines.{InputLine, lines_of, is_long}
use Rattle.crx_base.specs.meaning.AsRead.{ended_lines_of}
use Rattle.crx_lines.specs.Reading.{ReaderState, line_shown, line_number}
use Rattle.crx_base.specs.declared.limits.TheConstants.{INPUT_LIMIT}
use Rattle.crx_base.specs.declared.fault.At.{At}
use Rattle.crx_base.specs.declared.fault.Fault.{Fault}
use Rattle.crx_base.specs.declared.fault.Fault.TheVariants.{LineTooLong, InputTooLong, ReadFailed}
use Rattle.crx_lines.specs.declared.line.Line.{Line}
use Rattle.crx_lines.specs.declared.phase.Phase.{Phase}
use Rattle.crx_lines.specs.declared.phase.Phase.TheVariants.{Open, Ended, Stopped}

-- while more lines may follow: whatever follows the bytes read, the lines so far are the first, and an LF
-- ended each of them; no read failed or reported the end
pub record IsOpen (start counted : Tally) (given : List ℕ) (now : ReaderState) (lines : List InputLine) : Type 0 where
  pub bytes : length given ≡ now.passed + length now.rest
  pub within : length given ≤ INPUT_LIMIT
  pub first : (more : List ℕ) → lines_of (given ++ more) ≡ lines ++ lines_of (now.rest ++ more)
  pub ended : (more : List ℕ) → ended_lines_of (given ++ more) ≡ lines ++ ended_lines_of (now.rest ++ more)
  pub counts : counted ≡ start

-- after the end: it was reported once, no read failed, and the lines are all those of the bytes read
pub record IsOver (at_end : Type 0) (start counted : Tally) (given : List ℕ) (lines : List InputLine) : Type 0 where
  pub reported : at_end
  pub within : length given ≤ INPUT_LIMIT
  pub all : lines ≡ lines_of given
  pub counts : counted ≡ with_end start

-- after a byte past the limit of an input, or a failed read: the lines are those whose LF was read before
abbrev pub IsStopped : Fault → Tally → Tally → List ℕ → List InputLine → Type 0
IsStopped InputTooLong start counted given lines =
    (INPUT_LIMIT < length given) × (lines ≡ ended_lines_of (take INPUT_LIMIT given)) × (counted ≡ start)
IsStopped ReadFailed start counted given lines =
    (length given ≤ INPUT_LIMIT) × (lines ≡ ended_lines_of given) × (counted ≡ with_failure start)
IsStopped _ start counted given lines = ⊥

abbrev pub StandsAt : Phase → Type 0 → Tally → Tally → List ℕ → ReaderState → List InputLine → Type 0
StandsAt Open at_end start counted given now lines = IsOpen start counted given now lines
StandsAt Ended at_end start counted given now lines = IsOver at_end start counted given lines
StandsAt (Stopped at) at_end start counted given now lines = IsStopped at.fault start counted given lines
    × (at.line ≡ length lines + 1)

-- these lines were read from the bytes that a source returned after the first call, when its tally was
-- `start`
pub record HasRead (gave : List ℕ
    → Type 0) (at_end : Type 0) (start counted : Tally) (now : ReaderState) (lines : List InputLine) : Type 0 where
  pub given : List ℕ
  pub lead : gave given
  pub number : now.number ≡ length lines
  pub stands : StandsAt now.phase at_end start counted given now lines

-- one line more than before: it was read from at least one byte of the input, and its number is its place
pub record IsOneMore (old new : ReaderState)
    (lines then : List InputLine) (line : InputLine) (number : ℕ) : Type 0 where
  pub lines_are : then ≡ lines ++ line ∷ []
  pub number_is : number ≡ length then
  pub some : old.passed < new.passed
  pub within : new.passed ≤ INPUT_LIMIT

-- how a fault relates the lines before it to those after it
abbrev pub AtFault : Fault → At → ReaderState → ReaderState → List InputLine → List InputLine → Type 0
AtFault LineTooLong at old new lines then = (line : InputLine)
    × IsTrue (is_long line) × IsOneMore old new lines then line at.line
AtFault InputTooLong at old new lines then = (then ≡ lines) × (new.phase ≡ Stopped at)
AtFault ReadFailed at old new lines then = (then ≡ lines) × (new.phase ≡ Stopped at)
AtFault _ at old new lines then = ⊥

-- how an answer relates the lines before it to those after it
abbrev pub AtAnswer : Result (Option Line) At → ReaderState → ReaderState → List InputLine → List InputLine → Type 0
AtAnswer (Ok (Some line)) old new lines then = IsOneMore old new lines then (line_shown line) (line_number line)
AtAnswer (Ok None) old new lines then = (then ≡ lines) × (new.phase ≡ Ended)
AtAnswer (Err at) old new lines then = AtFault at.fault at old new lines then
