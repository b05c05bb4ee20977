-- The messages of a run without a filter, and the results of the program.
use Rattle.std.specs.Prelude.{◌≡◌, ◌⊎◌, ℕ, List, [], Some}
use Rattle.crx_lines.specs.meaning.Devices.{with_failed_flush, with_failed_write, with_flush}
use Rattle.crx_base.specs.declared.fault.Fault.{Fault}
use Rattle.crx_base.specs.declared.fault.Fault.TheVariants.{OutOfMemory, WriteFailed}
use Rattle.crx_runs.specs.meaning.Messages.{error_text}
use Rattle.crx_runs.specs.meaning.Spans.{Device, TookAll, TookPart}
use Rattle.crx_command.specs.meaning.Planning.{Refusal}
use Rattle.crx_command.specs.meaning.ErrorLines.{IsLineOf}

-- the message of a fault before the first line
abbrev pub at_start : Fault → List ℕ
at_start fault = error_text (Some (record { line = 0; fault = fault }))

-- ---- messages

-- a line was written to the messages, whole or up to a failure
abbrev pub IsShown : Device → List ℕ → Type 0
IsShown messages line = TookAll messages line ⊎ TookPart messages line

-- the line was written or, if memory for it was refused, the message of that
abbrev pub IsShownOr : Device → List ℕ → Type 0
IsShownOr messages line = IsShown messages line ⊎ IsShown messages (at_start OutOfMemory)

-- ---- a run

-- the arguments are refused: the exit status is 1, and the line of the refusal is shown
abbrev pub IsRefused : Device → Refusal → ℕ → Type 0
IsRefused messages refusal status = (status ≡ 1) × ((line : List ℕ) × IsLineOf refusal line × IsShownOr messages line)

-- the help was written and flushed once; or a write failed, after which there is no flush, or the flush failed, which
-- is fault 21 at line 0; or memory for the help was refused
abbrev pub IsHelped : Device → Device → ℕ → Type 0
IsHelped writer messages status =
    ((status ≡ 0) × ((text : List ℕ) × writer.took text)
    × (writer.after ≡ with_flush writer.before) × writer.flushed × TookAll messages [])
    ⊎ (((status ≡ 1) × ((writer.after ≡ with_failed_write writer.before)
    ⊎ (writer.after ≡ with_failed_flush writer.before)) × IsShown messages (at_start WriteFailed))
    ⊎ ((status ≡ 1) × TookAll writer [] × IsShown messages (at_start OutOfMemory)))
