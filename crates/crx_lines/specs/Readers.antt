-- How a clause reads a reader of lines.
use Rattle.std.specs.Prelude.{◌≤◌, ◌-◌, ℕ, List, Option, Result}
use Rattle.crx_base.specs.declared.fault.At.{At}
use Rattle.crx_base.specs.declared.limits.TheConstants.{LINE_LIMIT}
use Rattle.crx_lines.specs.Reading.{AnswersAs, ReaderState}
use Rattle.crx_lines.specs.Window.{IsCut, cut_shown, kept}
use Rattle.crx_lines.specs.meaning.Devices.{tally_of}
use Rattle.crx_lines.specs.declared.device.Source.{Ghosts}
use Rattle.crx_lines.specs.declared.line.LineReader.{LineReader}
use Rattle.crx_lines.specs.declared.window.Cut.{Cut}

-- how far a reader of lines is
abbrev pub reading : LineReader → ReaderState
reading r = record { rest = kept r.window.value; passed = r.passed; number = r.number; phase = r.phase }

-- a taken line is in the window with a blank after it, and isn't too long
abbrev pub CanBeLent : List ℕ → Cut → Type 0
CanBeLent bytes cut = IsCut bytes cut × (cut.to - cut.from ≤ LINE_LIMIT)

-- the next line was taken from the pending bytes and those that the source returned after them, and is in the
-- window
abbrev pub TakesNextLine : {R : Type 0}
    → Ghosts R → LineReader → LineReader → R → R → Result (Option Cut) At → Type 0
TakesNextLine source old new before after result = (given : List ℕ) × source.gave before given after
    × AnswersAs (cut_shown new.window.value.bytes.items) (λ _. new.number)
    (reading old) given (source.at_end after)
    (tally_of (source.failures before) (source.ends before))
    (tally_of (source.failures after) (source.ends after)) result (reading new)
