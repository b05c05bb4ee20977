-- How a clause reads a buffer. Public clauses cite this module only through the parts that a reader holds.
use Rattle.std.specs.Prelude.{◌≡◌, ◌+◌, ◌-◌, ◌≤◌, ℕ, List, length, slice_index, slice_range}
use Rattle.crx_base.specs.meaning.Lines.{InputLine}
use Rattle.crx_base.specs.declared.padded.TheConstants.{PADDING}
use Rattle.crx_lines.specs.declared.window.Cut.{Cut}
use Rattle.crx_lines.specs.declared.window.Window.{Window}

-- the pending bytes
abbrev pub kept : Window → List ℕ
kept w = slice_range w.bytes.items w.start w.end

-- a taken line is as long as its places say, and a blank and padding follow it
abbrev pub IsCut : List ℕ → Cut → Type 0
IsCut bytes cut = (cut.from ≤ cut.to) × (cut.to + PADDING ≤ length bytes) × (slice_index bytes cut.to ≡ 32)
    × (length (slice_range bytes cut.from cut.to) ≡ cut.to - cut.from)

-- the taken line, from the bytes of the window
abbrev pub cut_shown : List ℕ → Cut → InputLine
cut_shown bytes cut = record { content = slice_range bytes cut.from cut.to; is_plain = cut.is_plain }
