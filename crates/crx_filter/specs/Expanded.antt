-- Additions to meaning/Expanded for code and proofs.
use Rattle.crx_filter.specs.meaning.Directions.{compact_reading}
use Rattle.std.specs.Prelude.{ℕ, List}
use Rattle.crx_base.specs.meaning.AsRead.{ReadLine}
use Rattle.crx_compact.specs.meaning.CompactPlaces.{ReadEpoch}
use Rattle.crx_base.specs.meaning.Choices.{Choices}
use Rattle.crx_filter.specs.meaning.Items.{Item}
use Rattle.crx_base.specs.meaning.Lines.{lines_text}
use Rattle.crx_filter.specs.meaning.Written.{written_lines}
use Rattle.crx_filter.specs.meaning.Expanded.{expanded_unit}

-- ---- whole files

-- the lines of the RINEX text of some items
abbrev pub expanded_lines : List (Item ReadEpoch) → List (List ℕ)
expanded_lines items = written_lines expanded_unit items

-- the lines written for the units that are complete within the lines so far; the end of the input isn't judged
abbrev pub expansion_so_far : Choices → List ReadLine → List (List ℕ)
expansion_so_far choices lines = expanded_lines (compact_reading choices.skip lines).items

abbrev pub expanded_so_far : List ReadLine → Choices → List ℕ
expanded_so_far lines choices = lines_text (expansion_so_far choices lines)
