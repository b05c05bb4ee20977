-- Additions to meaning/Compacted for code and proofs.
use Rattle.crx_filter.specs.meaning.Directions.{rinex_reading}
use Rattle.std.specs.Prelude.{ℕ, List}
use Rattle.crx_base.specs.meaning.AsRead.{ReadLine}
use Rattle.crx_base.specs.meaning.Choices.{Choices}
use Rattle.crx_base.specs.meaning.Lines.{lines_text}
use Rattle.crx_filter.specs.meaning.Compacted.{compact_lines}

-- ---- whole files

-- the lines written for the units that are complete within the lines so far; the end of the input isn't judged
abbrev pub compaction_so_far : Choices → List ReadLine → List (List ℕ)
compaction_so_far choices lines = compact_lines choices (rinex_reading choices.skip lines).items

abbrev pub compacted_so_far : List ReadLine → Choices → List ℕ
compacted_so_far lines choices = lines_text (compaction_so_far choices lines)
