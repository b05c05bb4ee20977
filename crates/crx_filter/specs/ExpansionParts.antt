-- The parts of an expansion between two lines.
use Rattle.std.specs.Prelude.{ℕ, List, [], Option, if◌then◌else◌}
use Rattle.crx_compact.specs.Blocks.{PendingLines}
use Rattle.crx_compact.specs.OpenEpochs.{OpenRawEpoch}
use Rattle.crx_compact.specs.Tails.{Tail}
use Rattle.crx_filter.specs.CompactReaders.{compact_reader_parts}
use Rattle.crx_filter.specs.DirectionParts.{DirectionParts}
use Rattle.crx_filter.specs.RinexStages.{is_open_stage}
use Rattle.crx_filter.specs.declared.compact_reader.CompactReader.{CompactReader}

-- the reader, and the ready lines, or the lines already printed of the open epoch
pub record ExpansionState : Type 0 where
  pub reader : CompactReader
  pub lines : PendingLines

abbrev pub expansion_parts : ExpansionState → DirectionParts OpenRawEpoch (Option Tail)
expansion_parts e = compact_reader_parts e.reader

-- the ready lines: none while an epoch is open
abbrev pub expansion_ready : ExpansionState → List (List ℕ)
expansion_ready e = if is_open_stage e.reader.stage then [] else e.lines.lines
