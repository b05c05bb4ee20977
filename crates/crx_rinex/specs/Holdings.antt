-- Everything that epochs and their parts hold between two lines of an input. By the law `epochs_hold` a value
-- with these parts of another one is equal to it, so no record of the past lines can grow in it.
use Rattle.crx_header.specs.declared.types.Types.TheInside.{Inside as TypesInside}
use Rattle.crx_rinex.specs.declared.satellite_row.SatRow.TheInside.{Inside as SatRowInside}
use Rattle.crx_rinex.specs.declared.row_buffer.RowBuffer.TheInside.{Inside as RowBufferInside}
use Rattle.crx_header.specs.declared.identifiers.Identifiers.TheInside.{Inside as IdentifiersInside}
use Rattle.crx_rinex.specs.declared.epoch_line.EpochLine.TheInside.{Inside as EpochLineInside}
use Rattle.crx_rinex.specs.declared.epoch.Epoch.TheInside.{Inside as EpochInside}

-- counts of types, with the parts of another
abbrev pub types_with : TypesInside → TypesInside → TypesInside
types_with one other = record one {
  counts = other.counts;
  by_letter = other.by_letter;
}

-- a row, with the parts of another
abbrev pub row_with_parts : SatRowInside → SatRowInside → SatRowInside
row_with_parts one other = record one {
  name = other.name;
  values = other.values;
  flags = other.flags;
}

-- the row of the line read last, with the parts of another
abbrev pub row_buffer_with : RowBufferInside → RowBufferInside → RowBufferInside
row_buffer_with one other = record one {
  name = other.name;
  count = other.count;
  filled = other.filled;
  values = other.values;
  flags = other.flags;
}

-- identifiers, with the parts of another
abbrev pub identifiers_with : IdentifiersInside → IdentifiersInside → IdentifiersInside
identifiers_with one other = record one { there = other.there }

-- an epoch line, with the parts of another
abbrev pub epoch_line_with : EpochLineInside → EpochLineInside → EpochLineInside
epoch_line_with one other = record one {
  head = other.head;
  count = other.count;
  clock = other.clock;
}

-- an epoch, with the parts of another
abbrev pub epoch_with : EpochInside → EpochInside → EpochInside
epoch_with one other = record one {
  head = other.head;
  rows = other.rows;
  names = other.names;
}
