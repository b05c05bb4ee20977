-- All parts that columns and an encoder have between two lines of an input. By the law `columns_hold` a value that takes over these parts
-- of another is equal to it; so there is no further part, in which a record of the past lines could grow.
use Rattle.crx_compact.specs.declared.satellite.SatelliteHistory.TheInside.{Inside as SatelliteHistoryInside}
use Rattle.crx_compact.specs.declared.satellites.Satellites.TheInside.{Inside as SatellitesInside}
use Rattle.crx_compact.specs.declared.history.History.TheInside.{Inside as HistoryInside}
use Rattle.crx_compact.specs.declared.block.Block.TheInside.{Inside as BlockInside}
use Rattle.crx_compact.specs.declared.columns.Columns.TheInside.{Inside as ColumnsInside}
use Rattle.crx_compact.specs.declared.encoder.Encoder.TheInside.{Inside as EncoderInside}
use Rattle.crx_compact.specs.declared.ghost_tail.GhostTail.{GhostTail}
use Rattle.crx_rinex.specs.declared.rows_so_far.RowsSoFar.{RowsSoFar}

abbrev pub satellite_with : SatelliteHistoryInside → SatelliteHistoryInside → SatelliteHistoryInside
satellite_with one other = record one {
  indicators = other.indicators;
  arcs = other.arcs;
  count = other.count;
}

abbrev pub satellites_with : SatellitesInside → SatellitesInside → SatellitesInside
satellites_with one other = record one {
  known = other.known;
  order = other.order;
  places = other.places;
  placed = other.placed;
  live = other.live;
  next = other.next;
  hints = other.hints;
  alloc = other.alloc;
}

abbrev pub history_with : HistoryInside → HistoryInside → HistoryInside
history_with one other = record one {
  text = other.text;
  length = other.length;
  next_text = other.next_text;
  clock = other.clock;
  satellites = other.satellites;
  alloc = other.alloc;
}

abbrev pub block_with : BlockInside → BlockInside → BlockInside
block_with one other = record one {
  bytes = other.bytes;
  lengths = other.lengths;
  filled = other.filled;
  count = other.count;
  handed_out = other.handed_out;
  handed_out_bytes = other.handed_out_bytes;
  front = other.front;
}

abbrev pub columns_with : ColumnsInside → ColumnsInside → ColumnsInside
columns_with one other = record one {
  history = other.history;
  is_kept = other.is_kept;
  is_named = other.is_named;
  expected = other.expected;
  count = other.count;
  scratch = other.scratch;
  alloc = other.alloc;
}

-- the rows of an epoch so far, and the tail before it, with the parts of others: nothing is stored of them
abbrev pub rows_with : RowsSoFar → RowsSoFar → RowsSoFar
rows_with one other = record one { marker = other.marker; rows = other.rows }

abbrev pub ghost_tail_with : GhostTail → GhostTail → GhostTail
ghost_tail_with one other = record one { marker = other.marker; tail = other.tail }

abbrev pub encoder_with : EncoderInside → EncoderInside → EncoderInside
encoder_with one other = record one {
  history = other.history;
  is_kept = other.is_kept;
  in_full = other.in_full;
  is_open = other.is_open;
  made = other.made;
  scratch = other.scratch;
  before = ghost_tail_with one.before other.before;
  rows = rows_with one.rows other.rows;
}
