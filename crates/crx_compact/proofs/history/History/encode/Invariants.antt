use Rattle.crx_compact.proofs.Vocabulary.{◌≡◌, ◌+◌, ◌-◌, if◌then◌else◌, length, take}
use Rattle.crx_compact.proofs.Vocabulary.{HaveRoom, KeepsRooms, AreRowsWritten, tail_of_history, no_tail}
use Rattle.crx_compact.specs.{Placing.HasAskedRoom, declared.block.TheConstants.{FIRST_LINES, LINES_LIMIT}}
use Rattle.crx_compact.proofs.history.History.encode.Given as goal

-- there is room for the satellites of the rows up to an index
abbrev pub invariant-loop-wanting : goal.invariant-loop-wanting
invariant-loop-wanting l = record {
  asked : HasAskedRoom l.initial.satellites l.satellites;
  room : HaveRoom (take l.prepared l.epoch.rows) l.satellites.rooms;
}

abbrev pub decreases-loop-wanting : goal.decreases-loop-wanting
decreases-loop-wanting l = length l.epoch.rows - l.prepared

-- the rows up to an index are written, and there is room for the satellites of all rows and space for the other lines
abbrev pub invariant-loop-row : goal.invariant-loop-row
invariant-loop-row l = record {
  written : AreRowsWritten (if l.in_full then no_tail else tail_of_history l.fn.self) (take l.index
      l.epoch.rows) l.self l.lines.lines;
  room : HaveRoom l.epoch.rows l.self.satellites.rooms;
  kept : KeepsRooms l.fn.self.satellites.rooms l.self.satellites.rooms;
  left : l.lines.left + l.index ≡ LINES_LIMIT;
  front : l.lines.front ≡ FIRST_LINES;
}

abbrev pub decreases-loop-row : goal.decreases-loop-row
decreases-loop-row l = length l.epoch.rows - l.index
