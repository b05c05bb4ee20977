-- The state of an engine of compaction.
use Rattle.std.specs.Prelude.{ℕ, List}
use Rattle.crx_rinex.specs.meaning.EpochPlaces.{OpenEpoch}
use Rattle.crx_filter.specs.CompactionByLine.{Written}
use Rattle.crx_filter.specs.CompactionParts.{CompactionState, compaction_parts}
use Rattle.crx_filter.specs.DirectionParts.{EngineParts, state_by}
use Rattle.crx_filter.specs.LenderState.{LenderParts, lines_then}
use Rattle.crx_filter.specs.LineByLine.{RunState}

abbrev pub compacting_state : EngineParts CompactionState → RunState OpenEpoch Written
compacting_state e = state_by e.options e.number (compaction_parts e.direction)

-- the pending lines
abbrev pub compacting_ready : EngineParts CompactionState → List (List ℕ)
compacting_ready e = e.direction.encoder.pending

-- the same of a lender
abbrev pub compactor_state : LenderParts CompactionState → RunState OpenEpoch Written
compactor_state l = compacting_state l.engine

abbrev pub compactor_ready : LenderParts CompactionState → List (List ℕ)
compactor_ready l = lines_then (compacting_ready l.engine) l.copied
