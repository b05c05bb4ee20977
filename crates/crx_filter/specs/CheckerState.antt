-- The state of an engine of a check.
use Rattle.std.specs.Prelude.{ℕ, List}
use Rattle.crx_rinex.specs.meaning.EpochPlaces.{OpenEpoch}
use Rattle.crx_filter.specs.CheckByLine.{Totals}
use Rattle.crx_filter.specs.CheckingParts.{CheckingState, checking_parts, pending_report}
use Rattle.crx_filter.specs.DirectionParts.{EngineParts, state_by}
use Rattle.crx_filter.specs.LineByLine.{RunState}

abbrev pub checking_state : EngineParts CheckingState → RunState OpenEpoch Totals
checking_state e = state_by e.options e.number (checking_parts e.direction)

-- the pending lines
abbrev pub checking_ready : EngineParts CheckingState → List (List ℕ)
checking_ready e = pending_report e.direction
