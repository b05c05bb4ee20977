-- The state of an engine of expansion.
use Rattle.std.specs.Prelude.{ℕ, List, Option}
use Rattle.crx_compact.specs.OpenEpochs.{OpenRawEpoch}
use Rattle.crx_compact.specs.Tails.{Tail}
use Rattle.crx_filter.specs.DirectionParts.{EngineParts, state_by}
use Rattle.crx_filter.specs.ExpansionParts.{ExpansionState, expansion_parts, expansion_ready}
use Rattle.crx_filter.specs.LenderState.{LenderParts, lines_then}
use Rattle.crx_filter.specs.LineByLine.{RunState}

abbrev pub expanding_state : EngineParts ExpansionState → RunState OpenRawEpoch (Option Tail)
expanding_state e = state_by e.options e.number (expansion_parts e.direction)

-- the pending lines
abbrev pub expanding_ready : EngineParts ExpansionState → List (List ℕ)
expanding_ready e = expansion_ready e.direction

-- the same of a lender
abbrev pub expander_state : LenderParts ExpansionState → RunState OpenRawEpoch (Option Tail)
expander_state l = expanding_state l.engine

abbrev pub expander_ready : LenderParts ExpansionState → List (List ℕ)
expander_ready l = lines_then (expanding_ready l.engine) l.copied
