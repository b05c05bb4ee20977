-- The stage between two lines, as code stores it and as definitions see it.
use Rattle.std.specs.Prelude.{◌≡◌, ⊤, ℕ, Bool, true, false, List, Option, Some, None}
use Rattle.crx_compact.specs.OpenEpochs.{OpenRawEpoch}
use Rattle.crx_rinex.specs.meaning.EpochLines.{ObservationHead}
use Rattle.crx_rinex.specs.meaning.EpochPlaces.{OpenEpoch}
use Rattle.crx_rinex.specs.meaning.Observations.{Row}
use Rattle.crx_filter.specs.RinexStages.{is_open_stage, is_rinex_stage}
use Rattle.crx_filter.specs.LineByLine.{Phase as RunPhase, InFirstLines, InHeader, BetweenUnits, InEvent, InEpoch}
use Rattle.crx_filter.specs.LineByLine.{LookingOn, Closed as RunClosed, Ended as RunEnded}
use Rattle.crx_filter.specs.declared.stage.Stage.{Stage}
use Rattle.crx_filter.specs.declared.stage.Stage.TheVariants.{FirstLines, Header, Between, Event, Open, Looking}
use Rattle.crx_filter.specs.declared.stage.Stage.TheVariants.{Closed, Ended}

-- the phase of the stage `Open`
abbrev pub phase_of_open : {O : Type 0} → Option O → RunPhase O
phase_of_open None = BetweenUnits
phase_of_open (Some so_far) = InEpoch so_far

-- the phase of a stage with its open epoch
abbrev pub phase_of_stage : {O : Type 0} → Option O → Stage → RunPhase O
phase_of_stage held (FirstLines count) = InFirstLines count
phase_of_stage held (Header is_first) = InHeader is_first
phase_of_stage held Between = BetweenUnits
phase_of_stage held (Event left counted) = InEvent left counted
phase_of_stage held Open = phase_of_open held
phase_of_stage held Looking = LookingOn
phase_of_stage held Closed = RunClosed
phase_of_stage held (Ended at) = RunEnded at

-- the phase of a stage without the data of its open epoch
abbrev pub bare_phase : Stage → RunPhase ⊤
bare_phase stage = phase_of_stage (Some tt) stage

-- in the stage `Open` an epoch is open
abbrev pub is_held : {O : Type 0} → Stage → Option O → Bool
is_held Open None = false
is_held Open (Some so_far) = true
is_held (FirstLines count) held = true
is_held (Header is_first) held = true
is_held Between held = true
is_held (Event left counted) held = true
is_held Looking held = true
is_held Closed held = true
is_held (Ended at) held = true

-- whether a fault has ended the run
abbrev pub is_ended : Stage → Bool
is_ended (Ended at) = true
is_ended stage = false

-- whether a stage follows a fault or the end of the input
abbrev pub is_settled : Stage → Bool
is_settled Looking = true
is_settled Closed = true
is_settled (Ended at) = true
is_settled stage = false

-- a stage in which no epoch is open, with its phase in RINEX and in compact text
pub record IsClosedStage (stage : Stage) (rinex : RunPhase OpenEpoch) (compact : RunPhase OpenRawEpoch) : Type
    0 where
  pub rinex_phase : (held : Option OpenEpoch) → phase_of_stage held stage ≡ rinex
  pub compact_phase : (held : Option OpenRawEpoch) → phase_of_stage held stage ≡ compact
  pub consistent : (head : Option ObservationHead) (count : ℕ) (rows : List Row)
      → is_rinex_stage stage head count rows ≡ true
  pub closed : is_open_stage stage ≡ false
