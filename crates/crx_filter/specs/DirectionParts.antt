-- The parts of a direction between two lines, and its steps.
use Rattle.std.specs.Prelude.{◌≡◌, ◌⊎◌, ◌<◌, ◌≤◌, ℕ, ◌+◌, Bool, true, false, not, List, [], length, map, Option, Some}
use Rattle.std.specs.Prelude.{Result, Ok, Err, IfOk, IfErr, OnErr}
use Rattle.crx_base.specs.declared.limits.TheConstants.{INPUT_LIMIT}
use Rattle.crx_base.specs.meaning.Lines.{InputLine}
use Rattle.crx_base.specs.meaning.AsRead.{ReadLine, Content, Overlong, as_read}
use Rattle.crx_base.specs.meaning.Choices.{Choices}
use Rattle.crx_base.specs.declared.fault.Fault.{Fault}
use Rattle.crx_base.specs.declared.fault.Fault.TheVariants.{OutOfMemory}
use Rattle.crx_header.specs.meaning.ObservationTypes.{Count}
use Rattle.crx_base.specs.declared.fault.At.{At}
use Rattle.crx_filter.specs.LineByLine.{RunState, Direction, Made, Rejects, Answer, Quiet, Ready, Notice, made_in}
use Rattle.crx_filter.specs.LineByLine.{failed_step, state_next}
use Rattle.crx_filter.specs.Memory.{may_reserve}
use Rattle.crx_filter.specs.EngineLines.{HasTaken}
use Rattle.crx_filter.specs.EngineSteps.{step_made}
use Rattle.crx_filter.specs.meaning.Reading.{can_go_on}
use Rattle.crx_filter.specs.Stages.{is_held, phase_of_stage}
use Rattle.crx_filter.specs.declared.stage.Stage.{Stage}
use Rattle.crx_runs.specs.Engines.{Awaited, IsAwaited, lines_handed_out}
use Rattle.crx_runs.specs.declared.engine.LineOutput.{LineOutput}
use Rattle.crx_runs.specs.declared.engine.LineOutput.TheVariants.{Nothing, Lines, AsItIs}
use Rattle.crx_runs.specs.declared.engine.Step.{Step}
use Rattle.crx_runs.specs.meaning.Filters.{with_next}

-- the stage, with the open epoch; the observation types in force; and the state of the epochs before
pub record DirectionParts (O K : Type 0) : Type 0 where
  pub stage : Stage
  pub begun : Option O
  pub types : List Count
  pub kept : K

-- the state of a direction, with the user's options and the number of the last line
abbrev pub state_by : {O K : Type 0} → Choices → ℕ → DirectionParts O K → RunState O K
state_by choices number parts = record {
  choices = choices;
  number = number;
  phase = phase_of_stage parts.begun parts.stage;
  types = parts.types;
  kept = parts.kept;
}

-- the parts of an engine: the user's options, the number of the last line that counts, its direction, and the answer
-- to the last line that had a fault
pub record EngineParts (D : Type 0) : Type 0 where
  pub options : Choices
  pub number : ℕ
  pub direction : D
  pub answer : Result Step At

-- the answer to a line: whether lines are ready
abbrev pub answer_for : Bool → Answer
answer_for false = Quiet
answer_for true = Ready

-- whether a line made lines ready, or its fault
abbrev pub hands_out : Result LineOutput Fault → Result Bool Fault
hands_out (Ok Nothing) = Ok false
hands_out (Ok Lines) = Ok true
hands_out (Ok AsItIs) = Ok true
hands_out (Err fault) = Err fault

-- the output of a line: the ready lines, and after them that line itself if it is copied
abbrev pub handed_out_by : Result LineOutput Fault → List ℕ → List (List ℕ) → List (List ℕ)
handed_out_by (Ok out) line ready = lines_handed_out (Some out) line ready
handed_out_by (Err fault) line ready = ready

-- the outcome of a line
abbrev pub made_at_parts : {U O K : Type 0} → Direction U O K → DirectionParts O K → List ℕ → Made U O
made_at_parts direction parts line =
    made_in direction (phase_of_stage parts.begun parts.stage) parts.types parts.kept (Content line)

-- a fault is the line's own, or memory ran out at a line that may reserve some
abbrev pub RefusesLine : {U O K : Type 0} → Direction U O K → DirectionParts O K → List ℕ → Fault → Type 0
RefusesLine direction parts line fault = (made_at_parts direction parts line ≡ Rejects fault)
    ⊎ ((fault ≡ OutOfMemory) × (may_reserve direction.reserves_first direction.reserves_next (phase_of_stage parts.begun parts.stage) (Content line)
    ≡ true))

-- the result of a direction for a line, with options that it serves: whether lines are ready, by the line's step; or
-- a fault, after which no line is ready, the types are unchanged, and so is the state that a fault leaves of the
-- epochs before
pub record Reads {U O K : Type 0} (direction : Direction U O K) (serves : Choices → Type 0)
    (before : DirectionParts O K) (line : List ℕ) (result : Result Bool Fault)
    (ready : List (List ℕ)) (after : DirectionParts O K) : Type 0 where
  pub takes : (choices : Choices) (number : ℕ) → serves choices → IfOk result (λ is_ready.
      record { answer = answer_for is_ready; handed_out = ready; next = state_by choices (number + 1) after }
      ≡ state_next direction (state_by choices number before) (Content line))
  pub refuses : IfErr result (RefusesLine direction before line)
  pub types : OnErr result (after.types ≡ before.types)
  pub kept : OnErr result (direction.emptied after.kept ≡ direction.emptied before.kept)
  pub nothing : OnErr result (ready ≡ [])

-- a direction with these options has taken these lines: its state is the state after them
pub record IsAfterLines {O K : Type 0} (chosen : Choices → Choices) (state_after_lines : Choices → List ReadLine → RunState O K)
    (choices : Choices) (lines : List InputLine) (parts : DirectionParts O K) : Type 0 where
  pub taken_as : chosen choices ≡ choices
  pub is_state : state_by choices (length lines) parts ≡ state_after_lines choices (map as_read lines)

-- a direction can take a line: none is ready, and it may count one more unit
pub record AwaitsLine (ready : List (List ℕ)) (count : ℕ) : Type 0 where
  pub drained : ready ≡ []
  pub within : count < INPUT_LIMIT

-- with a line it counts at most one unit, and none if it refuses the line
abbrev pub CountsOneAtMost : Result Bool Fault → ℕ → ℕ → Type 0
CountsOneAtMost (Ok is_ready) before after = after ≤ before + 1
CountsOneAtMost (Err fault) before after = after ≤ before

-- whether a line with this answer adds nothing: its fault is skipped and it isn't fed again, or it is too long and
-- passed over
abbrev pub brings_nothing : Answer → ReadLine → Bool
brings_nothing (Notice at again) line = not again
brings_nothing Quiet Overlong = true
brings_nothing answer line = false

module _ {U O K : Type 0} (direction : Direction U O K) (chosen : Choices → Choices)
    (state_after_lines : Choices → List ReadLine → RunState O K) where
  -- a direction with these options, which it takes as they are, has taken these lines, and this line is next: for the
  -- first time, or again after a warning
  pub record ComesAfter (choices : Choices) (lines : List InputLine) (line : InputLine)
      (parts : DirectionParts O K) : Type 0 where
    pub taken_as : chosen choices ≡ choices
    pub notices : List Awaited
    pub has_taken : HasTaken direction (state_after_lines choices)
        (state_by choices (length lines) parts) lines notices
    pub awaited : IsAwaited notices line

  -- notes that are right for the lines taken are right with the next line too, unless that is refused
  abbrev pub KnowsNext : DirectionParts O K → (Choices → List InputLine → Type 0)
      → (Choices → List InputLine → Type 0) → ℕ → InputLine → Result Bool Fault → Type 0
  KnowsNext before knew knows number line result = (choices : Choices) (lines : List InputLine)
      → ComesAfter choices lines line before → knew choices lines → number ≡ length lines + 1
      → IfOk result (λ is_ready. knows choices (with_next lines line))

  -- a direction has taken the line of this number, or refused it, with options that it serves, and these lines are
  -- ready then. It has made the line's step and still serves the options; it counts at most one more unit, and none
  -- if it refuses the line; and its notes stay right, with this line too if it took it
  pub record DirectionTakes (served : Choices → Type 0) (before : DirectionParts O K) (number : ℕ) (line : InputLine)
      (result : Result Bool Fault) (ready : List (List ℕ)) (after : DirectionParts O K)
      (serves : Choices → Bool) (counted count : ℕ) (knew knows : Choices → List InputLine → Type 0)
      : Type 0 where
    pub reads : Reads direction served before line.content result ready after
    pub serving : (choices : Choices) → served choices → serves choices ≡ true
    pub counts : CountsOneAtMost result counted count
    pub notes : KnowsNext before knew knows number line result
    pub stays : (choices : Choices) (lines : List InputLine) → knew choices lines → OnErr result (knows choices lines)

  -- notes that are right for the lines taken are right with this line too, if this one adds nothing
  abbrev pub KnowsStill : DirectionParts O K → (Choices → List InputLine → Type 0) → Type 0
  KnowsStill parts knows = (choices : Choices) (lines : List InputLine) (line : InputLine)
      → ComesAfter choices lines line parts → knows choices lines → brings_nothing (state_next direction
      (state_by choices (length lines) parts) (as_read line)).answer (as_read line) ≡ true
      → knows choices (with_next lines line)

-- lending ready lines changes nothing else: the parts, the count, the options that are served, the notes, and the
-- report
abbrev pub KeepsAllBeside : {O K : Type 0} → DirectionParts O K → DirectionParts O K → ℕ → ℕ
    → (Choices → Bool) → (Choices → Bool) → (Choices → List InputLine → Type 0)
    → (Choices → List InputLine → Type 0) → (List InputLine → Type 0) → (List InputLine → Type 0) → Type 0
KeepsAllBeside before after count counted served serves knew knows had_found has_found = (after ≡ before)
    × (counted ≡ count) × ((choices : Choices) → served choices ≡ true → serves choices ≡ true)
    × ((choices : Choices) (lines : List InputLine) → knew choices lines → knows choices lines)
    × ((lines : List InputLine) → had_found lines → has_found lines)

-- a direction was at this stage before a line with a fault. `goes_on`: reading may resume at the line
pub record WasAt {U O K : Type 0} (direction : Direction U O K) (stage : Stage) (goes_on : Bool) (line : ReadLine)
    (before after : DirectionParts O K) : Type 0 where
  pub stage_was : before.stage ≡ stage
  pub held : is_held stage before.begun ≡ true
  pub types : after.types ≡ before.types
  pub kept : direction.emptied after.kept ≡ direction.emptied before.kept
  pub goes : can_go_on line ≡ goes_on

-- the answer of an engine to the fault of a line that was counted
abbrev pub AnswersToFault : {U O K : Type 0} → Direction U O K → Choices → ℕ → Stage → Fault → Bool
    → DirectionParts O K → Result Step At → List (List ℕ) → RunState O K → Type 0
AnswersToFault {O = O} {K = K} direction choices number stage fault goes_on parts result ready after =
    (before : DirectionParts O K) (line : ReadLine) (last : ℕ)
    → WasAt direction stage goes_on line before parts → number ≡ last + 1
    → step_made result ready after ≡ failed_step direction (state_by choices last before) line fault
