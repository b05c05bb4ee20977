-- A job of the program: which filter runs, its input, its output and its options; or why none runs.
use Rattle.std.specs.Prelude.{◌≡◌, ◌⊎◌, ⊤, ℕ, Bool, true, false, List, [], ◌∷◌, ◌++◌, Option, Some, None, codes, if◌then◌else◌}
use Rattle.std.specs.Fs.{new_options, with_create, with_create_new, with_truncate, with_write}
use Rattle.std.specs.declared.fs.options.OpenOptions.{OpenOptions}
use Rattle.crx_lines.specs.declared.device.Sink.{Ghosts as SinkGhosts}
use Rattle.crx_lines.specs.declared.device.Source.{Ghosts as SourceGhosts}
use Rattle.crx_lines.specs.declared.device.Std.{Std}
use Rattle.crx_base.specs.declared.fault.Fault.TheVariants.{OutOfMemory}
use Rattle.crx_base.specs.declared.fault.At.{At}
use Rattle.crx_filter.specs.meaning.Directions.{check_filter}
use Rattle.crx_base.specs.meaning.Choices.{Choices, choices_of}
use Rattle.crx_filter.specs.meaning.Compacted.{compacted}
use Rattle.crx_filter.specs.meaning.Directions.{compaction_filter, expansion_filter}
use Rattle.crx_filter.specs.meaning.Expanded.{expanded}
use Rattle.crx_runs.specs.meaning.Spans.{Input, Device}
pub use Rattle.crx_runs.specs.meaning.Spans.{reader_span, span}
use Rattle.crx_runs.specs.meaning.Filters.{Filter}
use Rattle.crx_runs.specs.meaning.Results.{FilterResult}
use Rattle.crx_runs.specs.meaning.Runs.{RunsAs}
use Rattle.crx_filter.specs.meaning.Standard.{checked}
use Rattle.crx_command.specs.meaning.Dates.{IsDateOf}
use Rattle.jiff.specs.declared.timestamp.Timestamp.{Timestamp}
use Rattle.crx_command.specs.declared.job.Job.{Job}
use Rattle.crx_command.specs.declared.job.Tool.{Tool}
use Rattle.crx_command.specs.declared.job.Tool.TheVariants.{Compact, Expand, Check}
use Rattle.crx_command.specs.meaning.ErrorLines.{error_line}
use Rattle.crx_program.specs.declared.log.Logged.{Logged}
use Rattle.crx_program.specs.declared.log.Opening.{Opening}
use Rattle.crx_program.specs.meaning.Calls.{Call, options_to_read}
use Rattle.crx_program.specs.meaning.Program.{at_start, IsShownOr}

-- ---- a run

-- the options of a job; only a compaction uses the date
abbrev pub IsChosen : Option Timestamp → Tool → Option (List ℕ) → Option ℕ → Bool → Choices → Type 0
IsChosen moment tool (Some date) every skip choices = choices ≡ choices_of every skip date
IsChosen moment Compact None every skip choices =
    (date : List ℕ) × IsDateOf moment date × (choices ≡ choices_of every skip date)
IsChosen moment Expand None every skip choices = choices ≡ choices_of every skip []
IsChosen moment Check None every skip choices = choices ≡ choices_of every skip []

-- the result of a tool for an input, whole and line by line
abbrev pub tool_result : Tool → Choices → List ℕ → FilterResult
tool_result Compact choices input = compacted input choices
tool_result Expand choices input = expanded input choices
tool_result Check choices input = checked input

abbrev pub filter_of : Tool → Choices → Filter
filter_of Compact choices = compaction_filter choices
filter_of Expand choices = expansion_filter choices
filter_of Check choices = check_filter

-- a run of a tool, by the bytes that its reader gave: its output, its messages and its result
abbrev pub IsRunOf : Tool → Choices → Input → List ℕ → Device → Device → ℕ → Option At → Type 0
IsRunOf tool choices input given writer messages status fault =
    RunsAs (tool_result tool choices) (filter_of tool choices) input given writer messages status fault

-- a tool's filter ran from a reader to a writer and messages, and the status is its own
abbrev pub IsFiltered : Tool → Choices → Input → Device → Device → ℕ → Type 0
IsFiltered tool choices input writer messages status = (fault : Option At)
    × (given : List ℕ) × input.gave given × IsRunOf tool choices input given writer messages status fault

-- ---- a job

-- why no filter ran for a job: memory was refused before it, or a file couldn't be opened or made
pub data Hindrance : Type 0 where
  NoMemory : Hindrance
  CannotRead : List ℕ → Hindrance
  FileExists : List ℕ → Hindrance
  CannotCreate : List ℕ → Hindrance

-- the jobs that each of these can prevent: only a job that reads the file, makes it, or may not overwrite it
abbrev pub CanHinder : Hindrance → Job → Type 0
CanHinder NoMemory job = ⊤
CanHinder (CannotRead name) job = job.source ≡ Some name
CanHinder (FileExists name) job = (job.target ≡ Some name) × (job.force ≡ false)
CanHinder (CannotCreate name) job = job.target ≡ Some name

-- its message
abbrev pub line_of_hindrance : Hindrance → List ℕ
line_of_hindrance NoMemory = at_start OutOfMemory
line_of_hindrance (CannotRead name) = error_line (codes "cannot read ") name
line_of_hindrance (FileExists name) = error_line (codes "file exists: ") name
line_of_hindrance (CannotCreate name) = error_line (codes "cannot create ") name

-- ---- the calls that open files

-- the options for opening an output file: a file that exists is emptied if `force` is set; otherwise the call fails if
-- the file exists
abbrev pub options_of_target : Bool → OpenOptions
options_of_target force =
    if force then with_truncate (with_create (with_write new_options true) true) true
    else with_create_new (with_write new_options true) true

-- the call that opens the input file, if the job names one
abbrev pub call_to_read : Option (List ℕ) → List Call
call_to_read None = []
call_to_read (Some name) = record { name = name; how = options_to_read } ∷ []

-- the call that opens the output file, if the job names one
abbrev pub call_to_write : Option (List ℕ) → Bool → List Call
call_to_write None force = []
call_to_write (Some name) force = record { name = name; how = options_of_target force } ∷ []

-- the calls of a job, at most two
abbrev pub calls_of : Job → List Call
calls_of job = call_to_read job.source ++ call_to_write job.target job.force

-- the calls that were made if no filter ran: if memory was refused, none that makes or empties a file
abbrev pub MadeUntil : Hindrance → List Call → List Call → List Call → List Call → Type 0
MadeUntil NoMemory read written before after = (after ≡ before) ⊎ (after ≡ before ++ read)
MadeUntil (CannotRead name) read written before after = after ≡ before ++ read
MadeUntil (FileExists name) read written before after = after ≡ before ++ (read ++ written)
MadeUntil (CannotCreate name) read written before after = after ≡ before ++ (read ++ written)

-- no filter ran, a message says why, and the standard streams are as before
pub record IsNotBegun (job : Job) (messages : Device) (status : ℕ) (untouched : Type 0)
    (IsOpenedBefore : Hindrance → Type 0)
    : Type 0 where
  pub why : Hindrance
  pub can : CanHinder why job
  pub shown : IsShownOr messages (line_of_hindrance why)
  pub status_is : status ≡ 1
  pub same : untouched
  pub opened : IsOpenedBefore why

-- ---- the devices of files

-- a file was opened for writing by this name
abbrev pub IsMadeBy : List ℕ → Bool → Opening → Type 0
IsMadeBy name force opening = (opening.name.bytes ≡ name) × (opening.how ≡ Some (options_of_target force))

-- the device of a file that was opened by this name, and from which nothing was read yet
abbrev pub IsOpened : {F : Type 0} → List ℕ → Logged (Std F) → Type 0
IsOpened name device = (device.opening.name.bytes ≡ name) × (device.log.bytes ≡ [])
    × (device.inner.is_unread ≡ true)

-- a filter ran into the device of a file that was opened in this way, from a state without bytes and failures to the
-- state in which the device is returned
abbrev pub IsFilteredToFile : {G : Type 0}
    → SinkGhosts (Logged G) → Opening → Option (Logged G) → Tool → Choices → Input → Device → ℕ → Type 0
IsFilteredToFile {G = G} sink opening target tool choices input messages status =
    (first : Logged G) × (last : Logged G) × (target ≡ Some last) × (first.opening ≡ opening)
    × (first.log.bytes ≡ []) × (sink.failures first ≡ 0) × IsFiltered tool choices input (span sink first last) messages status

-- a filter ran into the file that the job names, or into the output if it names none
abbrev pub IsFilteredInto : {G : Type 0} → SinkGhosts (Logged G) → Option (List ℕ) → Bool → Option (Logged G)
    → Tool → Choices → Input → Device → Device → ℕ → Type 0
IsFilteredInto sink None force target tool choices input output messages status =
    (target ≡ None) × IsFiltered tool choices input output messages status
IsFilteredInto sink (Some name) force target tool choices input output messages status =
    (opening : Opening) × IsMadeBy name force opening
    × IsFilteredToFile sink opening target tool choices input messages status

-- a filter ran over the file that the job names, from a state without bytes, failures and end to the state in which the
-- device is returned; or over the input, if the job names none
abbrev pub IsFilteredFrom : {F G : Type 0} → SourceGhosts (Logged (Std F)) → SinkGhosts (Logged G)
    → Option (List ℕ) → Option (Logged (Std F)) → Option (List ℕ) → Bool → Option (Logged G)
    → Tool → Choices → Input → Device → Device → ℕ → Type 0
IsFilteredFrom sources sink None source target_name force target tool choices input output messages status =
    (source ≡ None) × IsFilteredInto sink target_name force target tool choices input output messages status
IsFilteredFrom {F = F} sources sink (Some name) source target_name force target tool choices input output messages
    status =
    (first : Logged (Std F)) × (last : Logged (Std F)) × (source ≡ Some last) × IsOpened name first
    × (sources.failures first ≡ 0) × (sources.ends first ≡ 0)
    × IsFilteredInto sink target_name force target tool choices (reader_span sources first last) output messages
    status

-- the job's filter ran with the job's options, after its files were opened
abbrev pub IsBegun : {F G : Type 0} → SourceGhosts (Logged (Std F)) → SinkGhosts (Logged G) → Option Timestamp → Job
    → Option (Logged (Std F)) → Option (Logged G) → Input → Device → Device → ℕ → List Call → List Call → Type 0
IsBegun sources sink moment job source target input output messages status before after = (choices : Choices)
    × IsChosen moment job.tool job.date job.every job.skip choices × (after ≡ before ++ calls_of job)
    × IsFilteredFrom sources sink job.source source job.target job.force target job.tool choices input output
    messages status

-- a job that was done or not begun; its files are read and written through the returned devices, and its calls are the
-- ones added to the log
abbrev pub IsJobDone : {F G : Type 0} → SourceGhosts (Logged (Std F)) → SinkGhosts (Logged G) → Option Timestamp → Job
    → Option (Logged (Std F)) → Option (Logged G) → Input → Device → Device → ℕ → Type 0
    → List Call → List Call → Type 0
IsJobDone sources sink moment job source target input output messages status untouched before after =
    IsBegun sources sink moment job source target input output messages status before after
    ⊎ IsNotBegun job messages status untouched
    (λ why. MadeUntil why (call_to_read job.source) (call_to_write job.target job.force) before after)

-- a job that was done or not begun, at some moment, through some devices of its files, and by some calls
abbrev pub IsJobEnded : {F G : Type 0} → SourceGhosts (Logged (Std F)) → SinkGhosts (Logged G) → Job
    → Input → Device → Device → ℕ → (Option (Logged G) → Type 0) → Type 0
IsJobEnded {F = F} {G = G} sources sink job input output messages status untouched =
    (moment : Option Timestamp) × (source : Option (Logged (Std F))) × (target : Option (Logged G))
    × (calls : List Call)
    × IsJobDone sources sink moment job source target input output messages status (untouched target) [] calls
