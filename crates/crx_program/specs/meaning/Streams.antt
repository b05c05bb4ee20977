-- The bytes that a run over standard streams read, wrote and reported, by the logs of its devices.
use Rattle.std.specs.Prelude.{◌≡◌, ◌⊎◌, ◌<◌, ℕ, Bool, true, false, List, [], ◌++◌, Option, Some, None}
use Rattle.std.specs.Option.{option_map}
use Rattle.std.specs.declared.fs.options.OpenOptions.{OpenOptions}
use Rattle.crx_base.specs.meaning.Lines.{lines_of}
use Rattle.crx_lines.specs.declared.device.Std.{Std}
use Rattle.crx_base.specs.meaning.Choices.{Choices}
use Rattle.crx_runs.specs.meaning.Interruptions.{complete_lines}
use Rattle.crx_runs.specs.meaning.Results.{Begins}
use Rattle.jiff.specs.declared.timestamp.Timestamp.{Timestamp}
use Rattle.crx_command.specs.declared.job.Job.{Job}
use Rattle.crx_program.specs.declared.log.Log.{Log}
use Rattle.crx_program.specs.declared.log.Logged.{Logged}
use Rattle.crx_program.specs.declared.streams.Closed.{Closed}
use Rattle.crx_program.specs.declared.streams.Whole.{Whole}
use Rattle.crx_program.specs.meaning.Calls.{Call}
use Rattle.crx_program.specs.meaning.Jobs.{calls_of, filter_of, tool_result, IsChosen, IsMadeBy}

-- ---- the bytes that passed through the devices

-- the reads of a run gave these bytes: all bytes of standard input, or all bytes of the file that the job names, with
-- none from standard input
abbrev pub ReadsGave : {I F : Type 0} → Option (List ℕ) → Option (Logged F) → Logged I → List ℕ → Type 0
ReadsGave None source input given = (source ≡ None) × (input.log.bytes ≡ given)
ReadsGave {F = F} (Some name) source input given = (file : Logged F) × (source ≡ Some file)
    × (file.opening.name.bytes ≡ name) × (file.log.bytes ≡ given) × (input.log.bytes ≡ [])

-- the writes of a run took these bytes: all bytes of standard output, or all bytes of the file that the job names,
-- which was opened as the job says, with none to standard output
abbrev pub WritesTook : {O G : Type 0} → Option (List ℕ) → Bool → Option (Logged G) → Logged O → List ℕ → Type 0
WritesTook None force target output written = (target ≡ None) × (output.log.bytes ≡ written)
WritesTook {G = G} (Some name) force target output written = (file : Logged G) × (target ≡ Some file)
    × IsMadeBy name force file.opening × (file.log.bytes ≡ written) × (output.log.bytes ≡ [])

-- a read of the input device reported the end
abbrev pub IsEndTold : {I F : Type 0} → Option (Logged (Std F)) → Logged (Std I) → Type 0
IsEndTold None input = 0 < input.inner.ends
IsEndTold (Some file) input = 0 < file.inner.ends

-- the last call of the output device was a flush without a failure
abbrev pub IsFlushedLast : {O G : Type 0} → Option (Logged (Std G)) → Logged (Std O) → Type 0
IsFlushedLast None output = output.inner.flushed ≡ true
IsFlushedLast (Some file) output = file.inner.flushed ≡ true

-- ---- by the bytes read

-- the whole output, messages and status of a job for these bytes
abbrev pub IsAllOf : Option Timestamp → Job → List ℕ → List ℕ → List ℕ → ℕ → Type 0
IsAllOf moment job given written reported status = (choices : Choices)
    × IsChosen moment job.tool job.date job.every job.skip choices
    × (written ≡ (tool_result job.tool choices given).output)
    × (reported ≡ (tool_result job.tool choices given).messages)
    × (status ≡ (tool_result job.tool choices given).status)

-- a prefix of a job's output for these bytes, whether or not more lines may follow
abbrev pub IsPrefixOf : Option Timestamp → Job → List ℕ → List ℕ → Type 0
IsPrefixOf moment job given written = (choices : Choices)
    × IsChosen moment job.tool job.date job.every job.skip choices
    × (Begins ((filter_of job.tool choices).so_far (complete_lines given)).output written
    ⊎ Begins ((filter_of job.tool choices).whole (lines_of given)).output written)

-- ---- a run

-- the run read its input to the end, and wrote and reported exactly the defined result
abbrev pub IsExact : {I O E F : Type 0} → Option Timestamp → Job → Whole I O E F → Type 0
IsExact moment job whole = (given : List ℕ) × (written : List ℕ)
    × ReadsGave job.source whole.source whole.input given × IsEndTold whole.source whole.input
    × WritesTook job.target job.force whole.target whole.output written × IsFlushedLast whole.target whole.output
    × IsAllOf moment job given written whole.messages.log.bytes whole.status

-- the run wrote a prefix of the defined output for the bytes it read; or no filter ran: nothing was read from standard
-- input or written to standard output, and no output file is returned
abbrev pub IsPrefix : {I O E F : Type 0} → Option Timestamp → Job → Whole I O E F → Type 0
IsPrefix moment job whole =
    ((given : List ℕ) × (written : List ℕ) × ReadsGave job.source whole.source whole.input given
    × WritesTook job.target job.force whole.target whole.output written × IsPrefixOf moment job given written)
    ⊎ ((whole.input.log.bytes ≡ []) × (whole.output.log.bytes ≡ []) × (whole.target ≡ None))

-- a run opened the files that its job names, by these names, as the job says and in order; or only the first of them,
-- or none; and no other file
abbrev pub OpensInOrder : Job → List Call → List Call → Type 0
OpensInOrder job before after = (made : List Call) × (rest : List Call)
    × (after ≡ before ++ made) × (made ++ rest ≡ calls_of job)

-- a run returned no file: it opened none, or closed those that it opened
abbrev pub HasNoFiles : {I O E F : Type 0} → Whole I O E F → Type 0
HasNoFiles whole = (whole.source ≡ None) × (whole.target ≡ None)

-- closing a run neither reads, writes nor reports anything more
pub record HasLogsOf {I O E F : Type 0} (whole : Whole I O E F) (closed : Closed) : Type 0 where
  pub input : closed.input.bytes ≡ whole.input.log.bytes
  pub output : closed.output.bytes ≡ whole.output.log.bytes
  pub messages : closed.messages.bytes ≡ whole.messages.log.bytes
  pub source : option_map (λ (log : Log). log.bytes) closed.source
      ≡ option_map (λ file. file.log.bytes) whole.source
  pub target : option_map (λ (log : Log). log.bytes) closed.target
      ≡ option_map (λ file. file.log.bytes) whole.target

-- ---- the first states of the devices

-- a device of this stream before its first byte, with no counts; a flush of it can succeed
abbrev pub IsUnused : {D : Type 0} → D → Logged (Std D) → Type 0
IsUnused stream device = (device.inner.inner ≡ stream) × (device.log.bytes ≡ []) × (device.inner.failures ≡ 0)
    × (device.inner.ends ≡ 0) × (device.inner.flushes ≡ 0) × (device.inner.is_broken ≡ false)

-- this is true of an unused device of this stream, with which the run began
abbrev pub FromUnused : {D : Type 0} → D → (Logged (Std D) → Type 0) → Type 0
FromUnused {D = D} stream holds = (first : Logged (Std D)) × IsUnused stream first × holds first

-- the device of a file that was just opened by this name, for writing if there are options: no byte has passed through
-- it, and no failure was counted
pub record IsFreshlyOpened {F : Type 0} (name : List ℕ) (how : Option OpenOptions) (device : Logged (Std F))
    : Type 0 where
  pub name_is : device.opening.name.bytes ≡ name
  pub how_is : device.opening.how ≡ how
  pub log : device.log.bytes ≡ []
  pub failures : device.inner.failures ≡ 0
