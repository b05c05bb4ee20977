-- The next line or the end for a task: its memory, and how many bytes a call uses.
use Rattle.std.specs.Prelude.{◌≡◌, ◌⊎◌, ◌<◌, ℕ, ◌+◌, ◌-◌, List, [], ◌∷◌, ◌++◌, length}
use Rattle.std.specs.Prelude.{take, Option, Some, None}
use Rattle.crx_base.specs.meaning.Lines.{InputLine}
use Rattle.crx_base.specs.meaning.AsRead.{ended_lines_of}
use Rattle.crx_base.specs.declared.fault.At.{At}
use Rattle.crx_runs.specs.meaning.Filters.{Filter}
use Rattle.crx_runs.specs.meaning.Messages.{notices_text}
use Rattle.crx_runs.specs.meaning.Results.{Course, FilterResult}
use Rattle.rnxcmp_c.specs.declared.limits.TheConstants.{READY_LIMIT}
use Rattle.rnxcmp_c.specs.meaning.Answers.{BothTexts}
use Rattle.rnxcmp_c.specs.meaning.Handles.{Task, TaskRun, run_for}

abbrev pub limit_for : Task → ℕ
limit_for task = (run_for task).limit

abbrev pub result_for : Task → List ℕ → FilterResult
result_for task = (run_for task).result

abbrev pub filter_for : Task → Filter
filter_for task = (run_for task).filter

-- the line after some lines may need memory after these of its warnings; the end needs none
abbrev pub memory_next : Filter → List InputLine → List InputLine → Option (List At)
memory_next filter lines [] = None
memory_next filter lines (line ∷ more) = filter.memory_after lines line

-- a line or the end needs memory after these of its warnings: for itself, or before any warning, to add to one of the
-- texts
abbrev pub AsksMemory : Option (List At) → Course → Course → List At → Type 0
AsksMemory memory before after notices = (memory ≡ Some notices)
    ⊎ ((notices ≡ []) × ((length before.output < length after.output)
    ⊎ (length (notices_text before.warnings) < length (notices_text after.warnings))))

-- `count` of these bytes were used; without the last one fewer than READY_LIMIT bytes waited: the output and messages
-- of the lines whose LF was fed, minus the texts that were taken
abbrev pub StopsSoon : TaskRun → List ℕ → BothTexts → List ℕ → ℕ → Type 0
StopsSoon run fed taken bytes count =
    let less : Course = run.filter.so_far (ended_lines_of (fed ++ take (count - 1) bytes)) in
    length (less.output ++ notices_text less.warnings) < length (taken.output ++ taken.messages) + READY_LIMIT
