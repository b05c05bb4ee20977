-- The vocabulary of these proofs: the definitions of this crate, of the crates below, and of std.
pub use Rattle.std.proofs.Common.{◌≡◌, inl, inr, ℕ, Bool, true, List, [], ◌∷◌, ◌++◌, take, drop, Option, Some}
pub use Rattle.std.proofs.Common.{None, refl, sym, ap, ◌∙◌, append-nil, append_assoc, arith, length}
pub use Rattle.std.proofs.Common.{length-append, ◌⊎◌, ⊎_elim, subst, ◌-◌, ◌<◌, false, is_some, length-take}
pub use Rattle.std.proofs.Common.{◌+◌, ◌≤◌, ◌||◌, map, IfErr, IfOk, Result, rules}
pub use Rattle.std.proofs.Math.Seq.{take-append-add}
pub use Rattle.std.proofs.lemmas.List.{take-append-drop, take_all, take_at}
pub use Rattle.std.proofs.lemmas.Result.{IfErr-weaker, IfOk-weaker, on_ok_weaker, err_from_is_err_and}
pub use Rattle.crx_base.specs.declared.fault.At.{At}
pub use Rattle.crx_base.specs.declared.fault.Fault.TheVariants.{InputTooLong, OutOfMemory}
pub use Rattle.crx_base.specs.declared.limits.TheConstants.{INPUT_LIMIT, LINE_LIMIT}
pub use Rattle.crx_base.specs.meaning.Choices.{Choices}
pub use Rattle.crx_base.specs.meaning.Faults.{code_of_fault}
pub use Rattle.crx_base.specs.meaning.Lines.{InputLine, lines_of, without_return}
pub use Rattle.crx_base.specs.meaning.AsRead.{ended_lines_of, as_read}
pub use Rattle.crx_filter.proofs.following.CheckLawful.{check-lawful}
pub use Rattle.crx_filter.proofs.following.Lawful.{compaction-lawful, expansion-lawful}
pub use Rattle.crx_filter.proofs.standard.Lossless.{what-passes}
pub use Rattle.crx_filter.specs.meaning.Compacted.{compacted}
pub use Rattle.crx_filter.specs.meaning.Expanded.{expanded, whole_compact}
pub use Rattle.crx_filter.specs.meaning.Standard.{checked}
pub use Rattle.crx_lines.proofs.ProgressLemmas.{ended_lines-come_first}
pub use Rattle.crx_lines.specs.Reading.{HasNoFeed}
pub use Rattle.crx_runs.specs.Lawful.{IsLawful}
pub use Rattle.crx_runs.specs.declared.outcome.Outcome.{Outcome}
pub use Rattle.crx_runs.specs.declared.one_line.Halt.{Halt}
pub use Rattle.crx_runs.specs.declared.one_line.Halt.TheVariants.{Unwritten, Unreported}
pub use Rattle.crx_runs.specs.meaning.Filters.{Filter, with_next}
pub use Rattle.crx_runs.specs.meaning.Messages.{notices_text}
pub use Rattle.crx_runs.specs.meaning.Results.{Begins, Course, FilterResult, are_some, result_of_course}
pub use Rattle.crx_runs.specs.meaning.Spans.{AreNext, Device}
pub use Rattle.rnxcmp_c.specs.Going.{IsKept, StopsBy, IsText, IsGoing, MovesOn, piece_line, IsAll}
pub use Rattle.rnxcmp_c.specs.Going.{StopsShort, MovesWithin, PassesLimit, StepStops, line_reached}
pub use Rattle.rnxcmp_c.specs.Handles.{FeedsBy, FeedsBytes, HasFed, ReaderRuns, StandsBy, answer_now}
pub use Rattle.rnxcmp_c.specs.Handles.{HasEndedBy, HasFedBy, ReaderStands, engine_filter, has_ended_of}
pub use Rattle.rnxcmp_c.specs.Holding.{ready_in, texts_of_held, StopsCounted}
pub use Rattle.rnxcmp_c.specs.Opened.{Holds}
pub use Rattle.rnxcmp_c.specs.Past.{filter_for, memory_next, limit_for, result_for}
pub use Rattle.rnxcmp_c.specs.Waiting.{waiting}
pub use Rattle.rnxcmp_c.specs.declared.answer.Answer.{Answer}
pub use Rattle.rnxcmp_c.specs.declared.answer.TheConstants.{OUTPUT_LIMIT, MISUSED}
pub use Rattle.rnxcmp_c.specs.declared.engines.AnyEngine.{AnyEngine}
pub use Rattle.rnxcmp_c.specs.declared.engines.AnyEngine.TheVariants.{Compacting, Expanding, Checking}
pub use Rattle.rnxcmp_c.specs.declared.handle.Handle.{Handle}
pub use Rattle.rnxcmp_c.specs.declared.handle_state.HandleState.{HandleState}
pub use Rattle.rnxcmp_c.specs.declared.limits.TheConstants.{LINE_ROOM, READY_LIMIT}
pub use Rattle.rnxcmp_c.specs.declared.pending.Pending.{Pending}
pub use Rattle.rnxcmp_c.specs.declared.reader.Reader.{Reader}
pub use Rattle.rnxcmp_c.specs.declared.stop.Stop.{Stop}
pub use Rattle.rnxcmp_c.specs.declared.stop.Stop.TheVariants.{Fault, Limit}
pub use Rattle.rnxcmp_c.specs.meaning.Answers.{BothTexts, HasNoMemory, fault_code_in, bare_answer}
pub use Rattle.rnxcmp_c.specs.meaning.Answers.{status_in, line_in, KeepsToLimit, AnswersWithin, placed, rooms}
pub use Rattle.rnxcmp_c.specs.meaning.Handles.{RunHasEnded, RunHasResult, StopsAtLimit}
pub use Rattle.rnxcmp_c.specs.meaning.Handles.{StopsForMemory, StopsWhenFull, Task, run_for, with_one_more}
pub use Rattle.rnxcmp_c.specs.meaning.Handles.{Compact, Expand, Check, TaskRun, handle_answer, joined_texts}
pub use Rattle.rnxcmp_c.specs.meaning.Lossless.{CallBringsBackWhatPasses}
pub use Rattle.rnxcmp_c.specs.meaning.Promises.{CallBringsBackWhatWasCompacted, CallSavesAllElse}
