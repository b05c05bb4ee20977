-- The vocabulary of these proofs: the definitions of the crates below and of std, each imported once.
pub use Rattle.std.proofs.Common.{ℕ, ◌≡◌, ◌+◌, List, [], ◌∷◌, ◌++◌, length, Option, sym, subst, refl, arith}
pub use Rattle.std.proofs.Common.{length-append, zero, suc, Bool, true, false, Some, Result, Ok, Err, ap, ◌∙◌}
pub use Rattle.std.proofs.Common.{None, map, ◌⊎◌, inl, inr, ◌-◌, max, ◌<◌, ◌≤◌, cond, drop, append-nil}
pub use Rattle.std.proofs.Common.{true≢false, append_assoc, rules, ◌≢◌, take, replicate, ◌*◌, ℤ}
pub use Rattle.std.proofs.{Common.if◌then◌else◌, Math.Seq.drop-append_seam, lemmas.Bool.{and_parts, not-true}}
pub use Rattle.std.proofs.lemmas.Bool.{ne_eqb, and_from, ltb-false, false≢true, Decides.eqb_tells}
pub use Rattle.std.proofs.lemmas.{Grind.{common_steps, flat_map-append}, List.{length-map, map-append}}
pub use Rattle.std.proofs.lemmas.List.{reverse-append, drop-append-le, length-drop, Elements.All-cons}
pub use Rattle.std.proofs.lemmas.{List.Elements.{All-nil, All-head, All-tail}, Option.none-some}
pub use Rattle.std.specs.{List.{list_all, AllByRecursion, flat_map}, Option.is_some, Prelude.{reverse, ◌&&◌}}
pub use Rattle.std.specs.{Prelude.{not, ◌||◌, ◌==◌, ⊤, nat_lt, All}, Str.bytes_eq}
pub use Rattle.crx_text.specs.meaning.{Codes.code_of, Columns.{without_end_blanks, character_at, columns}}
pub use Rattle.crx_text.specs.meaning.{Columns.is_blank, Numbers.{clock_text, clock_of}}
pub use Rattle.crx_text.specs.meaning.{PrintedCells.printed_cells, Texts.is_kept}
pub use Rattle.crx_base.specs.declared.fault.{At.At, Fault.{Fault, TheVariants.BadEpoch}}
pub use Rattle.crx_base.specs.declared.fault.Fault.TheVariants.{LineTooLong, Truncated, BadClock}
pub use Rattle.crx_base.specs.declared.fault.Fault.TheVariants.{BadField}
pub use Rattle.crx_base.specs.declared.fault.Fault.TheVariants.{OutOfMemory}
pub use Rattle.crx_base.specs.declared.limits.TheConstants.{LINE_LIMIT, TYPES_LIMIT, OBSERVATION_WIDTH}
pub use Rattle.crx_base.specs.declared.limits.TheConstants.{CLOCK_WIDTH, NAME_WIDTH}
pub use Rattle.crx_base.specs.meaning.{AsRead.{ReadLine, Content, as_read, Overlong}, Choices.Choices}
pub use Rattle.crx_base.specs.meaning.{Choices.is_date, Faults.is_skippable, Lines.{is_printable, InputLine}}
pub use Rattle.crx_base.specs.meaning.Lines.{lines_text, ends_with_return, Piece, pieces_of, onto_first}
pub use Rattle.crx_base.specs.meaning.Lines.{without_return, line_of, lines_of, is_long}
pub use Rattle.crx_compact.specs.{Laws.LinesCanStand, OpenEpochs.{OpenRawEpoch, RawStep, first_step}}
pub use Rattle.crx_compact.specs.{OpenEpochs.{next_step, open_raw_after, open_raw_with}, ReadingLaws.IsGood}
pub use Rattle.crx_compact.specs.{Steps.{lines_after_tail}, Tails.Tail, Written.epoch_by_rows}
pub use Rattle.crx_compact.specs.meaning.{Cells.cell_read, CompactPlaces.{ReadEpoch, epoch_at}}
pub use Rattle.crx_compact.specs.meaning.CompactPlaces.{satellites_of_line, BegunEpoch, epoch_begun}
pub use Rattle.crx_compact.specs.meaning.CompactPlaces.{clock_line_read, satellite_line_read, rows_read}
pub use Rattle.crx_compact.specs.meaning.{CompactPlaces.{epoch_after_line}, Compaction.Marked}
pub use Rattle.crx_compact.specs.meaning.{Compaction.{compact_epoch, epoch_line}, EpochText.Satellite}
pub use Rattle.crx_compact.specs.meaning.{Expansion.{RawEpoch, block_of}, Past.{Past, past_of_line}}
pub use Rattle.crx_compact.specs.meaning.{Past.{past_of_block}, Sequences.and_then}
pub use Rattle.crx_filter.{proofs.CasesOfTests.{by_bool, false-true}, specs.Anew.{IsBetweenUnits, starts_anew}}
pub use Rattle.crx_filter.specs.{Anew.GoOnAlike, CheckByLine.{checking, no_choices, totals_of, Totals}}
pub use Rattle.crx_filter.specs.CheckByLine.{printed_open, printed_so_far, printed_made, earliest, CheckState}
pub use Rattle.crx_filter.specs.CheckByLine.{check_state, check_by_line, check_reading}
pub use Rattle.crx_filter.specs.{CheckingParts.checker_state_with, Compacted.compacted_so_far}
pub use Rattle.crx_filter.specs.CompactionByLine.{compaction, made_of_epoch_step, rinex_begins, Written}
pub use Rattle.crx_filter.specs.CompactionByLine.{compaction_state, rinex_open, written_of, made_of_beginning}
pub use Rattle.crx_filter.specs.{CompactionByLine.{compact_written, written_kept}, EngineSteps.answer_of_step}
pub use Rattle.crx_filter.specs.{EngineSteps.{step_made, Steps}, Expanded.{expanded_lines, expanded_so_far}}
pub use Rattle.crx_filter.specs.ExpansionByLine.{expansion, expansion_state, made_of_raw_step, tail_of_items}
pub use Rattle.crx_filter.specs.{ExpansionByLine.{begins_event, compact_open}, Laws.{fed, noticed_by}}
pub use Rattle.crx_filter.specs.Laws.{IsFollowed, IsEndedBy, IsReadyWhereHandedOut, IsReadForward, Fed}
pub use Rattle.crx_filter.specs.Laws.{fed_once, fed_twice, is_again, continued_reading, failed_by, AreInPlace}
pub use Rattle.crx_filter.specs.{Laws.{ItemsAreRead, IsInPlace, IsWrittenFirst}, LineByLine.Direction}
pub use Rattle.crx_filter.specs.LineByLine.{RunState, state_of, Completes, Made, Notice, state_next}
pub use Rattle.crx_filter.specs.LineByLine.{state_end, Phase, InHeader, BetweenUnits, InEvent, InEpoch}
pub use Rattle.crx_filter.specs.LineByLine.{LookingOn, Ended, Moves, Rejects, Failed, Step, with_records_left}
pub use Rattle.crx_filter.specs.LineByLine.{phase_after, types_after, may_skip, is_in_epoch, is_skipped_in}
pub use Rattle.crx_filter.specs.LineByLine.{kept_in, with_phase, after_warning, failed_step, step_of_made}
pub use Rattle.crx_filter.specs.LineByLine.{phase_in_body, phase_after_items, made_of_unit, made_in, phase_of}
pub use Rattle.crx_filter.specs.LineByLine.{Answer, InFirstLines, Closed, Ended as RunEnded, Step as LineStep}
pub use Rattle.crx_filter.specs.{Memory.may_reserve, RinexReaders.{epoch_open, made_at}}
pub use Rattle.crx_filter.specs.RinexReaders.{reader_phase, CompletedEpoch, IsSameReader, MovesReader}
pub use Rattle.crx_filter.specs.RinexReaders.{TakesRow}
pub use Rattle.crx_filter.specs.{RinexReaders.{TakesRinexLine, Completed}, RinexStages.is_open_stage}
pub use Rattle.crx_filter.specs.{Stages.{is_held, phase_of_stage}, declared.totals.Totals.Totals as Held}
pub use Rattle.crx_filter.specs.declared.rinex_reader.{RinexReader.RinexReader, RinexStep.RinexStep}
pub use Rattle.crx_filter.specs.declared.rinex_reader.RinexStep.TheVariants.{Nothing, Header, Begun}
pub use Rattle.crx_filter.specs.declared.stage.Stage.{Stage, TheVariants.Open}
pub use Rattle.crx_filter.specs.meaning.Compacted.{compact_unit, rinex_place, epochs_accepted, is_at_every}
pub use Rattle.crx_filter.specs.meaning.Compacted.{is_in_full, marked_epochs, whole_rinex, compact_lines}
pub use Rattle.crx_filter.specs.meaning.{Compacted.{compacted, is_interrupted}, Accounts.with_epochs}
pub use Rattle.crx_filter.specs.Damage.{BeginsAnew}
pub use Rattle.crx_filter.specs.Damage.{lines_of_epochs, lines_after}
pub use Rattle.crx_filter.specs.meaning.Directions.{rinex_reading, compact_reading, compaction_filter}
pub use Rattle.crx_filter.specs.meaning.Directions.{expansion_filter}
pub use Rattle.crx_filter.specs.meaning.{Directions.check_filter, Expanded.{expanded_unit, whole_compact}}
pub use Rattle.crx_filter.specs.meaning.Expanded.{raws_kept, empties_state, event_line, as_observation}
pub use Rattle.crx_filter.specs.meaning.Expanded.{compact_place, crinex_version, crinex_program, first_lines}
pub use Rattle.crx_filter.specs.meaning.Expanded.{expanded, compact_epoch_place}
pub use Rattle.crx_filter.specs.meaning.Items.{Item, types_in_force, Accepted, Warned, is_at_start}
pub use Rattle.crx_filter.specs.meaning.Items.{header_has_ended, records_announced, records_left}
pub use Rattle.crx_filter.specs.meaning.Items.{counts_types, records_count_types, declaring_lines}
pub use Rattle.crx_filter.specs.meaning.{Reading.{Reading, reading_from, fault_of_stop}}
pub use Rattle.crx_filter.specs.meaning.Reading.{WholeReading, AtFault, AtLines, Looking, is_skipped}
pub use Rattle.crx_filter.specs.meaning.Reading.{can_go_on, looked_for, reading_within, Stop, fault_at_end}
pub use Rattle.crx_filter.specs.meaning.Reading.{ended_with, ended_reading, whole_reading, after_fault}
pub use Rattle.crx_filter.specs.meaning.Standard.{whole_reading_of, findings_of, printed_items}
pub use Rattle.crx_filter.specs.meaning.Standard.{is_standard_line, first_not_standard, whole_of, IsStandard}
pub use Rattle.crx_filter.specs.meaning.Standard.{normal_form, checked_by, checked}
pub use Rattle.crx_filter.specs.meaning.Stretches.{Stretch, up_to_end, up_to_next}
pub use Rattle.crx_filter.specs.meaning.Stretches.{with_stretches, IsStretch, AreStretches}
pub use Rattle.crx_filter.specs.meaning.UnitPlaces.{unit_place, unless_wrong, types_fault, header_line_fault}
pub use Rattle.crx_filter.specs.meaning.{UnitPlaces.{header_line, event_record}, WayBack.OfCopiedLine}
pub use Rattle.crx_filter.specs.meaning.WayBack.{OfCopiedLines, HaveNoReturns, written_well, HasNormalForm}
pub use Rattle.crx_filter.specs.meaning.Written.{warnings_in, written_lines, result_of}
pub use Rattle.crx_header.specs.declared.crinex.TheConstants.{CRINEX_PROGRAM_LABEL}
pub use Rattle.crx_header.specs.meaning.CompactHeader.{version_line, program_line}
pub use Rattle.crx_header.specs.meaning.EpochColumns.{is_event_line, records_in, begins_epoch}
pub use Rattle.crx_header.specs.meaning.ObservationTypes.{Count, types_of, count_in, is_types_line}
pub use Rattle.crx_header.specs.meaning.Satellites.{types_of_satellite}
pub use Rattle.crx_lines.specs.Reading.{HasNoFeed}
pub use Rattle.crx_rinex.specs.EpochPlaces.{EpochStep, Going, Whole, Faulty, after_row, epoch_step}
pub use Rattle.crx_rinex.specs.{EpochPlaces.when_wanted, Printing.last_line, Steady.{Remains, IsDecidedAfter}}
pub use Rattle.crx_rinex.specs.{Steady.IsSteady, meaning.EpochLines.{HeadLine, EventHead, EpochHead, head_of}}
pub use Rattle.crx_rinex.specs.meaning.EpochLines.{event_head, epoch_head, ObservationHead}
pub use Rattle.crx_rinex.specs.meaning.EpochPlaces.{OpenEpoch, next_row, rows_wanted, with_next_row}
pub use Rattle.crx_rinex.specs.meaning.EpochPlaces.{epoch_place, Beginning, EventBegins, EpochBegins}
pub use Rattle.crx_rinex.specs.meaning.EpochPlaces.{beginning_of, opened, epoch_of, rows_at, begun_by}
pub use Rattle.crx_rinex.specs.meaning.{EpochPlaces.{rest_at, unit_begun}, Epochs.IsWholeEpoch}
pub use Rattle.crx_rinex.specs.meaning.{Epochs.has_satellite, Observations.{Epoch, Row}}
pub use Rattle.crx_rinex.specs.meaning.{Observations.Epoch as ObservationEpoch, Places.{Place, Done, Fails}}
pub use Rattle.crx_rinex.specs.meaning.Places.{NeedsMore, one_line, after_lines, then_place, first_line}
pub use Rattle.crx_rinex.specs.meaning.{Printing.{printed_epoch, printed_row}, SatelliteLines.IsSoundRow}
pub use Rattle.crx_rinex.specs.meaning.{SatelliteLines.row_of, Units.{Unit as FileUnit, Observation}}
pub use Rattle.crx_rinex.specs.meaning.Units.{HeaderLine, EventLine, EventRecord, printed_unit}
pub use Rattle.crx_runs.specs.{Lawful.{IsLawful, is_of_lines}, meaning.Filters.with_next}
pub use Rattle.crx_runs.specs.meaning.{Messages.notices_text, Results.{Begins, result_of_course}}
pub use Rattle.crx_runs.specs.meaning.{Results.FilterResult, Runs.IsResult, Spans.Device}
