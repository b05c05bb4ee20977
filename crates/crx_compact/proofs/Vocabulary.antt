-- The names that these proofs use: the definitions of this crate, of those below and of std, each imported once.
pub use Rattle.crx_base.specs.declared.fault.Fault.{Fault}
pub use Rattle.crx_base.specs.declared.fault.Fault.TheVariants.{BadEpoch, BadSatellite, RepeatedSatellite}
pub use Rattle.crx_base.specs.declared.fault.Fault.TheVariants.{NotAnEpoch, OutOfMemory, BadClock, Truncated}
pub use Rattle.crx_base.specs.declared.fault.Fault.TheVariants.{BadField, BadFlags}
pub use Rattle.crx_base.specs.declared.limits.TheConstants.{HEAD_WIDTH, NAME_WIDTH, LINE_LIMIT, CLOCK_WIDTH}
pub use Rattle.crx_base.specs.declared.limits.TheConstants.{SATELLITES_LIMIT, OBSERVATION_WIDTH, DIGITS_LIMIT}
pub use Rattle.crx_base.specs.declared.limits.TheConstants.{WRITTEN_ORDER, TYPES_LIMIT}
pub use Rattle.crx_base.specs.meaning.Lines.{is_printable}
pub use Rattle.crx_base.specs.meaning.AsRead.{Content, ReadLine}
pub use Rattle.crx_compact.specs.ArcSteps.{shown_value, arc_of_value, code_of_value, arc_of_code, highest}
pub use Rattle.crx_compact.specs.ArcSteps.{value_of_code, differences_after, differences_by, onto_sum}
pub use Rattle.crx_compact.specs.ArcTails.{ArcTail, arc_tail, started_tail, differences_of, values_of}
pub use Rattle.crx_compact.specs.Cells.{value_at_place, CellsAreRead}
pub use Rattle.crx_compact.specs.HeldRows.{past_of_tail, IsAwaitedSatellite, held_row, arcs_of_tail}
pub use Rattle.crx_compact.specs.HeldRows.{held_from, past_of_row, row_held, row_held_from, AreHeldFlags}
pub use Rattle.crx_compact.specs.Laws.{AreWhole, patched_in_turn, CodesFit, has_no_epochs, LinesCanStand}
pub use Rattle.crx_compact.specs.Blocks.{cut, AreCut, PendingLines}
pub use Rattle.crx_compact.specs.OpenEpochs.{HasMade, HeldEpoch, held_after, next_step, placed_as, opened_raw}
pub use Rattle.crx_compact.specs.OpenEpochs.{Reading, is_idle, step_in, RawStep, with_rows, opening, row_step}
pub use Rattle.crx_compact.specs.OpenEpochs.{before_clock, tail_for_line, step_with_rows, place_of_step, Idle}
pub use Rattle.crx_compact.specs.OpenEpochs.{first_step, ColumnsState, epoch_after, whole_epoch, tail_opened}
pub use Rattle.crx_compact.specs.OpenEpochs.{tail_held, HasPrintedLines, whole_or_awaiting, raw_step_with_row}
pub use Rattle.crx_compact.specs.OpenLines.{columns_state, step_at}
pub use Rattle.crx_compact.specs.Placing.{IsRowRead, OpenHistory, tail_of_history, IsAnnounced, satellite_of}
pub use Rattle.crx_compact.specs.Placing.{PlacedRows, row_or_blank, HasRoom, HaveRoom, HasCome}
pub use Rattle.crx_compact.specs.Placing.{row_of_parts, padded_among, KeepsRooms, padded}
pub use Rattle.crx_compact.specs.PrintedBlocks.{lines_to}
pub use Rattle.crx_compact.specs.ReadingLaws.{HasSingleLines, Forgets}
pub use Rattle.crx_compact.specs.RowsSoFar.{AreAnnounced, NamesSatellites}
pub use Rattle.crx_compact.specs.ShownRows.{shown_epoch, shown_row}
pub use Rattle.crx_compact.specs.Steps.{flags_held, row_line_after, row_line_in, row_tail_after, row_tail_in}
pub use Rattle.crx_compact.specs.Steps.{lines_after_tail, no_tail, tail_after, tail_written_after}
pub use Rattle.crx_compact.specs.Steps.{raw_row_tail_after, raw_tail_after, tail_named, flags_of_tail}
pub use Rattle.crx_compact.specs.Steps.{cell_of_tail}
pub use Rattle.crx_compact.specs.Tails.{Tail, RowTail, tail_left, tail_of, raw_row_tail, tail_of_block}
pub use Rattle.crx_compact.specs.Written.{AreRowsWritten, epoch_by_rows}
pub use Rattle.crx_compact.specs.declared.columns.Expected.{Expected}
pub use Rattle.crx_compact.specs.declared.columns.Expected.TheVariants.{SatelliteLine}
pub use Rattle.crx_compact.specs.meaning.ArcValues.{since_start, value_of, value_since, in_range, is_within}
pub use Rattle.crx_compact.specs.meaning.Cells.{ReadCell, cell_read, cells_read, cells_of, after_cells}
pub use Rattle.crx_compact.specs.meaning.Cells.{cell_text}
pub use Rattle.crx_compact.specs.meaning.CompactPlaces.{satellites_of_text, satellite_line_read, row_of_cells}
pub use Rattle.crx_compact.specs.meaning.CompactPlaces.{satellites_of_line, clock_line_read, epoch_after_line}
pub use Rattle.crx_compact.specs.meaning.CompactPlaces.{epoch_at, rows_read, ReadEpoch, ReadRow, are_marks}
pub use Rattle.crx_compact.specs.meaning.CompactPlaces.{BegunEpoch, epoch_begun, epoch_of_rows, epoch_against}
pub use Rattle.crx_compact.specs.meaning.Compaction.{epoch_text, Marked, compact_epoch, since_full, arc_of}
pub use Rattle.crx_compact.specs.meaning.Compaction.{clock_arc, newest_text, indicators_before, codes_of}
pub use Rattle.crx_compact.specs.meaning.Compaction.{satellite_line, row_named, run_of, epoch_line}
pub use Rattle.crx_compact.specs.meaning.Differences.{code_at, difference, value_at, binomial, weighted}
pub use Rattle.crx_compact.specs.meaning.EpochText.{names_in, Satellite, satellites_named, satellite_before}
pub use Rattle.crx_compact.specs.meaning.Expansion.{RawEpoch, raw_row_named, raw_run_of, code_in, latest_mark}
pub use Rattle.crx_compact.specs.meaning.Expansion.{block_of, RawRow, overlaid, marks_of, shown, longest}
pub use Rattle.crx_compact.specs.meaning.Past.{Past, past_of_block, past_of_epochs, past_of_line}
pub use Rattle.crx_compact.specs.meaning.Sequences.{before_all, and_then, stretch, back_to, named}
pub use Rattle.crx_header.proofs.OtherIdentifiers.{apart-map, new_at, among-map, apart-push}
pub use Rattle.crx_header.specs.meaning.CompactHeader.{left_justified}
pub use Rattle.crx_header.specs.meaning.EpochColumns.{epoch_count, satellites_of, begins_epoch}
pub use Rattle.crx_header.specs.meaning.EpochColumns.{is_observation_flag, is_event_flag, is_event_line}
pub use Rattle.crx_header.specs.meaning.InOrder.{◌otherwise◌next◌, ◌or_else◌with◌}
pub use Rattle.crx_header.specs.meaning.ObservationTypes.{is_system, Count, IsAllowedCount, count_of}
pub use Rattle.crx_header.specs.meaning.Satellites.{is_among, are_apart, types_of_satellite, is_identifier}
pub use Rattle.crx_rinex.proofs.ReadingBack.{name-length}
pub use Rattle.crx_rinex.proofs.Rows.{satellites_few}
pub use Rattle.crx_rinex.specs.Epochs.{with_row, begun, is_full_epoch}
pub use Rattle.crx_rinex.specs.meaning.Epochs.{has_satellite, are_different, IsWholeEpoch, IsSoundEpoch}
pub use Rattle.crx_rinex.specs.meaning.Observations.{Row, Epoch, value_in}
pub use Rattle.crx_rinex.specs.meaning.Places.{Place, Done, Fails, then_place, one_line}
pub use Rattle.crx_rinex.specs.meaning.Places.{first_line, after_lines}
pub use Rattle.crx_rinex.specs.meaning.Printing.{printed_head, printed_row}
pub use Rattle.crx_rinex.specs.meaning.SatelliteLines.{IsSoundRow, HasItsTypes}
pub use Rattle.crx_text.proofs.Characters.{at, length-columns, at-without_end_blanks, columns-are, at-append}
pub use Rattle.crx_text.proofs.Characters.{list_all-from_at, at-append_past, at-drop}
pub use Rattle.crx_text.proofs.CodeTexts.{code_of-code_text}
pub use Rattle.crx_text.proofs.EachPlace.{length-each_place, index-each_place, each_place-same}
pub use Rattle.crx_text.proofs.EachPlace.{each_place-all, take-each_place, map-each_place}
pub use Rattle.crx_text.proofs.EndBlanks.{few_kept}
pub use Rattle.crx_text.specs.Codes.{IsPrintable, IsShort}
pub use Rattle.crx_text.specs.Texts.{patched, character_of}
pub use Rattle.crx_text.specs.declared.code.Code.{Code}
pub use Rattle.crx_text.specs.declared.code.Code.TheVariants.{Missing, Start, Step}
pub use Rattle.crx_text.specs.meaning.Codes.{code_text, code_of, first_cell, after_cell}
pub use Rattle.crx_text.specs.meaning.Columns.{before_end_blanks, without_end_blanks, is_blank, columns}
pub use Rattle.crx_text.specs.meaning.Columns.{character_at}
pub use Rattle.crx_text.specs.meaning.EachPlace.{each_place}
pub use Rattle.crx_text.specs.meaning.Numbers.{IsMissingOrWithin, IsValue, IsWithin}
pub use Rattle.crx_text.specs.meaning.Texts.{by_position, is_kept, mark_of, text_difference}
pub use Rattle.std.proofs.Common.{◌≡◌, refl, ℕ, zero, suc, ◌<◌, ◌≤◌, ◌⊎◌, List, [], ◌∷◌, take, Bool, true, w8}
pub use Rattle.std.proofs.Common.{false, ◌++◌, Option, Some, None, if◌then◌else◌, nat_eq, length, arith, inl}
pub use Rattle.std.proofs.Common.{inr, not-suc-le-zero, le_of_suc-le-suc, sym, ◌∙◌, ap, ◌+◌, ◌*◌, not, map}
pub use Rattle.std.proofs.Common.{drop, Result, Ok, Err, subst, ◌-◌, replicate, set, get_or, slice_get, ◌%◌}
pub use Rattle.std.proofs.Common.{slice_set, true≢false, All, ℤ, rules, min, ◌^◌, eqb, w64}
pub use Rattle.std.proofs.Math.Seq.{drop-append_seam, take-append-add}
pub use Rattle.std.proofs.lemmas.Bool.{and_parts, and_from, not-true, false≢true, eqb-true, cases_lt}
pub use Rattle.std.proofs.lemmas.Grind.{common_steps}
pub use Rattle.std.proofs.lemmas.Int.{ints, to_z-of_z}
pub use Rattle.std.proofs.lemmas.List.{length-map, length-set, take-take, length-take-le, take_more_set}
pub use Rattle.std.proofs.lemmas.List.{take_all, map-append, append-nil, take_at, get_or_past}
pub use Rattle.std.proofs.lemmas.List.{length-append, append_assoc, length-drop, drop-drop, drop-set-lt}
pub use Rattle.std.proofs.lemmas.List.Elements.{All-head, All-tail, All-from_recursion}
pub use Rattle.std.proofs.lemmas.Option.{same_Some, slice_get_within, slice_get-map}
pub use Rattle.std.proofs.lemmas.Result.{err_from_is_err_and}
pub use Rattle.std.proofs.lemmas.Simd.{map-map, length-chunk, length-zip2, mask_l-mod, tops_compared}
pub use Rattle.std.specs.Fmt.{signed_decimal}
pub use Rattle.std.specs.List.{list_all, AllByRecursion, list_any}
pub use Rattle.std.specs.Option.{option_map}
pub use Rattle.std.specs.Prelude.{◌&&◌, ◌||◌, ◌==◌, IfSome, unwrap_or, slice_index_or, pos, ⊤}
pub use Rattle.std.specs.Prelude.{◌≢◌, cond, flat_map, neg_ℤ, ◌-ℤ◌, ◌+ℤ◌, ◌*ℤ◌, MatchBool, is_some}
pub use Rattle.std.specs.Result.{is_ok}
pub use Rattle.std.specs.Str.{bytes_eq, all_ascii_digits}
