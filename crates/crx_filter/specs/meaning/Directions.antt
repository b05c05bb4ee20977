-- Both directions and the check as filters: the output and messages for the lines so far, and for all lines of an
-- input. Lists of items have the newest first.
use Rattle.std.specs.Prelude.{List, ℕ, ◌+◌, Bool, false, [], drop, map, reverse, Option, Some, None}
use Rattle.crx_base.specs.meaning.AsRead.{ReadLine, as_read}
use Rattle.crx_base.specs.declared.fault.At.{At}
use Rattle.crx_rinex.specs.meaning.Observations.{Epoch}
use Rattle.crx_rinex.specs.meaning.Places.{Place, Done, Fails, NeedsMore}
use Rattle.crx_rinex.specs.meaning.Units.{Unit}
use Rattle.crx_compact.specs.meaning.CompactPlaces.{ReadEpoch}
use Rattle.crx_base.specs.meaning.Choices.{Choices}
use Rattle.crx_filter.specs.meaning.Items.{Item}
use Rattle.crx_filter.specs.meaning.Reading.{Reading, AtFault, AtLines, Looking, fault_of_stop, reading_from}
use Rattle.crx_filter.specs.meaning.Reading.{is_skipped, can_go_on}
use Rattle.std.specs.Prelude.{◌&&◌, ◌∷◌, ◌++◌, nat_lt, if◌then◌else◌}
use Rattle.crx_runs.specs.meaning.Results.{Course}
use Rattle.crx_filter.specs.meaning.Written.{written_lines, whole_course}
use Rattle.crx_base.specs.meaning.Lines.{lines_text}
use Rattle.crx_filter.specs.meaning.Written.{warnings_in}
use Rattle.crx_filter.specs.meaning.Standard.{Findings, findings_of, report_lines, whole_reading_of}
use Rattle.crx_base.specs.meaning.Lines.{InputLine}
use Rattle.crx_runs.specs.meaning.Filters.{Filter}
use Rattle.crx_filter.specs.meaning.Compacted.{compact_unit, rinex_place, whole_rinex}
use Rattle.crx_filter.specs.meaning.Expanded.{compact_place, expanded_unit, first_lines, whole_compact}

-- the reading of the lines of a RINEX file so far
abbrev pub rinex_reading : Bool → List ReadLine → Reading Epoch
rinex_reading skip lines = reading_from rinex_place skip [] 1 lines

-- the reading of the lines of compact text so far; its first two lines make no unit
abbrev pub compact_reading : Bool → List ReadLine → Reading ReadEpoch
compact_reading skip lines =
    elim (first_lines lines) [
      | Done two count ↦ reading_from compact_place skip [] (count + 1) (drop count lines)
      | Fails offset fault ↦ record { items = []; stop = AtFault (record { line = offset + 1; fault = fault }) }
      | NeedsMore ↦ record { items = []; stop = AtLines 1 lines }
    ]

-- the output, warnings and fault of an unfinished reading. `unit_lines`: the lines of a unit, after the items before
-- it
abbrev pub course_so_far : {E : Type 0} → (List (Item E) → Unit E → List (List ℕ)) → Reading E → Course
course_so_far unit_lines r = record {
  output = lines_text (written_lines unit_lines r.items);
  warnings = reverse (warnings_in r.items);
  fault = fault_of_stop r.stop;
}

-- the warning of an epoch that a line cuts off, which is reported before anything else of that line. The last
-- argument is the unit that the lines up to it begin with
abbrev pub warned_first : {E : Type 0} → Bool → List (Item E) → ℕ → ReadLine → Place (Unit E) → List At
warned_first skip items number line (Fails offset fault) =
    if is_skipped skip items fault && (nat_lt 0 offset && can_go_on line)
    then record { line = number + offset; fault = fault } ∷ [] else []
warned_first skip items number line here = []

abbrev pub cut_off_by : {E : Type 0} → (List (Item E) → List ReadLine → Place (Unit E)) → Bool → Reading E → ReadLine
    → List At
cut_off_by place skip r line =
    elim (r.stop) [
      | AtFault at ↦ []
      | AtLines number before ↦ warned_first skip r.items number line (place r.items (before ++ line ∷ []))
      | Looking number ↦ []
    ]

-- a compaction with these options
abbrev pub compaction_filter : Choices → Filter
compaction_filter choices = record {
  so_far = λ lines. course_so_far (compact_unit choices) (rinex_reading choices.skip (map as_read lines));
  whole = λ lines. whole_course (compact_unit choices) (whole_rinex choices.skip (map as_read lines));
  memory_after = λ lines line.
      Some (cut_off_by rinex_place choices.skip (rinex_reading choices.skip (map as_read lines)) (as_read line));
}

-- an expansion with these options
abbrev pub expansion_filter : Choices → Filter
expansion_filter choices = record {
  so_far = λ lines. course_so_far expanded_unit (compact_reading choices.skip (map as_read lines));
  whole = λ lines. whole_course expanded_unit (whole_compact choices.skip (map as_read lines));
  memory_after = λ lines line.
      Some (cut_off_by compact_place choices.skip (compact_reading choices.skip (map as_read lines)) (as_read line));
}

-- ---- a check

-- the fault that ended the reading of some lines
abbrev pub fault_so_far : List InputLine → Option At
fault_so_far lines = fault_of_stop (rinex_reading false (map as_read lines)).stop

abbrev pub report_unless : Option At → Findings → List ℕ
report_unless None found = lines_text (report_lines found)
report_unless (Some at) found = []

-- a check: at the end it writes the report, or nothing if there is a fault, and it never warns
abbrev pub check_filter : Filter
check_filter = record {
  so_far = λ lines. record { output = []; warnings = []; fault = fault_so_far lines };
  whole = λ lines. record {
    output = report_unless (whole_reading_of lines).fault (findings_of lines);
    warnings = [];
    fault = (whole_reading_of lines).fault;
  };
  memory_after = λ lines line. Some [];
}
