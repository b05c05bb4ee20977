-- The output and messages for the items of a reading. Lists of items have the newest first.
use Rattle.std.specs.Prelude.{ℕ, List, [], ◌∷◌, ◌++◌, reverse}
use Rattle.crx_base.specs.declared.fault.At.{At}
use Rattle.crx_base.specs.meaning.Lines.{lines_text}
use Rattle.crx_rinex.specs.meaning.Units.{Unit}
use Rattle.crx_filter.specs.meaning.Items.{Item, Accepted, Warned}
use Rattle.crx_filter.specs.meaning.Reading.{WholeReading}
use Rattle.crx_runs.specs.meaning.Results.{Course, FilterResult, result_of_course}

-- the lines written for some items. `unit_lines`: the lines of a unit, after the items before it
abbrev pub written_lines : {E : Type 0} → (List (Item E) → Unit E → List (List ℕ)) → List (Item E) → List (List ℕ)
written_lines unit_lines [] = []
written_lines unit_lines (Accepted unit ∷ before) = written_lines unit_lines before ++ unit_lines before unit
written_lines unit_lines (Warned at ∷ before) = written_lines unit_lines before

-- the warnings among some items, newest first
abbrev pub warnings_in : {E : Type 0} → List (Item E) → List At
warnings_in [] = []
warnings_in (Accepted unit ∷ before) = warnings_in before
warnings_in (Warned at ∷ before) = at ∷ warnings_in before

-- the output, warnings and fault of the reading of a whole file
abbrev pub whole_course : {E : Type 0} → (List (Item E) → Unit E → List (List ℕ)) → WholeReading E → Course
whole_course unit_lines whole = record {
  output = lines_text (written_lines unit_lines whole.items);
  warnings = reverse (warnings_in whole.items);
  fault = whole.fault;
}

-- the result of the reading of a whole file
abbrev pub result_of : {E : Type 0} → (List (Item E) → Unit E → List (List ℕ)) → WholeReading E → FilterResult
result_of unit_lines whole = result_of_course (whole_course unit_lines whole)
