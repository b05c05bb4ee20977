-- Filters whose runs over any input have their defined results.
use Rattle.std.specs.Prelude.{◌≡◌, Bool, true, false, List, [], ◌++◌, Some, None}
use Rattle.crx_base.specs.meaning.Lines.{InputLine}
use Rattle.crx_base.specs.declared.fault.At.{At}
use Rattle.crx_base.specs.declared.fault.Fault.{Fault}
use Rattle.crx_base.specs.declared.fault.Fault.TheVariants.{InputTooLong, ReadFailed, WriteFailed, OutOfMemory}
use Rattle.crx_runs.specs.meaning.Filters.{Filter}
use Rattle.crx_runs.specs.meaning.Results.{Begins}

-- whether a fault can be one of a line or of the end of the input: not of the input's limit, a device or
-- memory
abbrev pub is_of_lines : Fault → Bool
is_of_lines InputTooLong = false
is_of_lines ReadFailed = false
is_of_lines WriteFailed = false
is_of_lines OutOfMemory = false
is_of_lines fault = true

-- before the first line there is no output. A fault of the lines so far is the fault of the whole input, and
-- ends output and warnings. The output of some lines is a prefix of the output of more lines, and of the
-- whole output. The faults that a filter finds are faults of lines
pub record IsLawful (filter : Filter) : Type 0 where
  pub nothing : filter.so_far [] ≡ record { output = []; warnings = []; fault = None }
  pub decided : (lines more : List InputLine) (at : At)
      → (filter.so_far lines).fault ≡ Some at → filter.whole (lines ++ more) ≡ filter.so_far lines
  pub grows : (lines more : List InputLine) → Begins (filter.so_far (lines ++ more)).output (filter.so_far lines).output
  pub goes_on : (lines more : List InputLine)
      → Begins (filter.whole (lines ++ more)).output (filter.so_far lines).output
  pub found : (lines : List InputLine) (at : At) → (filter.so_far lines).fault ≡ Some at → is_of_lines at.fault ≡ true
  pub found_at_end : (lines : List InputLine) (at : At)
      → (filter.whole lines).fault ≡ Some at → is_of_lines at.fault ≡ true
