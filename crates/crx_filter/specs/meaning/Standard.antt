-- Standard files, whose lines are as RINEX prints them; the normal form of other files; and the report of a check.
-- Lists of items have the newest first.
use Rattle.std.specs.Prelude.{ℕ, ◌≡◌, ◌+◌, Bool, true, false, ◌&&◌, List, [], ◌∷◌, ◌++◌, map, Option, Some, None}
use Rattle.std.specs.Prelude.{if◌then◌else◌, codes, decimal}
use Rattle.std.specs.List.{list_all, flat_map}
use Rattle.std.specs.Str.{bytes_eq}
use Rattle.crx_text.specs.meaning.Columns.{columns, without_blanks}
use Rattle.crx_base.specs.meaning.Lines.{InputLine, lines_of}
use Rattle.crx_base.specs.meaning.AsRead.{as_read}
use Rattle.crx_base.specs.declared.fault.At.{At}
use Rattle.crx_base.specs.declared.limits.TheConstants.{VERSION_WIDTH}
use Rattle.crx_rinex.specs.meaning.Observations.{Epoch, observations_in}
use Rattle.crx_rinex.specs.meaning.Units.{HeaderLine, EventLine, EventRecord, Observation, printed_unit}
use Rattle.crx_header.specs.meaning.ObservationTypes.{Count}
use Rattle.crx_filter.specs.meaning.Items.{Item, Accepted, Warned, types_in_force}
use Rattle.crx_filter.specs.meaning.Reading.{WholeReading}
use Rattle.crx_runs.specs.meaning.Messages.{error_text}
use Rattle.crx_runs.specs.meaning.Results.{FilterResult}
use Rattle.crx_filter.specs.meaning.Written.{written_lines}
use Rattle.crx_base.specs.meaning.Lines.{lines_text}
use Rattle.crx_filter.specs.meaning.Compacted.{epochs_accepted, whole_rinex}

-- the lines of some items, as RINEX prints them
abbrev pub printed_items : List (Item Epoch) → List (List ℕ)
printed_items items = written_lines (λ (before : List (Item Epoch)). printed_unit) items

-- the reading of all lines of a file, without skipping faults
abbrev pub whole_reading_of : List InputLine → WholeReading Epoch
whole_reading_of lines = whole_rinex false (map as_read lines)

-- the reading of a whole input
abbrev pub whole_of : List ℕ → WholeReading Epoch
whole_of input = whole_reading_of (lines_of input)

-- a standard file is read to its end without a fault; each of its lines ends with LF and no CR before it; and its
-- lines are as RINEX prints them: header lines, event lines and records unchanged, epoch lines and satellite lines
-- with each number in its one printed spelling and no blanks at their ends
pub record IsStandard (input : List ℕ) : Type 0 where
  pub good : (whole_of input).fault ≡ None
  pub plain : list_all (λ (line : InputLine). line.is_plain) (lines_of input) ≡ true
  pub given_back : map (λ (line : InputLine). line.content) (lines_of input) ≡ printed_items (whole_of input).items

-- the normal form of a file: the printed text of its units
abbrev pub normal_form : List ℕ → List ℕ
normal_form input = lines_text (printed_items (whole_of input).items)

-- ---- the report

-- the header's first line
abbrev pub first_header_line : List (List ℕ) → List ℕ
first_header_line [] = []
first_header_line (line ∷ lines) = line

-- the version in columns 1 to 9 of that line, without the blanks at both ends
abbrev pub version_in : List ℕ → List ℕ
version_in line = without_blanks (columns line 1 VERSION_WIDTH)

-- a system's letter and its count of types
abbrev pub count_text : Count → List ℕ
count_text c = codes " " ++ c.0 ∷ codes " " ++ decimal c.1

abbrev pub systems_text : List Count → List ℕ
systems_text [] = codes " none"
systems_text (c ∷ counts) = flat_map count_text (c ∷ counts)

-- how many events were accepted, including cycle slip records (flag 6)
abbrev pub events_accepted : List (Item Epoch) → ℕ
events_accepted [] = 0
events_accepted (Accepted (HeaderLine line) ∷ before) = events_accepted before
events_accepted (Accepted (EventLine line) ∷ before) = events_accepted before + 1
events_accepted (Accepted (EventRecord line) ∷ before) = events_accepted before
events_accepted (Accepted (Observation epoch) ∷ before) = events_accepted before
events_accepted (Warned at ∷ before) = events_accepted before

-- how many values of the accepted epochs aren't missing, without the clock
abbrev pub observations_accepted : List (Item Epoch) → ℕ
observations_accepted [] = 0
observations_accepted (Accepted (HeaderLine line) ∷ before) = observations_accepted before
observations_accepted (Accepted (EventLine line) ∷ before) = observations_accepted before
observations_accepted (Accepted (EventRecord line) ∷ before) = observations_accepted before
observations_accepted (Accepted (Observation epoch) ∷ before) = observations_accepted before + observations_in epoch
observations_accepted (Warned at ∷ before) = observations_accepted before

-- whether a line ends with LF and no CR before it, and is as RINEX prints it
abbrev pub is_standard_line : InputLine → List ℕ → Bool
is_standard_line line printed = line.is_plain && bytes_eq line.content printed

-- the number of the first line that isn't standard. `printed`: the printed lines, one for each
abbrev pub first_not_standard : ℕ → List InputLine → List (List ℕ) → Option ℕ
first_not_standard number [] printed = None
first_not_standard number (line ∷ lines) [] = Some number
first_not_standard number (line ∷ lines) (text ∷ texts) =
    if is_standard_line line text then first_not_standard (number + 1) lines texts else Some number

abbrev pub standard_text : Option ℕ → List ℕ
standard_text None = codes " yes"
standard_text (Some number) = codes " no " ++ decimal number

-- the findings of a check: the version; the systems and their counts of types at the end of the file, in order of
-- first appearance; how many epochs, events and observations were accepted; and the number of the first line that
-- isn't standard, if there is one
pub record Findings : Type 0 where
  pub version : List ℕ
  pub systems : List Count
  pub epochs : ℕ
  pub events : ℕ
  pub observations : ℕ
  pub not_standard : Option ℕ

-- the findings in a file that is read to its end without a fault, by its lines
abbrev pub findings_of : List InputLine → Findings
findings_of lines =
    let items : List (Item Epoch) = (whole_reading_of lines).items in
    record {
      version = version_in (first_header_line (printed_items items));
      systems = types_in_force items;
      epochs = epochs_accepted items;
      events = events_accepted items;
      observations = observations_accepted items;
      not_standard = first_not_standard 1 lines (printed_items items);
    }

-- the lines of a report
abbrev pub report_lines : Findings → List (List ℕ)
report_lines found =
    (codes "format " ++ found.version)
    ∷ (codes "systems" ++ systems_text found.systems)
    ∷ (codes "epochs " ++ decimal found.epochs)
    ∷ (codes "events " ++ decimal found.events)
    ∷ (codes "observations " ++ decimal found.observations)
    ∷ (codes "standard" ++ standard_text found.not_standard)
    ∷ []

-- the status of a report: 0 if the file is standard, 2 if it isn't
abbrev pub report_status : Option ℕ → ℕ
report_status None = 0
report_status (Some number) = 2

-- the check of an input, by the fault of its reading, if there is one, and by its findings. The report is written
-- only after the whole input was accepted; after a fault the status is 1
abbrev pub checked_by : Option At → Findings → FilterResult
checked_by None found = record {
  output = lines_text (report_lines found);
  messages = [];
  status = report_status found.not_standard;
  fault = None;
}
checked_by (Some at) found = record { output = []; messages = error_text (Some at); status = 1; fault = Some at }

abbrev pub checked : List ℕ → FilterResult
checked input = checked_by (whole_of input).fault (findings_of (lines_of input))
