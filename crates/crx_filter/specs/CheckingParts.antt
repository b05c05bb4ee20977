-- The parts of a check between two lines, and how they belong together.
use Rattle.std.specs.Prelude.{◌≡◌, ℕ, Bool, true, false, List, drop, Option}
use Rattle.std.proofs.Common.{ap, ◌∙◌}
use Rattle.std.proofs.lemmas.Bool.{false≢true}
use Rattle.crx_base.specs.meaning.Choices.{Choices}
use Rattle.crx_base.specs.meaning.Lines.{InputLine}
use Rattle.crx_header.specs.Identifiers.{has_identifier}
use Rattle.crx_header.specs.meaning.Satellites.{is_identifier}
use Rattle.crx_rinex.specs.meaning.EpochPlaces.{OpenEpoch}
use Rattle.crx_rinex.specs.meaning.Epochs.{has_satellite}
use Rattle.crx_rinex.specs.meaning.Observations.{Epoch, Row as ObservationRow}
use Rattle.crx_rinex.specs.Printing.{last_line}
use Rattle.crx_filter.specs.CheckByLine.{CheckState, Totals as TotalsNoted, earliest, no_choices}
use Rattle.crx_filter.specs.CheckByLine.{printed_made}
use Rattle.crx_filter.specs.CheckByLine.{printed_so_far, totals_made}
use Rattle.crx_filter.specs.DirectionParts.{DirectionParts}
use Rattle.crx_filter.specs.LineByLine.{Made, Phase, InHeader, BetweenUnits, InEvent, InEpoch}
use Rattle.crx_filter.specs.RinexReaders.{epoch_open, reader_phase}
use Rattle.crx_filter.specs.RinexStages.{is_open_stage}
use Rattle.crx_filter.specs.Totals.{totals_held, found_held, HasPrinted, IsObserved}
use Rattle.crx_filter.specs.meaning.Standard.{findings_of, first_not_standard, is_standard_line, report_lines}
use Rattle.crx_filter.specs.declared.checking.Noted.{Noted}
use Rattle.crx_filter.specs.declared.totals.Totals.{Totals}
use Rattle.crx_filter.specs.declared.rinex_reader.RinexReader.{RinexReader}

-- the reader, the notes on the lines, and how many lines of the report have been lent
pub record CheckingState : Type 0 where
  pub reader : RinexReader
  pub noted : Noted
  pub handed_out : ℕ

-- a table has the identifiers of some rows
abbrev pub AreNamed : List Bool → List ObservationRow → Type 0
AreNamed names rows = (name : List ℕ) → is_identifier name ≡ true
    → has_identifier names name ≡ has_satellite name rows

-- the rows of an open epoch are in the table, and their observations are counted
pub record AreCounted (reader : RinexReader) (noted : Noted) : Type 0 where
  pub named : is_open_stage reader.stage ≡ true → AreNamed noted.names reader.rows.rows
  pub observed : is_open_stage reader.stage ≡ true → IsObserved noted.observed reader.rows.rows

-- no row of an epoch has been noted
pub record HasNoRow (noted : Noted) : Type 0 where
  pub named : (name : List ℕ) → has_identifier noted.names name ≡ false
  pub observed : noted.observed ≡ 0

-- a line with this outcome was noted: the totals include it, and its number is stored if it is the first line that
-- isn't standard
pub record NotesLine (made : Made Epoch OpenEpoch) (is_first : Bool) (line : InputLine) (number : ℕ)
    (old new : Noted) : Type 0 where
  pub totals : totals_held new.totals ≡ totals_made (totals_held old.totals) is_first made
  pub standard : HasPrinted made → new.not_standard
      ≡ earliest old.not_standard (is_standard_line line (last_line (printed_made made))) number

abbrev pub checking_parts : CheckingState → DirectionParts OpenEpoch TotalsNoted
checking_parts c = record {
  stage = c.reader.stage;
  begun = epoch_open c.reader;
  types = c.reader.types;
  kept = totals_held c.noted.totals;
}

-- the lines of the report, by the findings so far; the lines that haven't been lent are pending
abbrev pub report_of : CheckingState → List (List ℕ)
report_of c = report_lines (found_held c.noted.totals c.reader.types c.noted.not_standard)

abbrev pub pending_report : CheckingState → List (List ℕ)
pending_report c = drop c.handed_out (report_of c)

-- the check has noted the first of these lines that isn't standard
abbrev pub HasNoted : CheckingState → List InputLine → Type 0
HasNoted c lines = c.noted.not_standard ≡ first_not_standard 1 lines (printed_so_far lines)

-- the same of a file that consists of these lines, after an end without a fault
abbrev pub HasFound : CheckingState → List InputLine → Type 0
HasFound c lines = c.noted.not_standard ≡ (findings_of lines).not_standard

-- a check skips no fault
pub never_skips : {X : Type 0} (choices : Choices) → no_choices ≡ choices → choices.skip ≡ true → X
never_skips choices taken skips = absurd (false≢true (ap (λ (c : Choices). c.skip) taken ∙ skips))

-- ---- the state of a reader that checks

abbrev pub checker_state_with : RinexReader → ℕ → Totals → Option ℕ → CheckState
checker_state_with reader number totals not_standard = record {
  reading = record {
    choices = no_choices;
    number = number;
    phase = reader_phase reader;
    types = reader.types;
    kept = totals_held totals;
  };
  not_standard = not_standard;
}

-- whether lines can follow, if no fault is skipped
abbrev pub is_reading : Phase OpenEpoch → Bool
is_reading (InHeader is_first) = true
is_reading BetweenUnits = true
is_reading (InEvent left counted) = true
is_reading (InEpoch so_far) = true
is_reading phase = false
