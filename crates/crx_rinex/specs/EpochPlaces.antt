-- In addition to meaning/EpochPlaces: how code and proofs see it.
use Rattle.std.specs.Prelude.{ℕ, zero, suc, List, [], ◌∷◌, Option, Some, None, Result, Ok, Err}
use Rattle.crx_base.specs.meaning.AsRead.{ReadLine, Content, Overlong}
use Rattle.crx_base.specs.declared.fault.Fault.{Fault}
use Rattle.crx_base.specs.declared.fault.Fault.TheVariants.{LineTooLong}
use Rattle.crx_rinex.specs.meaning.Observations.{Row, Epoch}
use Rattle.crx_rinex.specs.meaning.Units.{Unit, Observation}
use Rattle.crx_rinex.specs.meaning.Places.{Place, Done, Fails, NeedsMore}
use Rattle.crx_header.specs.meaning.ObservationTypes.{Count}
use Rattle.crx_rinex.specs.meaning.EpochPlaces.{OpenEpoch, opened, rows_wanted, epoch_of, with_next_row, next_row}
use Rattle.crx_rinex.specs.meaning.EpochPlaces.{Beginning, EventBegins, EpochBegins, beginning_of}

-- ---- line by line

-- an open epoch after one more line: it is still open, or whole, or the line has a fault
pub data EpochStep : Type 0 where
  Going : OpenEpoch → EpochStep
  Whole : Epoch → EpochStep
  Faulty : Fault → EpochStep

-- an epoch is whole as soon as it has all its rows
abbrev pub when_wanted : ℕ → OpenEpoch → EpochStep
when_wanted zero so_far = Whole (epoch_of so_far)
when_wanted (suc count) so_far = Going so_far

abbrev pub whole_or_going : OpenEpoch → EpochStep
whole_or_going so_far = when_wanted (rows_wanted so_far) so_far

abbrev pub after_row : OpenEpoch → Result Row Fault → EpochStep
after_row so_far (Err fault) = Faulty fault
after_row so_far (Ok row) = whole_or_going (with_next_row so_far row)

abbrev pub epoch_step : OpenEpoch → ReadLine → EpochStep
epoch_step so_far Overlong = Faulty LineTooLong
epoch_step so_far (Content line) = after_row so_far (next_row so_far line)

-- the epoch that is open after a step, if one is
abbrev pub still_open : EpochStep → Option OpenEpoch
still_open (Going so_far) = Some so_far
still_open (Whole epoch) = None
still_open (Faulty fault) = None

-- the epoch that an epoch line opens: one without satellites is whole at once
abbrev pub opened_by : List Count → Result Beginning Fault → Option OpenEpoch
opened_by types (Err fault) = None
opened_by types (Ok (EventBegins line)) = None
opened_by types (Ok (EpochBegins head)) = still_open (whole_or_going (opened types head))

abbrev pub opened_at : List Count → ReadLine → Option OpenEpoch
opened_at types Overlong = None
opened_at types (Content line) = opened_by types (beginning_of line)

-- the epoch that is open after some more lines
abbrev pub open_after : Option OpenEpoch → List ReadLine → Option OpenEpoch
open_after None lines = None
open_after (Some so_far) [] = Some so_far
open_after (Some so_far) (line ∷ lines) = open_after (still_open (epoch_step so_far line)) lines

-- the epoch that some lines leave open; the first of them is its epoch line
abbrev pub open_with : List Count → List ReadLine → Option OpenEpoch
open_with types [] = None
open_with types (line ∷ lines) = open_after (opened_at types line) lines

-- the result at the place where an epoch began, `before` lines before the line of this step
abbrev pub place_after : ℕ → EpochStep → Place (Unit Epoch)
place_after before (Going so_far) = NeedsMore
place_after before (Whole epoch) = Done (Observation epoch) (suc before)
place_after before (Faulty fault) = Fails before fault
