-- The reading of a file: its units in order, with warnings between them if faults are skipped. The rule that finds
-- the next unit is an argument, so both directions read in the same way.
use Rattle.std.specs.Prelude.{ℕ, Bool, true, false, ◌&&◌, ◌+◌, max, List, [], ◌∷◌, ◌==◌, Option, Some, None}
use Rattle.std.specs.Prelude.{if◌then◌else◌, nat_lt, not, suc, zero, length, drop}
use Rattle.crx_base.specs.meaning.AsRead.{ReadLine, Content, Overlong}
use Rattle.crx_base.specs.meaning.Faults.{is_skippable}
use Rattle.crx_base.specs.declared.fault.Fault.{Fault}
use Rattle.crx_base.specs.declared.fault.Fault.TheVariants.{MissingVersion, NoEndOfHeader, Truncated}
use Rattle.crx_base.specs.declared.fault.At.{At}
use Rattle.crx_header.specs.meaning.EpochColumns.{begins_epoch}
use Rattle.crx_rinex.specs.meaning.Places.{Place, Done, Fails, NeedsMore}
use Rattle.crx_rinex.specs.meaning.Units.{Unit}
use Rattle.crx_filter.specs.meaning.Items.{Item, Accepted, Warned, header_has_ended, records_left}

-- a reading stops at a fault; while more lines could make a unit, with the number of the next unit's first line and
-- the lines from there on; or while it looks for a line that begins with >, with the number of the next line
pub data Stop : Type 0 where
  AtFault : At → Stop
  AtLines : ℕ → List ReadLine → Stop
  Looking : ℕ → Stop

-- the units and warnings, newest first, and where the reading stops
pub record Reading (E : Type 0) : Type 0 where
  pub items : List (Item E)
  pub stop : Stop

-- whether a fault is skipped: the user wants it, and the fault isn't in the header or an event's records
abbrev pub is_skipped : {E : Type 0} → Bool → List (Item E) → Fault → Bool
is_skipped skip items fault = skip && (header_has_ended items && ((records_left items == 0) && is_skippable fault))

-- whether reading can resume at a line: it begins with > and isn't too long
abbrev pub can_go_on : ReadLine → Bool
can_go_on (Content line) = begins_epoch line
can_go_on Overlong = false

-- the reading from the first line on at which it can resume; if none follows, the reading looks for one
abbrev pub looked_for : {E : Type 0} → (ℕ → List ReadLine → Reading E) → List (Item E) → ℕ → List ReadLine → Reading E
looked_for read items number [] = record { items = items; stop = Looking number }
looked_for read items number (line ∷ lines) =
    elim (can_go_on line) [ true ↦ read number (line ∷ lines) | false ↦ looked_for read items (number + 1) lines ]

-- a fault that is skipped is a warning, and reading resumes at the first line that begins with >, isn't the dropped
-- unit's own first line and isn't before the fault's line
abbrev pub after_fault : {E : Type 0}
    → Bool → (List (Item E) → ℕ → List ReadLine → Reading E) → List (Item E) → ℕ → List ReadLine → ℕ → Fault → Reading E
after_fault skip read items number lines offset fault =
    let at : At = record { line = number + offset; fault = fault } in
    elim (is_skipped skip items fault) [
      | true ↦ looked_for (read (Warned at ∷ items))
          (Warned at ∷ items) (number + max offset 1) (drop (max offset 1) lines)
      | false ↦ record { items = items; stop = AtFault at }
    ]

-- the reading after some items, from line `number` on, of at most `units` units
abbrev pub reading_within : {E : Type 0}
    → (List (Item E) → List ReadLine → Place (Unit E)) → Bool → ℕ → List (Item E) → ℕ → List ReadLine → Reading E
reading_within place skip zero items number lines = record { items = items; stop = AtLines number lines }
reading_within place skip (suc units) items number lines =
    elim (place items lines) [
      | Done unit count ↦ reading_within place skip units (Accepted unit ∷ items) (number + count) (drop count lines)
      | Fails offset fault ↦ after_fault skip (reading_within place skip units) items number lines offset fault
      | NeedsMore ↦ record { items = items; stop = AtLines number lines }
    ]

-- the reading after some items. Each unit has at least one line, which bounds their number
abbrev pub reading_from : {E : Type 0}
    → (List (Item E) → List ReadLine → Place (Unit E)) → Bool → List (Item E) → ℕ → List ReadLine → Reading E
reading_from place skip items number lines = reading_within place skip (length lines + 1) items number lines

-- the fault that a reading stopped at
abbrev pub fault_of_stop : Stop → Option At
fault_of_stop (AtFault at) = Some at
fault_of_stop (AtLines number lines) = None
fault_of_stop (Looking number) = None

-- ---- the end of the input

-- the fault if the input ends while more lines could make a unit: before the first line, in the header, among an
-- event's records or inside an epoch; otherwise none
abbrev pub fault_at_end : {E : Type 0} → List (Item E) → List ReadLine → Option Fault
fault_at_end [] lines = Some MissingVersion
fault_at_end (item ∷ before) [] = if not (header_has_ended (item ∷ before)) then Some NoEndOfHeader
    else if nat_lt 0 (records_left (item ∷ before)) then Some Truncated else None
fault_at_end (item ∷ before) (line ∷ lines) = Some Truncated

-- a file read to its end: the units and warnings, newest first, and the fault that ended the reading
pub record WholeReading (E : Type 0) : Type 0 where
  pub items : List (Item E)
  pub fault : Option At

abbrev pub ended_with : {E : Type 0} → Bool → List (Item E) → ℕ → Option Fault → WholeReading E
ended_with skip items number None = record { items = items; fault = None }
ended_with skip items number (Some fault) =
    if is_skipped skip items fault
    then record { items = Warned (record { line = number; fault = fault }) ∷ items; fault = None }
    else record { items = items; fault = Some (record { line = number; fault = fault }) }

-- a fault at the end has the number of the last line plus 1. While a line that begins with > is looked for, the end
-- is no fault
abbrev pub ended_reading : {E : Type 0} → Bool → Reading E → WholeReading E
ended_reading skip r =
    elim (r.stop) [
      | AtFault at ↦ record { items = r.items; fault = Some at }
      | AtLines number lines ↦ ended_with skip r.items (number + length lines) (fault_at_end r.items lines)
      | Looking number ↦ record { items = r.items; fault = None }
    ]

-- the reading of a file from line `number` on, to its end
abbrev pub whole_reading : {E : Type 0}
    → (List (Item E) → List ReadLine → Place (Unit E)) → Bool → ℕ → List ReadLine → WholeReading E
whole_reading place skip number lines = ended_reading skip (reading_from place skip [] number lines)
