-- The faults that a reading finds are faults of lines, or of the end of the input.
use Rattle.crx_filter.proofs.Vocabulary
use Vocabulary.{common_steps, arith, ℕ, zero, suc, ◌≡◌, Bool, true, List, Option, Some, None, Result, refl, ⊤}
use Vocabulary.{list_all, columns, is_blank, clock_of, ReadLine, Fault, HeadLine, records_in, event_head}
use Vocabulary.{epoch_head, head_of, OpenEpoch, Beginning, with_next_row, next_row, rows_at, begun_by}
use Vocabulary.{beginning_of, unit_begun, epoch_place, has_satellite, Epoch, Count, Place, first_line, FileUnit}
use Vocabulary.{ReadEpoch, epoch_at, RawEpoch, Item, unless_wrong, types_fault, header_line, event_record}
use Vocabulary.{unit_place, rinex_place, compact_epoch_place, compact_place, first_lines, is_of_lines, event_line}
use Vocabulary.{as_observation, one_line, Row, Content, Overlong, [], is_event_line, ◌∷◌, rules}
use Rattle.crx_filter.proofs.reading.{UnitsAtLines.chosen, EpochFaults.{FaultsPass, FaultsPassAt, place-then}}
use Rattle.crx_filter.proofs.reading.EpochFaults.{place-first, IsSkippableAt, epoch-skippable}
use Rattle.crx_filter.{proofs.reading.EpochFaults.place-observation, specs.meaning.UnitPlaces.first_fault}
use Rattle.crx_header.specs.meaning.Header.{first_header_fault}
use Rattle.crx_rinex.specs.meaning.SatelliteLines.{values_in}
use Rattle.crx_base.specs.declared.fault.Fault.TheVariants.{BadTypesLine}
use Rattle.crx_header.specs.meaning.ObservationTypes.{is_bad_types_line}

-- ---- results, options and places whose faults are faults of lines

abbrev IsFine : {X : Type 0} → Result X Fault → Type 0
IsFine r = FaultsPass is_of_lines r

abbrev pub IsFineFault : Option Fault → Type 0
IsFineFault None = ⊤
IsFineFault (Some fault) = is_of_lines fault ≡ true

abbrev pub IsFineAt : {X : Type 0} → Place X → Type 0
IsFineAt p = FaultsPassAt is_of_lines p

-- ---- the header and an event's records

fine-unless : {E : Type 0} (unit : FileUnit E) (o : Option Fault) → IsFineFault o
    → IsFine (unless_wrong unit o)
fine-unless unit v1 a = grind (arith)

fault-first : (a b : Option Fault) → IsFineFault a → IsFineFault b → IsFineFault (first_fault a b)
fault-first v1 b x y = grind (arith)

types-fine : (line : List ℕ) → IsFineFault (types_fault line)
types-fine line = chosen IsFineFault (is_bad_types_line line) (Some BadTypesLine) None refl tt

version-fine : (line : List ℕ) → IsFineFault (first_header_fault line)
version-fine line = search (rules, chosen IsFineFault)

header-fine : (E : Type 0) (is_first : Bool) (line : List ℕ) → IsFine (header_line {E = E} is_first line)
header-fine E is_first line = grind (arith, common_steps, fine-unless, fault-first, version-fine, types-fine)

record-fine : (E : Type 0) (counted : Bool) (line : List ℕ) → IsFine (event_record {E = E} counted line)
record-fine E counted line = grind (arith, fine-unless, chosen, types-fine)

unit-fine : {E : Type 0} (beginning : List (Item E) → List ReadLine → Place (FileUnit E))
    → ((items : List (Item E)) (lines : List ReadLine) → IsFineAt (beginning items lines))
    → (items : List (Item E)) (lines : List ReadLine) → IsFineAt (unit_place beginning items lines)
unit-fine {E = E} beginning h items lines =
    search (rules, chosen (IsFineAt {X = FileUnit E}), place-first, header-fine, record-fine, h)

-- ---- RINEX

event_head-fine : (flag : ℕ) (count : Option ℕ) → IsFine (event_head flag count)
event_head-fine flag v1 = grind (arith)

epoch_head-fine : (line : List ℕ) (count : Option ℕ) → IsFine (epoch_head line count)
epoch_head-fine line count = grind (arith, common_steps, chosen, list_all, is_blank, columns, clock_of)

begun-fine : (line : List ℕ) (r : Result HeadLine Fault) → IsFine r → IsFine (begun_by line r)
begun-fine line r a = grind (arith, common_steps)

next_row-fine : (so_far : OpenEpoch) (line : List ℕ) → IsFine (next_row so_far line)
next_row-fine so_far line = grind (arith, common_steps, chosen, has_satellite, values_in)

rows-fine : (so_far : OpenEpoch) (count : ℕ) (lines : List ReadLine) → IsFineAt (rows_at so_far count lines)
rows-fine so_far zero lines = tt
rows-fine so_far (suc count) lines =
    let rest = λ (row : Row) (ls : List ReadLine). rows-fine (with_next_row so_far row) count ls in
    search (place-then, place-first, next_row-fine, rest)

unit_begun-fine : (types : List Count) (beginning : Beginning) (lines : List ReadLine)
    → IsFineAt (unit_begun types beginning lines)
unit_begun-fine types v1 lines = grind (arith, place-then, rows-fine)

epoch-fine : (types : List Count) (lines : List ReadLine) → IsFineAt (epoch_place types lines)
epoch-fine types lines = place-then is_of_lines (first_line lines beginning_of) lines
    (unit_begun types) (place-first is_of_lines refl lines beginning_of (λ line. begun-fine line
    (head_of line) (grind (arith, common_steps, event_head-fine, epoch_head-fine)))) (unit_begun-fine types)

pub rinex-fine : (items : List (Item Epoch)) (lines : List ReadLine) → IsFineAt (rinex_place items lines)
rinex-fine items lines = search (unit-fine, epoch-fine)

-- ---- compact text

place-skippable : {X : Type 0} (p : Place X) → IsSkippableAt p → IsFineAt p
place-skippable v1 h = grind (arith)

observation-fine : (types : List Count) (older : List RawEpoch) (lines : List ReadLine)
    → IsFineAt (as_observation (epoch_at types older lines))
observation-fine types older lines = search (place-observation, place-skippable, epoch-skippable)

event-fine : (line : List ℕ) (o : Option ℕ) → records_in line ≡ o
    → IsFineAt (one_line (event_line {E = ReadEpoch} line))
event-fine line v1 e = grind (arith)

compact_epoch-fine : (types : List Count) (older : List RawEpoch) (lines : List ReadLine)
    → IsFineAt (compact_epoch_place types older lines)
compact_epoch-fine types older [] = tt
compact_epoch-fine types older (Overlong ∷ lines) = observation-fine types older (Overlong ∷ lines)
compact_epoch-fine types older (Content line ∷ lines) = chosen IsFineAt (is_event_line line) _ _
    (event-fine line (records_in line) refl) (observation-fine types older (Content line ∷ lines))

pub compact-fine : (items : List (Item ReadEpoch)) (lines : List ReadLine)
    → IsFineAt (compact_place items lines)
compact-fine items lines = search (unit-fine, compact_epoch-fine)

pub first_lines-fine : (lines : List ReadLine) → IsFineAt (first_lines lines)
first_lines-fine lines = search (rules, place-then, place-first, chosen (IsFine {X = List ℕ}))
