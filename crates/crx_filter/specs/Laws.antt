-- The longer statements of the laws of both filters.
use Rattle.crx_filter.specs.meaning.Reading.{fault_of_stop}
use Rattle.std.specs.Prelude.{◌≡◌, ℕ, Bool, true, false, List, [], ◌∷◌, ◌++◌, Option, Some, None}
use Rattle.std.specs.Prelude.{map, ⊤}
use Rattle.crx_base.specs.meaning.AsRead.{ReadLine, as_read}
use Rattle.crx_rinex.specs.meaning.Places.{Place, Done, NeedsMore}
use Rattle.crx_rinex.specs.Steady.{IsSteady}
use Rattle.crx_rinex.specs.meaning.Units.{Unit as FileUnit, Unit}
use Rattle.crx_base.specs.meaning.Lines.{lines_of}
use Rattle.crx_base.specs.declared.fault.At.{At}
use Rattle.crx_base.specs.meaning.Choices.{Choices}
use Rattle.crx_filter.specs.meaning.Items.{Item, Accepted, Warned, header_has_ended, records_left}
use Rattle.crx_filter.specs.meaning.Reading.{Reading, AtFault, AtLines, Looking, WholeReading, reading_from}
use Rattle.crx_filter.specs.meaning.Reading.{looked_for}
use Rattle.crx_base.specs.meaning.Faults.{is_skippable}
use Rattle.crx_filter.specs.meaning.Written.{warnings_in}
use Rattle.crx_filter.specs.LineByLine.{Direction, RunState, Step, Answer, Quiet, Ready, Notice, Failed, state_next}
use Rattle.crx_filter.specs.LineByLine.{state_end}
use Rattle.crx_rinex.specs.meaning.Observations.{Epoch}
use Rattle.crx_compact.specs.meaning.CompactPlaces.{ReadEpoch}
use Rattle.crx_filter.specs.Compacted.{compaction_so_far}
pub use Rattle.crx_filter.specs.meaning.UnitsAndText.{IsInPlace}
use Rattle.crx_filter.specs.meaning.Directions.{rinex_reading}
use Rattle.crx_filter.specs.meaning.Compacted.{whole_rinex, compact_lines}
use Rattle.crx_filter.specs.Expanded.{expanded_lines, expansion_so_far}
use Rattle.crx_filter.specs.meaning.Directions.{compact_reading}
use Rattle.crx_filter.specs.meaning.Expanded.{whole_compact}
use Rattle.crx_filter.specs.CompactionByLine.{compaction, compaction_state}
use Rattle.crx_filter.specs.ExpansionByLine.{expansion, expansion_state}
use Rattle.crx_runs.specs.meaning.Results.{Begins}

-- a reading continued with more lines
abbrev pub continued_reading : {E : Type 0}
    → (List (Item E) → List ReadLine → Place (Unit E)) → Bool → Reading E → List ReadLine → Reading E
continued_reading place skip so_far more =
    elim (so_far.stop) [
      | AtFault at ↦ record { items = so_far.items; stop = AtFault at }
      | AtLines number lines ↦ reading_from place skip so_far.items number (lines ++ more)
      | Looking number ↦ looked_for (reading_from place skip so_far.items) so_far.items number more
    ]

-- the unit at a place is certain as soon as its last line has been read, and without any line one is needed
pub record IsReadForward {E : Type 0} (place : List (Item E) → List ReadLine → Place (FileUnit E)) : Type 0 where
  pub steady : (items : List (Item E)) → IsSteady (place items)
  pub wants : (items : List (Item E)) → place items [] ≡ NeedsMore

-- the reading of some lines and more continues the reading of the first
abbrev pub IsResumed : {E : Type 0} → (List (Item E) → List ReadLine → Place (FileUnit E)) → Type 0
IsResumed {E = E} place =
    (skip : Bool) (items : List (Item E)) (number : ℕ) (lines more : List ReadLine)
    → reading_from place skip items number (lines ++ more)
    ≡ continued_reading place skip (reading_from place skip items number lines) more

-- ---- prefixes

-- the output for some lines is a prefix of the output for these lines and more, and of the whole output for every
-- input that begins with them
pub record IsWrittenFirst (so_far : List ReadLine
    → Choices → List ℕ) (output : List ℕ → Choices → List ℕ) (choices : Choices) (lines : List ReadLine) : Type 0 where
  pub longer : (more : List ReadLine) → Begins (so_far (lines ++ more) choices) (so_far lines choices)
  pub whole : (input : List ℕ) (more : List ReadLine)
      → map as_read (lines_of input) ≡ lines ++ more → Begins (output input choices) (so_far lines choices)

-- ---- one line at a time

-- the warning of an answer
abbrev pub noticed_by : Answer → List At
noticed_by Quiet = []
noticed_by Ready = []
noticed_by (Notice at again) = at ∷ []
noticed_by (Failed at) = []

-- the fault of an answer that ends the run
abbrev pub failed_by : Answer → Option At
failed_by Quiet = None
failed_by Ready = None
failed_by (Notice at again) = None
failed_by (Failed at) = Some at

-- whether the line is to be fed again
abbrev pub is_again : Answer → Bool
is_again Quiet = false
is_again Ready = false
is_again (Notice at again) = again
is_again (Failed at) = false

-- the effect of a line: the warnings, newest first; the fault that ended the run; the lines that became ready; and
-- the state then
pub record Fed (O K : Type 0) : Type 0 where
  pub warned : List At
  pub failed : Option At
  pub handed_out : List (List ℕ)
  pub next : RunState O K

abbrev pub fed_once : {O K : Type 0} → Step O K → Fed O K
fed_once step = record {
  warned = noticed_by step.answer;
  failed = failed_by step.answer;
  handed_out = step.handed_out;
  next = step.next;
}

abbrev pub fed_twice : {O K : Type 0} → Step O K → Step O K → Fed O K
fed_twice one two = record {
  warned = noticed_by two.answer ++ noticed_by one.answer;
  failed = failed_by two.answer;
  handed_out = one.handed_out ++ two.handed_out;
  next = two.next;
}

-- a line is fed once, or twice if it is to be fed again
abbrev pub fed : {U O K : Type 0} → Direction U O K → RunState O K → ReadLine → Fed O K
fed direction state line =
    let one : Step _ _ = state_next direction state line in
    elim (is_again one.answer) [ true ↦ fed_twice one (state_next direction one.next line) | false ↦ fed_once one ]

-- one more line, as it is fed and as it is read: the state then, the further lines and warnings, and the fault that
-- has ended the run by then
pub record IsFollowed {O K : Type 0} (state_then : RunState O K) (written_before written_then : List (List ℕ))
    (warned_before warned_then : List At) (failed_then : Option At) (line_fed : Fed O K) : Type 0 where
  pub next : state_then ≡ line_fed.next
  pub handed_out : written_then ≡ written_before ++ line_fed.handed_out
  pub warned : warned_then ≡ line_fed.warned ++ warned_before
  pub failed : failed_then ≡ line_fed.failed

-- a compaction takes one more line: its state, output and messages are those of the compaction of all these lines.
-- The line's effect depends only on the state before it
abbrev pub IsCompactedOn : Choices → List ReadLine → ReadLine → Type 0
IsCompactedOn choices lines line =
    let before : Reading Epoch = rinex_reading choices.skip lines in
    let after : Reading Epoch = rinex_reading choices.skip (lines ++ line ∷ []) in
    IsFollowed (compaction_state choices (lines ++ line ∷ []))
    (compaction_so_far choices lines) (compaction_so_far choices (lines ++ line ∷ []))
    (warnings_in before.items) (warnings_in after.items)
    (fault_of_stop after.stop) (fed compaction (compaction_state choices lines) line)

-- an expansion takes one more line: its state, output and messages are those of the expansion of all these lines
abbrev pub IsExpandedOn : Choices → List ReadLine → ReadLine → Type 0
IsExpandedOn choices lines line =
    let before : Reading ReadEpoch = compact_reading choices.skip lines in
    let after : Reading ReadEpoch = compact_reading choices.skip (lines ++ line ∷ []) in
    IsFollowed (expansion_state choices (lines ++ line ∷ []))
    (expansion_so_far choices lines) (expansion_so_far choices (lines ++ line ∷ []))
    (warnings_in before.items) (warnings_in after.items)
    (fault_of_stop after.stop) (fed expansion (expansion_state choices lines) line)

-- ---- the end of the input

-- the end of the input, as it follows some lines and as all lines are read: no line is fed again, nothing more is
-- written, and the warning and the fault are those of the whole reading
pub record IsEndedBy {O K : Type 0} (written_then written_whole : List (List ℕ))
    (warned_then warned_whole : List At) (failed_whole : Option At) (end : Step O K) : Type 0 where
  pub once : is_again end.answer ≡ false
  pub handed_out : end.handed_out ≡ []
  pub written : written_whole ≡ written_then
  pub warned : warned_whole ≡ noticed_by end.answer ++ warned_then
  pub failed : failed_whole ≡ failed_by end.answer

abbrev pub IsCompactionEnded : Choices → List ReadLine → Type 0
IsCompactionEnded choices lines =
    let whole : WholeReading Epoch = whole_rinex choices.skip lines in
    IsEndedBy (compaction_so_far choices lines)
    (compact_lines choices whole.items) (warnings_in (rinex_reading choices.skip lines).items)
    (warnings_in whole.items) whole.fault (state_end compaction (compaction_state choices lines))

abbrev pub IsExpansionEnded : Choices → List ReadLine → Type 0
IsExpansionEnded choices lines =
    let whole : WholeReading ReadEpoch = whole_compact choices.skip lines in
    IsEndedBy (expansion_so_far choices lines) (expanded_lines whole.items) (warnings_in (compact_reading choices.skip
    lines).items) (warnings_in whole.items) whole.fault (state_end expansion (expansion_state choices lines))

-- ---- a fault that ended the run

-- after a fault has ended the run, more lines change nothing
pub record StaysEnded {E : Type 0} (reading : List ReadLine
    → Reading E) (whole : List ReadLine → WholeReading E) (lines more : List ReadLine) (at : At) : Type 0 where
  pub same : reading (lines ++ more) ≡ reading lines
  pub ended : whole (lines ++ more) ≡ record { items = (reading lines).items; fault = Some at }

-- ---- accepted units

-- each accepted unit is at some lines after the items before it, and faults may be skipped at each warning
abbrev pub ItemsAreRead : {E : Type 0} → (List (Item E) → List ReadLine → Place (FileUnit E)) → List (Item E) → Type 0
ItemsAreRead place [] = ⊤
ItemsAreRead place (Accepted unit ∷ before) =
    ((lines : List ReadLine) × (count : ℕ) × (place before lines ≡ Done unit count)) × ItemsAreRead place before
ItemsAreRead place (Warned at ∷ before) = ((header_has_ended before ≡ true)
    × (records_left before ≡ 0) × (is_skippable at.fault ≡ true)) × ItemsAreRead place before

-- each accepted unit is in place, and faults may be skipped at each warning
abbrev pub AreInPlace : List (Item Epoch) → Type 0
AreInPlace [] = ⊤
AreInPlace (Accepted unit ∷ before) = IsInPlace before unit × AreInPlace before
AreInPlace (Warned at ∷ before) =
    ((header_has_ended before ≡ true) × (records_left before ≡ 0) × (is_skippable at.fault ≡ true)) × AreInPlace before

-- ---- ready lines

abbrev pub is_ready : Answer → Bool
is_ready Quiet = false
is_ready Ready = true
is_ready (Notice at again) = false
is_ready (Failed at) = false

abbrev pub has_lines : List (List ℕ) → Bool
has_lines [] = false
has_lines (line ∷ lines) = true

-- the answer to a line is that lines are ready if and only if some are, and each unit makes some ready
pub record IsReadyWhereHandedOut {U O K : Type 0} (direction : Direction U O K) : Type 0 where
  pub exactly : (state : RunState O K) (line : ReadLine)
      → is_ready (state_next direction state line).answer ≡ has_lines (state_next direction state line).handed_out
  pub each_unit : (state : RunState O K) (unit : Unit U) → has_lines (direction.written state unit) ≡ true
