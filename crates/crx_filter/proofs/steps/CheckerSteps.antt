-- A checker takes a line, by its reader's outcome.
use Rattle.crx_filter.proofs
use proofs.Vocabulary.{common_steps, arith, ℕ, ◌≡◌, ◌+◌, true, false, List, [], Option, None, refl, ap, sym, subst}
use proofs.Vocabulary.{◌∙◌, InputLine, is_long, ReadLine, Content, as_read, Fault, OpenEpoch, ObservationEpoch}
use proofs.Vocabulary.{Count, last_line, compaction, with_next, Phase, Made, made_in, step_of_made}
use proofs.Vocabulary.{epoch_by_rows, reader_phase, made_at, TakesRinexLine, TakesRow, is_standard_line, Totals}
use proofs.Vocabulary.{checking}
use proofs.Vocabulary.{printed_made, earliest, CheckState, no_choices, check_state, checker_state_with, Held}
use proofs.Vocabulary.{RinexReader, RinexStep, false-true, first_not_standard, printed_so_far, Stage}
use proofs.{RinexSteps.in-epoch, Vocabulary.is_some}
use proofs.Vocabulary.{phase_of_stage, ◌≤◌, is_open_stage, drop, Row as ObservationRow, Ok}
use proofs.Vocabulary.{Err, IsSameReader, Choices, length-drop, check_by_line, check_reading, map, length}
use proofs.Vocabulary.{false≢true, Written, state_next, Begun, Bool, Rejects, bytes_eq, has_satellite}
use proofs.{Vocabulary.{inl, inr, not, ◌||◌, ◌++◌, ◌∷◌}, following.CheckByFilter.{made-quiet}}
use proofs.following.{CheckedOn.{checked-on, same-state}, Agreement.state_in}
use proofs.standard.{CheckEnded.kept-always, CheckLines.{IsReached, Grows, line-grows, phase-reached}}
use proofs.steps.{CompactionSteps.parts_with}
use Rattle.crx_filter.{proofs.steps.LinesFedAgain.given-either, specs.CheckByLine.totals_made}
use Rattle.crx_filter.specs.{CheckingParts.{AreCounted, AreNamed, HasNoRow, NotesLine, is_reading}}
use Rattle.crx_filter.specs.{CompactionByLine.is_before_header, declared.checking.Noted.Noted}
use Rattle.crx_filter.specs.{DirectionParts.{DirectionParts, DirectionTakes, Reads}}
use Rattle.crx_filter.specs.DirectionParts.{ComesAfter, brings_nothing, state_by}
use Rattle.crx_filter.specs.LineByLine.{Quiet as LineQuiet}
use Rattle.crx_filter.specs.{RinexReaders.RefusesRinexLine, Stages.is_ended}
use Rattle.crx_filter.specs.{Totals.{totals_held, HasPrinted}, meaning.Directions.fault_so_far}
use Rattle.crx_filter.specs.declared.report.TheConstants.{REPORT_LINES}
use Rattle.crx_filter.specs.meaning.Standard.{Findings, report_lines}
use Rattle.crx_header.specs.{Identifiers.has_identifier, meaning.Satellites.is_identifier}
use Rattle.std.proofs.{Math.Bool.not-not, lemmas.{List.drop_all, Slice.Eq.bytes_eq-Decides}}

abbrev pub nothing_kept : Written
nothing_kept = record { index = 0; tail = None }

-- the outcome of a reader's line then
abbrev pub made_there : RinexReader → List ℕ → Made ObservationEpoch OpenEpoch
made_there before content = made_at before content nothing_kept

-- a check keeps nothing of the epochs, and the outcome of a line doesn't depend on it
made-same : (phase : Phase OpenEpoch) (types : List Count) (kept : Totals) (line : ReadLine) → made_in
    checking phase types kept line ≡ made_in compaction phase types nothing_kept line
made-same phase types kept line = grind (arith, common_steps)

-- ---- the step of a line

-- the outcome of a line, as the engine's step: no line is ready
abbrev StepsTo : Choices → ℕ → Totals → ReadLine → RinexReader → RinexReader → Made ObservationEpoch OpenEpoch
    → Type 0
StepsTo choices number totals line before after made =
    step_of_made check_by_line (state_in choices number (reader_phase before) before.types totals) line made
    ≡ record {
      answer = LineQuiet;
      handed_out = [];
      next = state_in choices (number + 1) (reader_phase after) after.types
          (totals_made totals (is_before_header (reader_phase before)) made);
    }

-- the reader has taken a line with this outcome
abbrev pub IsTaken : RinexReader → RinexReader → Made ObservationEpoch OpenEpoch → Type 0
IsTaken before after made = (choices : Choices) (number : ℕ) (totals : Totals) (line : ReadLine)
    → StepsTo choices number totals line before after made

pub line-taken : (content : List ℕ) (before after : RinexReader) (made : Made ObservationEpoch OpenEpoch)
    (step : RinexStep) → TakesRinexLine made before content step after → IsTaken before after made
line-taken content before after made step takes choices number totals line =
    grind (arith, common_steps, state_in, reader_phase, kept-always, epoch_by_rows)

pub row-taken : (before after : RinexReader) (made : Made ObservationEpoch OpenEpoch) (is_last : Bool)
    → TakesRow made is_last before after → IsTaken before after made
row-taken before after made is_last takes choices number totals line =
    grind (arith, common_steps, state_in, reader_phase, kept-always, epoch_by_rows)

-- ---- more lines can follow

reached : (phase : Phase OpenEpoch) → is_reading phase ≡ true → IsReached phase
reached phase e = grind (arith, common_steps, false-true)

grows-printed : (number : ℕ) (phase : Phase OpenEpoch) (types : List Count) (kept : Totals) (line : ReadLine)
    (made : Made ObservationEpoch OpenEpoch) → Grows number phase types kept line made → HasPrinted made
grows-printed number phase types kept line made h = grind (arith, common_steps)

has-printed : (phase : Phase OpenEpoch) (types : List Count) (kept : Totals) (line : ReadLine)
    → IsReached phase → HasPrinted (made_in compaction phase types nothing_kept line)
has-printed phase types kept line is = subst HasPrinted (made-same phase types kept line)
    (grows-printed 0 phase types kept line _ (line-grows 0 phase types kept line is))

-- ---- the answers of a check's direction

module _ (serves : Choices → Type 0) (before after : RinexReader) (totals : Held) (content : List ℕ)
    (ready : List (List ℕ)) where
  pub rejected-reads : (fault : Fault) → IsSameReader before after
      → made_there before content ≡ Rejects fault → ready ≡ []
      → Reads check_by_line serves (parts_with before (totals_held totals)) content (Err fault) ready
      (parts_with after (totals_held totals))
  rejected-reads fault same rejects none = grind (arith, common_steps, made-same)

  pub refused-reads : (fault : Fault) → IsSameReader before after → is_open_stage before.stage ≡ false
      → RefusesRinexLine (made_there before content) before content fault
      → ready ≡ [] → Reads check_by_line serves (parts_with before (totals_held totals)) content (Err fault) ready
      (parts_with after (totals_held totals))
  refused-reads fault same closed refuses none = grind (arith, common_steps, rejected-reads, false≢true)

-- ---- the notes of a check

-- it reads on unless a fault has ended it
pub reads-on : (begun : Option OpenEpoch) (stage : Stage) → IsReached (phase_of_stage begun stage)
    → is_ended stage ≡ false → is_reading (phase_of_stage begun stage) ≡ true
reads-on begun stage reached running = grind (arith, common_steps, false≢true)

-- no line is fed again
module _ (choices : Choices) (lines : List InputLine) (line : InputLine)
    (parts : DirectionParts OpenEpoch Totals) (given : ComesAfter check_by_line (λ choices. no_choices)
    (λ choices. check_reading) choices lines line parts) where
  given-after : state_by choices (length lines) parts ≡ check_reading (map as_read lines)
  given-after = elim (given-either check_by_line (λ choices. check_reading) choices lines line parts given) as
      (λ _. state_by choices (length lines) parts ≡ check_reading (map as_read lines)) [
        | inl same ↦ same
        | inr again ↦ false-true again.skips
      ]

  -- and none is passed over
  pub passes-nothing : {X : Type 0} → brings_nothing (state_next check_by_line
      (state_by choices (length lines) parts) (as_read line)).answer (as_read line) ≡ true → X
  passes-nothing passed = grind (arith, common_steps, false-true, reached, phase-reached, given-after)

module _ (choices : Choices) (before : RinexReader) (totals : Held) (lines : List InputLine)
    (taken : no_choices ≡ choices) (is : state_in choices (length lines) (reader_phase before) before.types
    (totals_held totals) ≡ check_reading (map as_read lines)) where
  pub has-reached : IsReached (reader_phase before)
  has-reached = grind (arith, common_steps, phase-reached)

  pub state-there : (named : Option ℕ) → named ≡ first_not_standard 1 lines (printed_so_far lines)
      → checker_state_with before (length lines) totals named ≡ check_state lines
  state-there named known = grind (arith, common_steps, state_in, same-state)

-- whether a line is the last one printed for it
abbrev is_standard_there : RinexReader → InputLine → Bool
is_standard_there before line =
    is_standard_line line (last_line (printed_made (made_there before line.content)))

-- a unit adds at most one epoch or event
counts-one : (is_first : Bool) (made : Made ObservationEpoch OpenEpoch) (totals then : Held)
    → totals_held then ≡ totals_made (totals_held totals) is_first made
    → then.epochs + then.events ≤ totals.epochs + totals.events + 1
counts-one is_first made totals then is = grind (arith, common_steps)

-- a check has taken a line that its reader took, and noted it
module _ (before after : RinexReader) (old new : Noted) (line : InputLine) (number : ℕ)
    (short : is_long line ≡ false) (taken : IsTaken before after (made_there before line.content))
    (noted : NotesLine (made_there before line.content) (is_before_header (reader_phase before)) line number
    old new) where
  took-line : (lines : List InputLine)
      → checker_state_with before (length lines) old.totals old.not_standard ≡ check_state lines
      → new.not_standard ≡ earliest old.not_standard (is_standard_there before line) (length lines + 1)
      → (fault_so_far (with_next lines line) ≡ None)
      × (checker_state_with after (length lines + 1) new.totals new.not_standard
      ≡ check_state (with_next lines line))
  took-line lines same named_is =
      grind (
        arith,
        taken no_choices (length lines) (totals_held old.totals) (Content line.content),
        made-quiet,
        (checked-on lines line).fault,
        (checked-on lines line).next,
      )

  pub noted-takes : {served : Choices → Type 0} {ready : List (List ℕ)} → ready ≡ []
      → DirectionTakes check_by_line (λ choices. no_choices) (λ choices. check_reading) served
      (parts_with before (totals_held old.totals)) number line (Ok false) ready
      (parts_with after (totals_held new.totals)) (λ choices. true) (old.totals.epochs + old.totals.events)
      (new.totals.epochs + new.totals.events)
      (λ choices lines. old.not_standard ≡ first_not_standard 1 lines (printed_so_far lines))
      (λ choices lines. new.not_standard ≡ first_not_standard 1 lines (printed_so_far lines))
  noted-takes none = record {
    reads = grind (arith, common_steps, made-same, taken, noted.totals);
    serving = λ choices served. refl;
    counts = grind (arith, common_steps, counts-one);
    notes = λ choices lines given known counted.
        let is = given-after choices lines line (parts_with before (totals_held old.totals)) given in
        let printed = has-printed (reader_phase before) before.types (totals_held old.totals)
        (Content line.content) (has-reached choices before old.totals lines given.taken_as is) in
        ap (λ (c : CheckState). c.not_standard) (took-line lines
        (state-there choices before old.totals lines given.taken_as is old.not_standard known)
        (noted.standard printed ∙ ap (earliest old.not_standard (is_standard_there before line)) counted)).1;
    stays = λ choices lines known. tt;
  }

-- or has refused a line, as its reader did
pub refused-takes : {served : Choices → Type 0} {before after : DirectionParts OpenEpoch Totals}
    {number count : ℕ}
    {line : InputLine} {fault : Fault} {ready : List (List ℕ)}
    {knows : Choices → List InputLine → Type 0}
    → Reads check_by_line served before line.content (Err fault) ready after
    → DirectionTakes check_by_line (λ choices. no_choices)
    (λ choices. check_reading) served before number line
    (Err fault) ready after (λ choices. true) count count knows knows
refused-takes reads = grind (arith, common_steps)

-- ---- names and counts

-- if no row has been read, none has to be named
none-named : (names : List Bool) (rows : List ObservationRow) → rows ≡ []
    → ((name : List ℕ) → has_identifier names name ≡ false) → AreNamed names rows
none-named names rows none empty = λ name named. empty name ∙ rw (none) refl

among-more : (name : List ℕ) (rows : List ObservationRow) (row : ObservationRow)
    → has_satellite name (rows ++ row ∷ []) ≡ (bytes_eq row.name name || has_satellite name rows)
among-more name rows row = grind (arith, common_steps)

-- an identifier was put into a table
abbrev pub IsPut : List Bool → List ℕ → List Bool → Type 0
IsPut names name then = (other : List ℕ) → is_identifier other ≡ true
    → has_identifier then other ≡ (bytes_eq name other || has_identifier names other)

-- whether a row's satellite is among some rows, by their table
pub named-answer : (names : List Bool) (rows : List ObservationRow) (row : ObservationRow)
    → AreNamed names rows → is_identifier row.name ≡ true → (is_new : Bool)
    → is_new ≡ not (has_identifier names row.name)
    → has_satellite row.name rows ≡ not is_new
named-answer names rows row named sound is_new is =
    sym (named row.name sound) ∙ sym (ap not is ∙ not-not (has_identifier names row.name))

module _ (names then : List Bool) (rows : List ObservationRow) (row : ObservationRow) (named : AreNamed names
    rows)
    (put : IsPut names row.name then) (sound : is_identifier row.name ≡ true) where
  -- with the next row's identifier all rows are named
  pub named-next : AreNamed then (rows ++ row ∷ [])
  named-next = λ name is.
      put name is ∙ ap (λ b. bytes_eq row.name name || b) (named name is) ∙ sym (among-more name rows row)

  -- with a repeated one nothing changes
  pub named-still : has_satellite row.name rows ≡ true → AreNamed then rows
  named-still there = λ name is. put name is ∙ decided name is (bytes_eq row.name name) refl
    where
      decided : (name : List ℕ) → is_identifier name ≡ true → (b : Bool) → bytes_eq row.name name ≡ b
          → (b || has_identifier names name) ≡ has_satellite name rows
      decided name is true same = sym (subst (λ (n : List ℕ). has_satellite n rows ≡ true)
          ((bytes_eq-Decides row.name name).0 same) there)
      decided name is false other = named name is

-- if an epoch is open after a line that isn't a row, the line has begun it, and none of its rows has been read
module _ (made : Made ObservationEpoch OpenEpoch) (before after : RinexReader) (line : List ℕ)
    (step : RinexStep)
    (takes : TakesRinexLine made before line step after) where
  step-begun : is_open_stage after.stage ≡ true → (step ≡ Begun) × (after.rows.rows ≡ [])
  step-begun is_open = grind (arith, common_steps, false≢true)

  pub step-held : step ≡ Begun → is_some after.head ≡ true
  step-held begun = grind (arith, common_steps, in-epoch)

  pub step-counted : (noted : Noted) → (step ≡ Begun → is_open_stage after.stage ≡ true → HasNoRow noted)
      → AreCounted after noted
  step-counted noted fresh = grind (arith, common_steps, step-begun, none-named)

-- all lines of a report have been lent if and only if none is pending
pub all-out : (handed_out : ℕ) (found : Findings) → drop handed_out (report_lines found) ≡ []
    → REPORT_LINES ≤ handed_out
all-out handed_out found none =
    omega (arith, length-drop handed_out (report_lines found), ap length none)

-- so none is pending, whatever the findings are
pub still-drained : (handed_out : ℕ) (found other : Findings)
    → drop handed_out (report_lines found) ≡ [] → drop handed_out (report_lines other) ≡ []
still-drained handed_out found other none =
    drop_all handed_out (report_lines other) (all-out handed_out found none)
