-- The counts and the printed lines of a check, by the outcome of a line.
use Rattle.crx_filter.specs.declared.rinex_reader.RinexStep.TheVariants as Steps
use Rattle.crx_filter.proofs.Vocabulary.{common_steps, arith, ℕ, ◌≡◌, Some, Bool, true, false, List, [], ◌∷◌, ◌++◌}
use Rattle.crx_filter.proofs.Vocabulary.{refl}
use Rattle.crx_filter.proofs.Vocabulary.{bytes_eq, map-append, last_line, ObservationHead, OpenEpoch, Row}
use Rattle.crx_filter.proofs.Vocabulary.{Epoch as ObservationEpoch, printed_epoch, printed_row, epoch_by_rows}
use Rattle.crx_filter.proofs.Vocabulary.{Made, reader_phase, TakesRinexLine, TakesRow, Totals, printed_made}
use Rattle.crx_filter.proofs.Vocabulary.{RinexReader}
use Rattle.crx_filter.proofs.Vocabulary.{RinexStep, Header, false-true}
use Rattle.crx_filter.proofs.Vocabulary.{None, Option, ℤ, ap, sym, subst, ◌∙◌, length, replicate, columns}
use Rattle.crx_filter.proofs.Vocabulary.{without_end_blanks}
use Rattle.{crx_compact.proofs.Characters.bytes_eq-same, crx_filter.proofs.RinexSteps.in-epoch}
use Rattle.crx_filter.specs.{CheckByLine.{totals_with, totals_made}, CompactionByLine.is_before_header}
use Rattle.crx_filter.specs.{Totals.HasPrinted, meaning.Standard.version_in}
use Rattle.{crx_rinex.specs.meaning.Printing.printed_head, std.proofs.lemmas.Option.same_Some}
use Rattle.{crx_text.proofs.Blanks.end_blanks-more, crx_text.specs.meaning.Numbers.number_text}
use Rattle.std.{proofs.lemmas.List.{take-append-le, take_all}, specs.Option.is_some}
use Rattle.crx_base.specs.declared.limits.TheConstants.{HEAD_WIDTH}

-- the first header line has the version
pub first-line : (totals : Totals) (made : Made ObservationEpoch OpenEpoch) (before after : RinexReader)
    (line : List ℕ) (step : RinexStep) (is_first : Bool) → step ≡ Header is_first → is_first ≡ true
    → TakesRinexLine made before line step after → totals_made totals (is_before_header (reader_phase before))
    made ≡ record totals { version = version_in line }
first-line totals made before after line step is_first is on takes =
    grind (arith, common_steps, totals_made, is_before_header, reader_phase, totals_with)

-- ---- the printed line

pub none-passed : {X : Type 0} (made : Made ObservationEpoch OpenEpoch) (before after : RinexReader)
    (line : List ℕ) → TakesRinexLine made before line Steps.Nothing after → HasPrinted made → X
none-passed made before after line takes some = grind (arith, common_steps, false-true)

-- an epoch line, before the epoch's first row
pub begun-printed : (made : Made ObservationEpoch OpenEpoch) (before after : RinexReader) (line : List ℕ)
    (head : ObservationHead) → TakesRinexLine made before line Steps.Begun after → after.head ≡ Some head
    → last_line (printed_made made) ≡ printed_head head.head head.clock
begun-printed made before after line head e held =
    grind (arith, common_steps, last_line, printed_epoch, epoch_by_rows)

without_clock : (head : List ℕ) (clock : Option ℤ) → is_some clock ≡ false → length head ≡ HEAD_WIDTH
    → printed_head head clock ≡ without_end_blanks (columns head 1 HEAD_WIDTH)
unfolding number_text
without_clock head None none width =
    end_blanks-more head 15
    ∙ sym (ap without_end_blanks (take-append-le HEAD_WIDTH head (replicate HEAD_WIDTH 32)
    (omega (arith, width)) ∙ take_all HEAD_WIDTH head (omega (arith, width))))
without_clock head (Some clock) none width = false-true (sym none)

-- without a clock offset it is only the columns
pub unclocked-printed : (made : Made ObservationEpoch OpenEpoch) (before after : RinexReader) (line : List ℕ)
    (head : ObservationHead) → TakesRinexLine made before line Steps.Begun after → after.head ≡ Some head
    → (clock : Option ℤ) → clock ≡ head.clock → is_some clock ≡ false → length head.head ≡ HEAD_WIDTH
    → (text : List ℕ) → text ≡ without_end_blanks (columns head.head 1 HEAD_WIDTH)
    → last_line (printed_made made) ≡ text
unclocked-printed made before after line head takes held clock same none width text is =
    begun-printed made before after line head takes held
    ∙ without_clock head.head head.clock (subst (λ c. is_some c ≡ false) same none) width ∙ sym is

pub last-of : (lines : List (List ℕ)) (line : List ℕ) → last_line (lines ++ line ∷ []) ≡ line
last-of [] line = refl
last-of (first ∷ []) line = refl
last-of (first ∷ next ∷ lines) line = last-of (next ∷ lines) line

row-printed : (head : ObservationHead) (rows before : List Row) (row : Row)
    → rows ≡ before ++ row ∷ [] → last_line (printed_epoch (epoch_by_rows head rows)) ≡ printed_row row
row-printed head rows before row is =
    grind (arith, common_steps, printed_head, last_line, printed_row, map-append, last-of)

pub row-made : (made : Made ObservationEpoch OpenEpoch) (before after : RinexReader) (is_last : Bool)
    (rows : List Row)
    → TakesRow made is_last before after → after.rows.rows ≡ rows ++ after.row ∷ []
    → last_line (printed_made made) ≡ printed_row after.row
row-made made before after true rows takes is = grind (arith, common_steps, same_Some, row-printed)
row-made made before after false rows takes is = grind (arith, common_steps, in-epoch, last_line, row-printed)

pub copied-printed : (made : Made ObservationEpoch OpenEpoch) (line : List ℕ) → printed_made made ≡ line ∷ []
    → true ≡ bytes_eq line (last_line (printed_made made))
copied-printed made line is = grind (arith, common_steps, bytes_eq-same, bytes_eq, last_line)
