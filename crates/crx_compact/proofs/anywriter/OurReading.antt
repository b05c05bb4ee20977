-- Our own writer's text is read back, because any writer may write it.
use Rattle.crx_compact.proofs.Vocabulary.{◌≡◌, refl, ℤ, List, [], ◌∷◌, Bool, false, Option, Some, None, map}
use Rattle.crx_compact.proofs.Vocabulary.{arith, ap, sym}
use Rattle.crx_compact.proofs.Vocabulary.{append_assoc, length-map, map-append, drop-append_seam, subst}
use Rattle.crx_compact.proofs.Vocabulary.{IsWholeEpoch}
use Rattle.crx_compact.proofs.Vocabulary.{Count, Row, Epoch, Marked, AreWhole}
use Rattle.crx_compact.proofs.Vocabulary.{since_full, run_of, epoch_line, compact_epoch}
use Rattle.crx_compact.proofs.Vocabulary.{map-each_place, map-map, WRITTEN_ORDER, epoch_text, without_end_blanks}
use Rattle.crx_compact.proofs.Vocabulary.{ReadEpoch, Tail, tail_left, common_steps}
use Rattle.crx_compact.proofs.wayback.Runs.{marked}
use Rattle.crx_compact.proofs.reading.LineByLine.{steps-agree}
use Rattle.crx_compact.proofs.anywriter.{Epochs.{any-epoch, held-reads, tail-for}, OurWriter.arc_written}
use Rattle.crx_compact.proofs.anywriter.OurWriter.{row_written, epoch_written, epoch-same, full-lines, later-lines}
use Rattle.crx_compact.specs.ArcTails.{arc_tail}
use Rattle.crx_compact.specs.AnyWriter.{arc_left, row_left, epoch_left, IsLeft}
use Rattle.crx_compact.specs.Tails.{row_tail, tail_of, tail_or_nothing}
use Rattle.crx_compact.specs.ReadingLaws.{lines_of_epoch, EachReadsBack}
use Rattle.crx_compact.specs.ReadingLaws.{marked_of, OneTail, ReadsBack, StepsReadBack}
use Rattle.crx_compact.specs.meaning.AnyWriter.{WrittenEpoch, AreEpochLines, epoch_now}

-- ---- the tail that an epoch leaves

arc-left : (xs : List ℤ) → arc_left (arc_written xs) ≡ arc_tail WRITTEN_ORDER xs
arc-left xs = grind arith

rows-left : (ms : List Marked) (rows : List Row)
    → map row_left (map (λ (r : Row). row_written (run_of r.name ms) r) rows)
    ≡ map (λ (r : Row). row_tail (run_of r.name ms) r) rows
rows-left ms rows = simp (map-map, map-each_place, arc-left)

pub own-left : (types : List Count) (full : Bool) (e : Epoch) (older : List Marked)
    → AreWhole types (since_full (marked full e ∷ older))
    → epoch_left (epoch_written (marked full e) older) ≡ tail_of (marked full e ∷ older)
own-left types full e older h = cc (
  ap (λ q. without_end_blanks (epoch_text q)) (epoch-same types full e older h.0),
  arc-left _,
  rows-left (marked full e ∷ older) e.rows,
)

-- ---- the epoch that an epoch's lines refer to

-- its lines, by the epoch that they may refer to
pub record OwnLines (types : List Count) (full : Bool) (e : Epoch) (older : List Marked)
    (tail : Option Tail) : Type 0 where
  pub before : Option WrittenEpoch
  pub left : IsLeft before tail
  pub lines : AreEpochLines before (epoch_written (marked full e) older)
      (compact_epoch (marked full e ∷ older))

pub own-lines : (types : List Count) (full : Bool) (e : Epoch) (older : List Marked) (tail : Option Tail)
    → AreWhole types (since_full (marked full e ∷ older)) → (full ≡ false → tail ≡ tail_or_nothing older)
    → OwnLines types full e older tail
own-lines types false e (m ∷ older) tail h k = record {
  before = Some (epoch_written m older);
  left = λ b is. let own = own-left types m.in_full m.epoch older h.1 in let tail = k refl in cc;
  lines = later-lines types e m older h;
}
own-lines types full e older tail h k =
    record { before = None; left = λ b e. absurd (cc e); lines = full-lines types e older None h }

-- ---- an epoch

pub each-reads_back : EachReadsBack
each-reads_back types m older raws h k =
    let own = own-lines types m.in_full m.epoch older (tail_left raws) h k in
    let now : WrittenEpoch = epoch_written m older in
    let same : epoch_now now ≡ m.epoch = epoch-same types m.in_full m.epoch older h.0 in
    let r = any-epoch types own.before raws now (compact_epoch (m ∷ older)) own.left
    (subst (IsWholeEpoch types) (sym same) h.0)
    own.lines in
    grind (arith, common_steps, same, r, own-left types m.in_full m.epoch older h)

pub one-tail : OneTail
one-tail types m older raws rest read count h k e =
    let r = each-reads_back types m older raws h k in
    cc (r.reads rest, r.tail)

pub steps-read_back : StepsReadBack
steps-read_back types m older tail h k =
    let own = own-lines types m.in_full m.epoch older tail h k in
    let now : WrittenEpoch = epoch_written m older in
    let same : epoch_now now ≡ m.epoch = epoch-same types m.in_full m.epoch older h.0 in
    let lines = own.lines in
    let found = tail-for own.before tail (epoch_line m older) lines.0 own.left lines.1 in
    let agree = steps-agree types tail (lines_of_epoch (m ∷ older)) in
    let held =
    held-reads types lines.0 now _ _ _ (subst (IsWholeEpoch types) (sym same) h.0) lines.2 tail found in
    let many = length-map m.epoch.rows (λ (r : Row). row_written (run_of r.name (m ∷ older)) r) in
    cc (own-left types m.in_full m.epoch older h)

-- ---- the epochs of a list

pub reads-back : ReadsBack
reads-back [] h = record { reads = []; all = λ rest. refl; epochs_are = refl; tail = refl }
reads-back (t ∷ older) h =
    let ms = marked_of older in
    let m = t.marked in
    let first = reads-back older h.1 in
    let raws = map (λ (r : ReadEpoch). r.raw) first.reads in
    let next = each-reads_back t.types m ms raws h.0 (λ later. first.tail) in
    record {
      reads = record { raw = next.raw; epoch = m.epoch } ∷ first.reads;
      all = grind (arith, common_steps, map-append, append_assoc, length-map, drop-append_seam);
      epochs_are = cc first.epochs_are;
      tail = next.tail;
    }
