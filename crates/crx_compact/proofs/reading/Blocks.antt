-- Epochs that are read line by line, by the raw epochs that were accepted.
use Rattle.crx_compact.proofs.Vocabulary.{◌≡◌, ℕ, suc, List, [], ◌∷◌, ◌++◌, length, Option, Some, None}
use Rattle.crx_compact.proofs.Vocabulary.{◌∙◌, arith, inl, inr, ◌⊎◌, ReadLine, Content, Fault}
use Rattle.crx_compact.proofs.Vocabulary.{OutOfMemory, Epoch, Count, Place, Done, Fails, RawEpoch, epoch_at, Tail}
use Rattle.crx_compact.proofs.Vocabulary.{tail_left, ColumnsState, HasMade, epoch_after, first_step, held_after}
use Rattle.crx_compact.proofs.{Vocabulary.{placed_as, step_in}, reading.LineByLine.{steps-agree, steps-from_open}}
use Rattle.crx_compact.proofs.soundness.Soundness.{reads-soundly}
use Rattle.crx_compact.proofs.reading.RawTailing.{place-by_tail, left-by_tail}
use Rattle.std.proofs.Common.{length-append}
use Rattle.crx_compact.specs.{OpenEpochs.Faulty, ReadBlocks.{HasReadTo, IsReading}, ReadingLaws.StepFromOpen}

placed-here : {X Y : Type 0} (f : X → Y) (place : Place X) (thing : Y) (count : ℕ)
    → placed_as f place ≡ Done thing count → (from : X) × (place ≡ Done from count) × (f from ≡ thing)
placed-here f place thing count e = grind arith

module _ (types : List Count) (older : List RawEpoch) where
  refused : (lines : List ReadLine) (offset : ℕ) (fault : Fault) → placed_as (held_after (tail_left older))
      (epoch_after types (tail_left older) lines) ≡ Fails offset fault
      → epoch_at types older lines ≡ Fails offset fault
  refused lines offset fault e = grind (arith, place-by_tail)

  -- ---- the epoch line

  module _ {tail : Option Tail} (line : List ℕ) (e : tail ≡ tail_left older) where
    pub begun-block : {after : ColumnsState} → HasMade (first_step types tail (Content line)) after None
        → IsReading types older (Content line ∷ []) after
    begun-block h = grind arith

    pub begun-refused : {fault : Fault}
        → (first_step types tail (Content line) ≡ Faulty fault) ⊎ (fault ≡ OutOfMemory)
        → (epoch_at types older (Content line ∷ []) ≡ Fails 0 fault) ⊎ (fault ≡ OutOfMemory)
    begun-refused {fault} (inl h) =
        inl (refused (Content line ∷ []) 0 fault (cc (steps-agree types tail (Content line ∷ []))))
    begun-refused (inr h) = inr h

  -- ---- the lines after it

  module _ (lines : List ReadLine) (line : List ℕ) {state : ColumnsState}
      (r : IsReading types older lines state) where
    abbrev all : List ReadLine
    all = lines ++ Content line ∷ []

    next : StepFromOpen types (tail_left older) lines (Content line) r.0
    next = steps-from_open types (tail_left older) lines (Content line) r.0 r.1

    pub more-block : (given : Option Epoch) (after : ColumnsState)
        → HasMade (step_in state (Content line)) after given → HasReadTo types older all after given
    more-block None after h = grind (arith, next)
    more-block (Some epoch) after h =
        let held = tail_left older in
        let many : suc (length lines) ≡ length all = omega (arith, length-append lines (Content line ∷ [])) in
        let placed = placed-here (held_after held) (epoch_after types held all) h.0 (length all)
        (cc (next.place, r.2, h.1)) in
        let here = place-by_tail types older all ∙ placed.1 in
        let left = left-by_tail placed.0.raw older
        (reads-soundly types older all placed.0 (length all) here).single in
        (placed.0, here, cc (h.2, placed.2), cc (h.3, placed.2))

    pub more-refused : {fault : Fault} → (step_in state (Content line) ≡ Faulty fault) ⊎ (fault ≡ OutOfMemory)
        → (epoch_at types older all ≡ Fails (length lines) fault) ⊎ (fault ≡ OutOfMemory)
    more-refused {fault} (inl h) = inl (refused all (length lines) fault (cc (next.place, r.2, h)))
    more-refused (inr h) = inr h
