-- Epochs that were read one after another are whole.
use Rattle.crx_filter.proofs.Vocabulary.{◌≡◌, ℕ, List, [], ◌∷◌, map, drop, AllByRecursion, arith, subst, ReadLine}
use Rattle.crx_filter.proofs.Vocabulary.{Count, Place, Done, RawEpoch, then_place, ReadEpoch, epoch_at}
use Rattle.crx_compact.specs.ReadingLaws.{epochs_at, HasPrintableMarks, AreGood, ReadsWholeLists}
use Rattle.crx_compact.proofs.soundness.Soundness.{ends}
use Rattle.crx_compact.proofs.soundness.WholeEpochs.{reads-whole}

-- the marks of good epochs can be before others
good-marks : (counts : List (List Count)) (epochs : List ReadEpoch)
    → AreGood counts epochs → AllByRecursion HasPrintableMarks (map (λ (r : ReadEpoch). r.raw) epochs)
good-marks [] [] h = tt
good-marks [] (r ∷ rs) h = absurd h
good-marks (t ∷ ts) [] h = absurd h
good-marks (t ∷ ts) (r ∷ rs) h = (h.0.marks, good-marks ts rs h.1)

comes : {X Y : Type 0} (p : Place X) (lines : List ReadLine) (next : X → List ReadLine → Place Y) (y : Y)
    (n : ℕ) → then_place p lines next ≡ Done y n → (from : X) × (count : ℕ) × (more : ℕ)
    × (p ≡ Done from count) × (next from (drop count lines) ≡ Done y more)
comes p lines next y n e = grind arith

pub reads-whole_lists : ReadsWholeLists
reads-whole_lists [] lines epochs count h e = cc
reads-whole_lists (types ∷ counts) lines epochs count h e =
    let raws : List ReadEpoch → List RawEpoch = map (λ (r : ReadEpoch). r.raw) in
    let next : List ReadEpoch → List ReadLine → Place (List ReadEpoch) = λ es others.
    then_place (epoch_at types (raws es) others) others (λ epoch rest. Done (epoch ∷ es) 0) in
    let one = comes (epochs_at counts lines) lines next epochs count e in
    let good = reads-whole_lists counts lines one.0 one.1 h.1 one.3 in
    let others = drop one.1 lines in
    let two = ends (epoch_at types (raws one.0) others) others (λ epoch. epoch ∷ one.0) epochs one.2 one.4 in
    let whole = reads-whole types (raws one.0) others two.0 one.2 h.0 (good-marks counts one.0 good) two.1 in
    subst (AreGood (types ∷ counts)) two.2 (whole, good)
