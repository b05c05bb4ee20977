-- The accepted units of compact text: each epoch is whole, by the types in force at its lines.
use Rattle.crx_filter.proofs.Vocabulary
use Vocabulary.{refl, subst, [], ℕ, ◌≡◌, List, ◌∷◌, ⊤, AllByRecursion, ReadLine, Done, FileUnit}
use Vocabulary.{Observation, ReadEpoch, epoch_at, IsGood, Item, Accepted, Warned, arith}
use Vocabulary.{types_in_force, raws_kept, compact_place, ItemsAreRead, common_steps}
use Rattle.crx_filter.proofs.reading.{ForwardCompact.compact_beginning, Types.counts-in_force}
use Rattle.crx_filter.proofs.reading.UnitsAtLines.{StandsAt, Stands, chosen, of-unit, of-compact}
use Rattle.crx_compact.{proofs.soundness.WholeEpochs.reads-whole, specs.ReadingLaws.HasPrintableMarks}

abbrev pub IsReadAt : List (Item ReadEpoch) → List ReadLine → ReadEpoch → ℕ → Type 0
IsReadAt items lines read count = epoch_at (types_in_force items) (raws_kept items) lines ≡ Done read count

pub compact-stands : (items : List (Item ReadEpoch)) (lines : List ReadLine) (unit : FileUnit ReadEpoch)
    (count : ℕ)
    → compact_place items lines ≡ Done unit count → StandsAt (IsReadAt items) items lines unit count
compact-stands items lines unit count e =
    let P = Stands (IsReadAt items) items lines in
    subst P e (of-unit P tt (λ offset fault. tt) compact_beginning items lines
    (λ line rest is off good. rw is (refl, off, good))
    (λ line rest is on some good. rw is (refl, on, some, good))
    (λ on none. grind (arith, common_steps, P, of-compact P tt)))

-- ---- all accepted units

-- each epoch is good by the types in force at its lines
abbrev pub AreGoodEpochs : List (Item ReadEpoch) → Type 0
AreGoodEpochs [] = ⊤
AreGoodEpochs (Accepted (Observation read) ∷ before) = IsGood (types_in_force before) read
    × AreGoodEpochs before
AreGoodEpochs (Warned at ∷ before) = AreGoodEpochs before
AreGoodEpochs (Accepted unit ∷ before) = AreGoodEpochs before

pub marks-printable : (items : List (Item ReadEpoch))
    → AreGoodEpochs items → AllByRecursion HasPrintableMarks (raws_kept items)
marks-printable [] h = tt
marks-printable (Accepted (Observation read) ∷ before) h = ((h.0).marks, marks-printable before h.1)
marks-printable (Accepted unit ∷ before) h = grind (arith, common_steps, marks-printable before h, chosen)
marks-printable (Warned at ∷ before) h = tt

pub epochs-good : (items : List (Item ReadEpoch)) → ItemsAreRead compact_place items → AreGoodEpochs items
epochs-good [] h = tt
epochs-good (Accepted (Observation read) ∷ before) h =
    let rest = epochs-good before h.1 in
    let stands = compact-stands before (h.0).0 (Observation read) (h.0).1 (h.0).2 in
    search (reads-whole, counts-in_force, marks-printable)
epochs-good (Accepted unit ∷ before) h = epochs-good before h.1
epochs-good (Warned at ∷ before) h = epochs-good before h.1
