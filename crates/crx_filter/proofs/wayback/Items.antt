-- The accepted units of a compaction, and the reading of its compact text: the same header, events and types in
-- force.
use Rattle.crx_filter.proofs.Vocabulary
use Vocabulary.{common_steps, ℕ, ◌≡◌, false, List, [], ◌∷◌, Option, refl, arith}
use Vocabulary.{Epoch, FileUnit, HeaderLine, EventLine}
use Vocabulary.{EventRecord, Observation, Marked, compact_epoch}
use Vocabulary.{LinesCanStand, Item, Accepted, types_in_force, is_interrupted, is_in_full}
use Vocabulary.{marked_epochs, AreInPlace}
use Rattle.crx_compact.proofs.wayback.LinesInFiles.{lines-stand}
use Rattle.crx_compact.specs.Laws.{AreWhole}
use Rattle.crx_compact.specs.meaning.Compaction.{since_full}

-- an epoch marked whether it is full
abbrev pub marked_now : Option ℕ → List (Item Epoch) → Epoch → Marked
marked_now every before epoch = record { in_full = is_in_full every before; epoch = epoch }

-- the lines of a unit, without the two first lines of compact text
abbrev pub body_unit : Option ℕ → List (Item Epoch) → FileUnit Epoch → List (List ℕ)
body_unit every before (HeaderLine line) = line ∷ []
body_unit every before (EventLine line) = line ∷ []
body_unit every before (EventRecord line) = line ∷ []
body_unit every before (Observation epoch) = compact_epoch
    (marked_now every before epoch ∷ marked_epochs every before)

-- ---- the epochs since the latest full one

pub not-interrupted : (every : Option ℕ) (before : List (Item Epoch))
    → is_in_full every before ≡ false → is_interrupted before ≡ false
not-interrupted every before e = grind (arith, common_steps)

-- they are whole by the types in force: types change only at an event, and the next epoch after it is full
whole-since : (every : Option ℕ) (items : List (Item Epoch)) → AreInPlace items
    → is_interrupted items ≡ false → AreWhole (types_in_force items) (since_full (marked_epochs every items))
whole-since every (Accepted (Observation epoch) ∷ before) h e =
    grind (arith, common_steps, whole-since every before h.1, not-interrupted)
whole-since every items h e = absurd (cc)

pub whole-next : (every : Option ℕ) (before : List (Item Epoch)) (epoch : Epoch)
    → AreInPlace (Accepted (Observation epoch) ∷ before) → AreWhole
    (types_in_force before) (since_full (marked_now every before epoch ∷ marked_epochs every before))
whole-next every before epoch h = whole-since every (Accepted (Observation epoch) ∷ before) h refl

pub epoch-stands : (every : Option ℕ) (before : List (Item Epoch)) (epoch : Epoch) → AreInPlace (Accepted
    (Observation epoch) ∷ before) → LinesCanStand (marked_now every before epoch) (marked_epochs every before)
epoch-stands every before epoch h =
    grind (arith, common_steps, lines-stand (types_in_force before), whole-next every before epoch h)
