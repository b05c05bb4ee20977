-- A copied unit owns its one line.
use Rattle.crx_filter.proofs.Vocabulary
use Vocabulary.{[], ◌≡◌, List, ◌∷◌, ⊤, length, sym, ◌∙◌, ReadLine, Content, Place, Done, FileUnit, Item}
use Vocabulary.{HeaderLine, EventLine, EventRecord, Observation, rinex_place, compact_place}
use Rattle.crx_filter.proofs.{reading.InPlace.rinex-stands, wayback.ExpandedWhole.compact-stands}
use Rattle.std.proofs.Math.Seq.{take-length}

abbrev IsCopy : {E : Type 0} → FileUnit E → List ReadLine → Type 0
IsCopy (HeaderLine line) own = own ≡ Content line ∷ []
IsCopy (EventLine line) own = own ≡ Content line ∷ []
IsCopy (EventRecord line) own = own ≡ Content line ∷ []
IsCopy (Observation epoch) own = ⊤

abbrev pub CopiesLines : {E : Type 0} → (List (Item E) → List ReadLine → Place (FileUnit E)) → Type 0
CopiesLines place = (items : List (Item _)) (own : List ReadLine) (unit : FileUnit _)
    → place items own ≡ Done unit (length own) → IsCopy unit own

pub rinex-copies : CopiesLines rinex_place
rinex-copies items own (Observation epoch) e = tt
rinex-copies items own unit e = sym (take-length own) ∙ (rinex-stands items own unit (length own) e).0

pub compact-copies : CopiesLines compact_place
compact-copies items own (Observation read) e = tt
compact-copies items own unit e = sym (take-length own) ∙ (compact-stands items own unit (length own) e).0
