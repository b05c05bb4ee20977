-- The items of a file and of compact text own its lines.
use Rattle.crx_filter.proofs.Vocabulary
use Vocabulary.{◌≡◌, Bool, List, ◌∷◌, None, ReadLine, rinex_place, whole_rinex, compact_place, whole_compact}
use Rattle.crx_filter.proofs.reading.{Forward.rinex-forward, ForwardCompact.compact-forward}
use Rattle.crx_filter.proofs.{accounts.LineFates.all-told, wayback.FirstTwoLines.{two-back, two-whole}}
use Rattle.crx_filter.specs.meaning.Fate.{OwnInOrder}

pub file-told : (skip : Bool) (lines : List ReadLine) → (whole_rinex skip lines).fault ≡ None
    → (kept : List ReadLine) × OwnInOrder rinex_place 1 (whole_rinex skip lines).items lines kept
file-told skip lines f = all-told rinex_place rinex-forward skip 1 lines f

pub text-told : (skip : Bool) (lines : List ReadLine) → (whole_compact skip lines).fault ≡ None
    → (first : ReadLine) × (second : ReadLine) × (rest : List ReadLine) × (lines ≡ first ∷ second ∷ rest)
    × (kept : List ReadLine) × OwnInOrder compact_place 3 (whole_compact skip lines).items rest kept
text-told skip lines f =
    let two = two-back skip lines f in
    let same = two-whole skip lines two in
    let (kept, own) = all-told compact_place compact-forward skip 3 two.rest (rw same at f) in
    (_, _, two.rest, two.is, kept, rw same own)
