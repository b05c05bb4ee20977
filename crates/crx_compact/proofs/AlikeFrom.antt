-- Two lists that are alike from a place on, such as the arcs that a loop hasn't reached.
use Rattle.crx_compact.proofs.Vocabulary.{◌≡◌, ◌<◌, ℕ, ◌+◌, List, length, drop, slice_index_or, slice_set, arith}
use Rattle.crx_compact.proofs.Vocabulary.{common_steps, drop-drop, drop-set-lt, length-drop}
use Rattle.crx_compact.proofs.PlaceByPlace.{from-place}

-- their items at that place are the same
pub alike-there : {X : Type 0} (xs ys : List X) (k : ℕ) (d e : X)
    → drop k xs ≡ drop k ys → k < length xs → slice_index_or xs k d ≡ slice_index_or ys k e
alike-there xs ys k d e same here = grind (arith, common_steps, length-drop, from-place)

-- if the item at that place is replaced, they are alike from the next place on
pub alike-after : {X : Type 0} (xs ys : List X) (k : ℕ) (x : X)
    → drop k xs ≡ drop k ys → drop (k + 1) (slice_set xs k x) ≡ drop (k + 1) ys
alike-after xs ys k x same = grind (arith, common_steps, drop-set-lt, drop-drop)
