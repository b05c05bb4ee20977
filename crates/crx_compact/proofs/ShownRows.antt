-- The row that a history shows, filled value by value.
use Rattle.crx_compact.proofs.Vocabulary.{◌≡◌, ◌<◌, ℕ, suc, ◌+◌, ◌-◌, ◌*◌, ℤ, List, [], ◌∷◌, ◌++◌, length}
use Rattle.crx_compact.proofs.Vocabulary.{map, take, replicate, slice_set, Option, None, slice_get, common_steps}
use Rattle.crx_compact.proofs.Vocabulary.{Some, arith, length-map, length-take-le, map-append}
use Rattle.crx_compact.proofs.Vocabulary.{take_all, slice_get_within, Row, shown_row, shown_value, ArcTail}
use Rattle.crx_compact.proofs.OneByOne.{taken_more}
use Rattle.crx_text.proofs.Blanks.{columns_are}
use Rattle.crx_rinex.specs.SatelliteLines.{with_flags, with_value}
use Rattle.std.proofs.{Math.Seq.set-append_seam, Common.append_assoc}

-- ---- places

pub set-next : {X : Type 0} (xs ys : List X) (d v : X)
    → slice_set (xs ++ d ∷ ys) (length xs) v ≡ (xs ++ v ∷ []) ++ ys
set-next xs ys d v = cc (set-append_seam xs d ys v, append_assoc xs (v ∷ []) ys)

-- ---- the row

-- a row with its first `k` values, and none at the places after them
abbrev row_so_far : List ℕ → List ℕ → List (Option ArcTail) → ℕ → ℕ → Row
row_so_far name flags cells count k =
    let values = map shown_value (take k cells) ++ replicate (count - k) None in
    record { name = name; values = values; flags = flags }

pub row-more : (name flags : List ℕ) (cells : List (Option ArcTail)) (count k : ℕ) (row : Row)
    (arc : Option ArcTail) → row ≡ row_so_far name flags cells count k → slice_get cells k ≡ Some arc
    → length cells ≡ count → with_value row k (shown_value arc) ≡ row_so_far name flags cells count (k + 1)
row-more name flags cells count k row arc is here many =
    let inside : k < length cells = slice_get_within cells k arc here in
    let m : ℕ = count - (k + 1) in
    let left : count - k ≡ suc m = omega (arith, inside, many) in
    let before : List (Option ℤ) = map shown_value (take k cells) in
    let so_many : length before ≡ k = grind (arith, common_steps, length-map, length-take-le) in
    let taken = taken_more cells k arc here in
    let next = set-next before (replicate m None) None (shown_value arc) in
    cc (is, map-append shown_value (take k cells) (arc ∷ []))

-- all values are put into the row, and then the indicators
pub row-all : (name flags held : List ℕ) (cells : List (Option ArcTail)) (count k : ℕ) (row : Row)
    → row ≡ row_so_far name flags cells count k → k ≡ count → length cells ≡ count
    → with_flags row (take (2 * count) held) ≡ shown_row (record { name = name; flags = held; cells = cells })
row-all name flags held cells count k row is end many =
    grind (arith, common_steps, take_all k cells, columns_are held 1 (2 * count))
