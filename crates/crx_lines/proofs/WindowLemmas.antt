-- The bytes of a window, after a read past its end or a step of its start.
use Rattle.std.proofs.Common.{◌≡◌, ℕ, ◌+◌, ◌-◌, ◌≤◌, ◌<◌, ◌⊎◌, List, ◌++◌, length, take, drop}
use Rattle.std.proofs.Common.{slice_range, slice_set, arith}
use Rattle.std.proofs.{Common.{zero, suc, ◌∷◌}, lemmas.Grind.common_steps}
use Rattle.std.proofs.lemmas.List.{take-append-le, drop-take, drop-drop}
use borrow.Rule.Slice.PartMut.{put_mid}

-- n of the bytes that were read past the end are held too
pub grown : (xs ys : List ℕ) (start end now k n : ℕ)
    → start ≤ end → end ≤ length xs → n ≤ length ys → now ≡ end + n
    → slice_range (put_mid end k xs ys) start now ≡ slice_range xs start end ++ take n ys
grown (x ∷ xs) ys (suc start) (suc end) (suc now) k n ordered within fits is =
    grind (arith, common_steps, grown xs ys start end now k n)
grown (x ∷ xs) ys zero (suc end) (suc now) k n ordered within fits is =
    grind (arith, common_steps, grown xs ys zero end now k n)
grown xs ys start end now k n ordered within fits is = grind (arith, common_steps, take-append-le)

-- the first bytes are discarded
pub passed : (xs : List ℕ) (start end count : ℕ) → start + count ≤ end
    → slice_range xs (start + count) end ≡ drop count (slice_range xs start end)
passed xs start end count inside =
    let parts : end - start ≡ count + (end - (start + count)) = omega arith in
    grind (arith, common_steps, parts, drop-take, drop-drop)

-- a byte that is put in front of a part, or after it, isn't in that part
pub untouched : (xs : List ℕ) (start end place b : ℕ) → start ≤ end → (place < start) ⊎ (end ≤ place)
    → slice_range (slice_set xs place b) start end ≡ slice_range xs start end
untouched (x ∷ xs) (suc start) (suc end) (suc place) b ordered apart =
    grind (arith, common_steps, untouched xs start end place b)
untouched (x ∷ xs) zero (suc end) (suc place) b ordered apart =
    grind (arith, common_steps, untouched xs zero end place b)
untouched xs start end place b ordered apart = grind (arith, common_steps)
