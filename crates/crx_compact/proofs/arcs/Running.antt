-- Running differences: their step, and their size.
use Rattle.crx_compact.proofs.Vocabulary.{◌≡◌, ◌≤◌, ◌<◌, refl, ℕ, zero, suc, ◌+◌, ◌-◌, ◌^◌, ℤ, pos, List, [], ◌∷◌}
use Rattle.crx_compact.proofs.Vocabulary.{◌++◌, length, take, drop, min, slice_index_or, slice_set}
use Rattle.crx_compact.proofs.Vocabulary.{Some, ◌*◌, ap, arith, rules}
use Rattle.crx_compact.proofs.Vocabulary.{ints, common_steps, IsWithin, IsShort, Step, code_of_value, arc_of_value}
use Rattle.crx_compact.proofs.Vocabulary.{value_of_code, arc_of_code, ◌+ℤ◌, ◌-ℤ◌, w64, to_z-of_z}
use Rattle.crx_compact.proofs.Vocabulary.{drop-set-lt, differences_after, onto_sum, differences_by, highest}
use Rattle.crx_compact.proofs.{Vocabulary.{in_range}, arcs.Bounds.ten-more}
use Rattle.std.proofs.Common.{FitsSigned, to_z, of_z}
use Rattle.std.proofs.{lemmas.List.{drop_all, length-take, take_all}, Math.Nat.pow-le-pow_right}
use Rattle.crx_compact.specs.Arcs.{IsBelow, AreBelow, value_bound, kept_tail, IsArcInRange, IsNewestWithin}
use Rattle.crx_compact.specs.meaning.Differences.{newest}
use Rattle.crx_compact.proofs.PlaceByPlace.{from-place}

-- ---- size

-- how large a difference of an order may be
abbrev pub order_bound : ℕ → ℕ
order_bound zero = value_bound
order_bound (suc k) = order_bound k + order_bound k

order-bound-is : (k : ℕ) → order_bound k ≡ value_bound * 2 ^ k
order-bound-is zero = omega arith
order-bound-is (suc k) = omega (arith, order-bound-is k)

-- the largest of all, of order 9
pub order-bound-within : (k : ℕ) → k ≤ 9 → order_bound k ≤ 51200000000000000
order-bound-within k h = search (rules, pow-le-pow_right, order-bound-is)

-- the differences at a next value are within the bounds, if the value and the previous differences are
pub after-below : (bound : ℕ) (value : ℤ) (ds : List ℤ)
    → IsBelow bound value → AreBelow bound ds → AreBelow bound (differences_after value ds)
after-below bound value [] h hs = (h, tt)
after-below bound value (d ∷ ds) h hs =
    (h, after-below (bound + bound) (value -ℤ d) ds (omega (arith, ints, h, hs.0)) hs.1)

pub take-below : (bound n : ℕ) (ds : List ℤ) → AreBelow bound ds → AreBelow bound (take n ds)
take-below bound (suc n) (d ∷ ds) h = (h.0, take-below (bound + bound) n ds h.1)
take-below bound n ds h = tt

-- ---- steps

-- the sum of some numbers
abbrev pub total : List ℤ → ℤ
total [] = pos 0
total (d ∷ ds) = d +ℤ total ds

newest-sum : (d : ℤ) (ds : List ℤ) → newest (onto_sum d ds) ≡ d +ℤ newest ds
newest-sum d ds = grind arith

-- the value after the number of a coded value: the sum of the number and all lower differences
pub newest-by : (number : ℤ) (ds : List ℤ) → newest (differences_by number ds) ≡ number +ℤ total ds
newest-by number [] = omega (arith, ints)
newest-by number (d ∷ ds) = omega (arith, ints, newest-by number ds, newest-sum d (differences_by number ds))

-- the differences after a number are those after its value
pub by-after : (number : ℤ) (ds : List ℤ)
    → differences_by number ds ≡ differences_after (newest (differences_by number ds)) ds
by-after number [] = refl
by-after number (d ∷ ds) = grind (arith, by-after number ds)

-- the differences up to an order depend only on the lower ones
pub take-after : (n : ℕ) (value : ℤ) (ds : List ℤ)
    → take (suc n) (differences_after value ds) ≡ differences_after value (take n ds)
take-after zero value [] = refl
take-after zero value (d ∷ ds) = refl
take-after (suc n) value [] = refl
take-after (suc n) value (d ∷ ds) = ap (λ r. value ∷ r) (take-after n (value -ℤ d) ds)

-- ---- the same place by place, as in a loop

next-below : (k : ℕ) (ds : List ℤ) → k < length ds → AreBelow (order_bound k) (drop k ds)
    → IsBelow (order_bound k) (slice_index_or ds k (pos 0)) × AreBelow (order_bound (k + 1)) (drop (k + 1) ds)
next-below k ds h hs = search (rules, from-place (pos 0) k ds h)

-- a number that fits is the number that its bits stand for
pub same-bits : (value : ℤ) → FitsSigned w64 value → to_z w64 (of_z w64 value) ≡ value
same-bits value h = to_z-of_z w64 value h

pub first-fits : (k : ℕ) (ds : List ℤ) → k < length ds
    → k ≤ 9 → AreBelow (order_bound k) (drop k ds) → FitsSigned w64 (slice_index_or ds k (pos 0))
first-fits k ds h few hs = search (rules, order-bound-within, slice_index_or, next-below)

pub difference-fits : (k : ℕ) (ds : List ℤ) (next : ℤ) → k < length ds → k ≤ 9 → IsBelow (order_bound k) next
    → AreBelow (order_bound k) (drop k ds) → FitsSigned w64 (next -ℤ slice_index_or ds k (pos 0))
difference-fits k ds next h few f hs = search (rules, order-bound-within, slice_index_or, next-below)

-- one place more of the differences at a next value
pub record Advanced (k : ℕ) (target ds : List ℤ) (next : ℤ) : Type 0 where
  pub done : take k ds ++ differences_after next (drop k ds) ≡ target
  pub next_below : IsBelow (order_bound k) next
  pub rest_below : AreBelow (order_bound k) (drop k ds)

pub advance-step : (k : ℕ) (target ds : List ℤ) (next : ℤ) → k < length ds → Advanced k target ds next
    → Advanced (k + 1) target (slice_set ds k next) (next -ℤ slice_index_or ds k (pos 0))
advance-step k target ds next h a = grind (arith, common_steps, next-below, drop-set-lt)

pub advanced-all : (k : ℕ) (target ds : List ℤ) (next : ℤ) → length ds ≤ k
    → Advanced k target ds next → ds ++ next ∷ [] ≡ target
advanced-all k target ds next all a = grind (arith, common_steps, take_all, drop_all)

-- ---- the same up to order 3, at once

-- the differences up to order 3 at a next value, and those before, are numbers of 64 bits
pub record ToThird (value : ℤ) (ds : List ℤ) : Type 0 where
  pub zeroth_before : FitsSigned w64 (slice_index_or ds 0 (pos 0))
  pub first_before : FitsSigned w64 (slice_index_or ds 1 (pos 0))
  pub second_before : FitsSigned w64 (slice_index_or ds 2 (pos 0))
  pub first : FitsSigned w64 (value -ℤ slice_index_or ds 0 (pos 0))
  pub second : FitsSigned w64 (value -ℤ slice_index_or ds 0 (pos 0) -ℤ slice_index_or ds 1 (pos 0))
  pub third : FitsSigned w64 (value -ℤ slice_index_or ds 0
      (pos 0) -ℤ slice_index_or ds 1 (pos 0) -ℤ slice_index_or ds 2 (pos 0))

pub to-third : (value : ℤ) (ds : List ℤ)
    → 3 < length ds → IsBelow value_bound value → AreBelow value_bound (take 3 ds) → ToThird value ds
to-third value (a ∷ b ∷ c ∷ ds) h f hs = omega (arith, ints, f, hs.0, hs.1.0, hs.1.1.0)
to-third value ds h f hs = absurd (omega (arith, h))

-- the first four of some numbers, put in place one after another
pub set-four : (ds : List ℤ) (v a b c : ℤ) → 3 < length ds
    → take 4 (slice_set (slice_set (slice_set (slice_set ds 0 v) 1 a) 2 b) 3 c) ≡ v ∷ a ∷ b ∷ c ∷ []
set-four (d ∷ e ∷ f ∷ g ∷ ds) v a b c h = refl
set-four ds v a b c h = absurd (omega (arith, h))

pub after-three : (ds : List ℤ) (value : ℤ)
    → 3 < length ds → differences_after value (take 3 ds) ≡ value ∷ (value -ℤ slice_index_or ds 0 (pos 0))
    ∷ (value -ℤ slice_index_or ds 0 (pos 0) -ℤ slice_index_or ds 1 (pos 0)) ∷
    (value -ℤ slice_index_or ds 0 (pos 0) -ℤ slice_index_or ds 1 (pos 0) -ℤ slice_index_or ds 2 (pos 0)) ∷ []
after-three ds value h = grind arith

-- a number and the three sums that it leads to, the highest order first, are numbers of 64 bits
pub record OntoThird (number : ℤ) (ds : List ℤ) : Type 0 where
  pub zeroth_before : FitsSigned w64 (slice_index_or ds 0 (pos 0))
  pub first_before : FitsSigned w64 (slice_index_or ds 1 (pos 0))
  pub second_before : FitsSigned w64 (slice_index_or ds 2 (pos 0))
  pub second : FitsSigned w64 (slice_index_or ds 2 (pos 0) +ℤ number)
  pub first : FitsSigned w64 (slice_index_or ds 1 (pos 0) +ℤ (slice_index_or ds 2 (pos 0) +ℤ number))
  pub value : FitsSigned w64 (slice_index_or ds 0
      (pos 0) +ℤ (slice_index_or ds 1 (pos 0) +ℤ (slice_index_or ds 2 (pos 0) +ℤ number)))
  pub sums : (slice_index_or ds 0 (pos 0) +ℤ (slice_index_or ds 1 (pos 0) +ℤ (slice_index_or ds 2
      (pos 0) +ℤ number))) ∷ (slice_index_or ds 1 (pos 0) +ℤ (slice_index_or ds 2 (pos 0) +ℤ number))
      ∷ (slice_index_or ds 2 (pos 0) +ℤ number) ∷ number ∷ [] ≡ differences_by number (take 3 ds)

pub onto-third : (number : ℤ) (ds : List ℤ)
    → 3 < length ds → IsBelow (10 ^ 18) number → AreBelow value_bound (take 3 ds) → OntoThird number ds
onto-third number ds h f hs = grind (arith, common_steps)

-- one place more of the value by a number
pub record Summed (k : ℕ) (target value : ℤ) (ds : List ℤ) : Type 0 where
  pub done : value +ℤ total (drop k ds) ≡ target
  pub value_below : IsBelow (10 ^ 18 + order_bound k) value
  pub rest_below : AreBelow (order_bound k) (drop k ds)

pub sum-fits : (k : ℕ) (target value : ℤ) (ds : List ℤ)
    → k < length ds → k ≤ 9 → Summed k target value ds → FitsSigned w64 (value +ℤ slice_index_or ds k (pos 0))
sum-fits k target value ds h few s = search (rules, order-bound-within, slice_index_or, next-below)

pub sum-step : (k : ℕ) (target value : ℤ) (ds : List ℤ) → k < length ds
    → Summed k target value ds → Summed (k + 1) target (value +ℤ slice_index_or ds k (pos 0)) ds
sum-step k target value ds h s =
    let b = next-below k ds h s.rest_below in
    let more : k + 1 ≡ suc k = omega arith in
    let small : IsBelow (10 ^ 18 + order_bound (suc k)) (value +ℤ slice_index_or ds k (pos 0)) =
    omega (arith, ints) in
    search (rules, from-place (pos 0) k ds h)

-- the last of some differences is the highest
pub highest-last : (ds : List ℤ) (d : ℤ) → highest (ds ++ d ∷ []) ≡ d
highest-last (e ∷ f ∷ fs) d = highest-last (f ∷ fs) d
highest-last ds d = refl

take-take : (n m : ℕ) (ds : List ℤ) → take n (take m ds) ≡ take (min n m) ds
take-take (suc n) (suc m) (d ∷ ds) = grind (arith, common_steps, take-take n m ds)
take-take n m ds = grind (arith, common_steps)

-- a value that fits its columns is below the common bound
pub within-below : (width : ℕ) (value : ℤ) → width ≤ 15 → IsWithin width value → IsBelow value_bound value
within-below width value few h =
    omega (arith, ints, ten-more (width - 2) 13 (omega arith), ten-more (width - 1) 14 (omega arith))

pub below-short : (bound : ℕ) (value : ℤ) → bound ≤ 10 ^ 18 → IsBelow bound value → IsShort value
below-short bound value room h = grind arith

length-after : (value : ℤ) (ds : List ℤ) → length (differences_after value ds) ≡ suc (length ds)
length-after value [] = refl
length-after value (d ∷ ds) = ap suc (length-after (value -ℤ d) ds)

-- the differences up to the order that those at a next value reach
lower-taken : (order count last : ℕ) (ds : List ℤ) → last ≡ min order count
    → take order (take count ds) ≡ take last ds
lower-taken order count last ds e = cc (take-take order count ds, e)

-- the differences that the next one needs are within the bounds
pub lower-below : (order count last : ℕ) (ds : List ℤ)
    → last ≡ min order count → AreBelow value_bound (take count ds) → AreBelow value_bound (take last ds)
lower-below order count last ds e h =
    rw (← lower-taken order count last ds e) (take-below value_bound order (take count ds) h)

-- the same for an arc of order 3 with all its differences
module _ (width order count : ℕ) (ds : List ℤ) (third : (order ≡ 3) × (count ≡ 4))
    (kept : IsArcInRange width order count (take count ds)) (long : length ds ≡ 10) where
  pub third-last : 3 ≡ min order count
  third-last = omega (arith, third.0, third.1)

  pub to-third-kept : (value : ℤ) → IsWithin width value → ToThird value ds
  to-third-kept value h = search (rules, to-third, within-below, lower-below, third-last)

  pub onto-third-kept : (number : ℤ) → IsShort number → OntoThird number ds
  onto-third-kept number h = onto-third number ds
      (omega (arith, long)) (grind (arith, h)) (lower-below order count 3 ds third-last kept.below)

some-kept : (order : ℕ) (value : ℤ) (ds : List ℤ) → Some
    (record { order = order; differences = differences_after value ds })
    ≡ kept_tail order (differences_after value ds)
some-kept order value [] = refl
some-kept order value (d ∷ ds) = refl

-- an arc with values continues by its next value
pub record GoesOn (order count last : ℕ) (value : ℤ) (ds : List ℤ) : Type 0 where
  pub code : Step (highest (differences_after value (take last ds)))
      ≡ code_of_value (Some value) (kept_tail order (take count ds))
  pub tail : kept_tail order (differences_after value (take last ds))
      ≡ arc_of_value (Some value) (kept_tail order (take count ds))

pub goes-on : (order count last : ℕ) (value : ℤ) (ds : List ℤ)
    → last ≡ min order count → 0 < count → 0 < length ds → GoesOn order count last value ds
goes-on order (suc count) last value (d ∷ ds) e h l =
    grind (
      arith,
      take-after order value (take (suc count) (d ∷ ds)),
      lower-taken order (suc count) last (d ∷ ds) e,
    )
goes-on order count last value ds e h l = absurd (omega arith)

-- the arc after a next value in range is in range
newest-after : (width : ℕ) (value : ℤ) (ds : List ℤ)
    → IsWithin width value → IsNewestWithin width (differences_after value ds)
newest-after width value [] h = h
newest-after width value (d ∷ ds) h = h

pub goes-on-kept : (width order count last : ℕ) (ds ds' : List ℤ) (value : ℤ) → last ≡ min order count
    → IsArcInRange width order count (take count ds) → IsWithin width value → take (last + 1) ds'
    ≡ differences_after value (take last ds) → IsArcInRange width order (last + 1) (take (last + 1) ds')
goes-on-kept width order count last ds ds' value e k h after =
    grind (arith, after-below, within-below, lower-below, newest-after)

-- an arc with only its first value
pub begun-list : (ds : List ℤ) (value : ℤ) → 0 < length ds → take 1 (slice_set ds 0 value) ≡ value ∷ []
begun-list [] value h = absurd (omega arith)
begun-list (d ∷ ds) value h = refl

pub begun-kept : (width order : ℕ) (ds : List ℤ) (value : ℤ) → 0 < length ds → width ≤ 15
    → order ≤ 9 → IsWithin width value → IsArcInRange width order 1 (take 1 (slice_set ds 0 value))
begun-kept width order ds value l few o h = grind (arith, common_steps, begun-list, within-below, newest)

-- an arc with values continues by the number of its next coded value
pub record StepsOn (width order count last : ℕ) (number value : ℤ) (ds : List ℤ) : Type 0 where
  pub value_is : in_range width value ≡ value_of_code width (Step number) (kept_tail order (take count ds))
  pub tail : kept_tail order (differences_after value (take last ds))
      ≡ arc_of_code (Step number) (kept_tail order (take count ds))

pub stepped : (width order count last : ℕ) (number value : ℤ) (ds : List ℤ) → last ≡ min order count
    → 0 < count → length ds ≡ 10 → value ≡ newest (differences_by (to_z w64 (of_z w64 number)) (take last ds))
    → FitsSigned w64 number → StepsOn width order count last number value ds
stepped width order count last number value ds e h l v f =
    grind (arith, common_steps, same-bits, lower-taken, some-kept, by-after)

-- the highest difference at a next value in range is a number that a coded value may have
highest-below : (k : ℕ) (ds : List ℤ) → length ds + k ≤ 10 → AreBelow (order_bound k) ds
    → IsShort (highest ds)
highest-below k (d ∷ e ∷ es) few h = highest-below (suc k) (e ∷ es) (omega arith) h.1
highest-below k x few h = grind (arith, common_steps, order-bound-within, below-short)

pub highest-short : (width order count last : ℕ) (value : ℤ) (ds : List ℤ)
    → last ≡ min order count → IsArcInRange width order count (take count ds) → IsWithin width value
    → IsShort (highest (differences_after value (take last ds)))
highest-short width order count last value ds e k h = highest-below 0 (differences_after value (take last ds))
    (omega (arith, length-after value (take last ds), length-take last ds, k.order_within))
    (after-below value_bound value
    (take last ds) (within-below width value k.few_columns h) (lower-below order count last ds e k.below))
