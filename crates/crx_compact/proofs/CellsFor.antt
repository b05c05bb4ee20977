-- Cells for `count` types: the given ones, then empty ones.
use Rattle.crx_compact.proofs.Vocabulary.{◌≡◌, ◌≤◌, ◌<◌, ◌+◌, ◌-◌, ℕ, ℤ, zero, suc, List, [], ◌∷◌, ◌++◌, length}
use Rattle.crx_compact.proofs.Vocabulary.{take, drop, replicate, slice_index_or, Option, None, refl, ap, arith}
use Rattle.crx_compact.proofs.Vocabulary.{Code, common_steps, each_place, length-take-le, cell_text, ArcTail}
use Rattle.crx_compact.proofs.Vocabulary.{length-each_place, length-drop, map, shown_value, take-append-add}
use borrow.Rule.Slice.PartMut.{put_mid}
use Rattle.std.proofs.lemmas.List.{drop_all, flat_map_more, get_or-replicate, get_or-take, get_or_read_under}
use Rattle.crx_text.proofs.EachPlace.{each_place-more, each_place-same, index-each_place, map-each_place}
use Rattle.std.proofs.{Common.{append_assoc, append-nil}, lemmas.List.take-append-drop}
use Rattle.crx_text.proofs.EachPlace.{take-each_place}
use Rattle.std.specs.Prelude.{flat_map}
use Rattle.crx_text.specs.declared.code.Code.TheVariants.{Missing}
use Rattle.crx_compact.specs.{Cells.{arc_at_place, code_at_place}, Placing.cells_for}
use Rattle.crx_rinex.specs.SatelliteLines.{AreMissingFrom}

pub each_place-below : {X : Type 0} (n : ℕ) (f g : ℕ → X) → ((k : ℕ) → k < n → f k ≡ g k)
    → each_place n f ≡ each_place n g
each_place-below zero f g h = refl
each_place-below (suc n) f g h = cc (
  h 0 (omega arith),
  each_place-below n (λ i. f (suc i)) (λ i. g (suc i)) (λ k within. grind (arith, common_steps, k)),
)

-- if no place from `m` on has an arc, the number of places doesn't matter
pub more-places : (m n : ℕ) (f : ℕ → Option ArcTail) → ((p : ℕ) → m ≤ p → f p ≡ None)
    → cells_for n (each_place m f) ≡ each_place n f
more-places m n f h = each_place-same n _ _ (λ p. index-each_place m p f None (h p))

pub length-cells : (cells : List (Option ArcTail)) (n : ℕ) → length (cells_for n cells) ≡ n
length-cells cells n = length-each_place n _

pub cell-there : (n k : ℕ) (cells : List (Option ArcTail)) → k < n
    → slice_index_or (cells_for n cells) k None ≡ slice_index_or cells k None
cell-there n k cells within = index-each_place n k _ None (λ past. absurd (omega (arith, within, past)))

pub one-more : (cells : List (Option ArcTail)) (n : ℕ) → length cells ≤ n
    → cells_for (n + 1) cells ≡ cells_for n cells ++ None ∷ []
one-more cells n h = grind (arith, common_steps, each_place-more)

-- only the first `n` cells count
pub cells-cut : (cells : List (Option ArcTail)) (n : ℕ) → cells_for n (take n cells) ≡ cells_for n cells
cells-cut cells n = grind (arith, each_place-below, get_or-take)

-- cells for `n` types, after they were extended to `m`
pub cells-again : (cells : List (Option ArcTail)) (m n : ℕ) → length cells ≤ m
    → cells_for n (cells_for m cells) ≡ cells_for n cells
cells-again cells m n h = grind (arith, common_steps, more-places)

pub first-cells : (cells : List (Option ArcTail)) (m n : ℕ) → m ≤ n → take m (cells_for n cells)
    ≡ cells_for m cells
first-cells cells m n h = grind (arith, take-each_place)

no-cells : (n : ℕ) → cells_for n [] ≡ replicate n None
no-cells zero = refl
no-cells (suc n) = ap {B = List (Option ArcTail)} (λ xs. None ∷ xs) (no-cells n)

pub longer-cells : (cells : List (Option ArcTail)) (n : ℕ) → length cells ≤ n
    → cells_for n cells ≡ cells ++ replicate (n - length cells) None
longer-cells (c ∷ cs) (suc n) h = grind (arith, longer-cells cs n (omega (arith, h)))
longer-cells x n h = grind (arith, common_steps, no-cells)

pub same-cells : (cells : List (Option ArcTail)) → cells_for (length cells) cells ≡ cells
same-cells [] = refl
same-cells (c ∷ cs) = cc (same-cells cs)

-- ---- their values

pub value-there : (cells : List (Option ArcTail)) (n k : ℕ) (arc : Option ArcTail)
    → arc ≡ slice_index_or cells k arc → k < length cells → length cells ≤ n
    → slice_index_or (map shown_value (cells_for n cells)) k None ≡ shown_value arc
value-there cells n k arc is here within =
    let there = get_or_read_under cells k (length cells) arc None is here refl in
    grind (arith, common_steps, map-each_place, index-each_place, there)

pub values-past : (cells : List (Option ArcTail)) (n : ℕ)
    → drop (length cells) (map shown_value (cells_for n cells)) ≡ drop (length cells) (replicate n None)
values-past [] (suc n) = ap (λ vs. None ∷ vs) (values-past [] n)
values-past (c ∷ cs) (suc n) = values-past cs n
values-past cells zero = grind arith

-- ---- values that are missing from one on

pub all-there : (values : List (Option ℤ)) → AreMissingFrom (length values) values
all-there values = grind (arith, common_steps, drop_all)

blank-codes : (d n m : ℕ) (f : ℕ → Code) → m ≡ n + d → ((p : ℕ) → n ≤ p → f p ≡ Missing)
    → flat_map cell_text (each_place n f) ++ replicate d 32 ≡ flat_map cell_text (each_place m f)
blank-codes zero n m f is h = grind (arith, append-nil)
blank-codes (suc d) n m f is h =
    let more = blank-codes d (n + 1) m f (omega (arith, is)) (λ p past. h p (omega (arith, past))) in
    let joined = append_assoc (flat_map cell_text (each_place n f)) (32 ∷ []) (replicate d 32) in
    grind (arith, joined, each_place-more n f, flat_map_more cell_text [], h n, more)

module _ (before : List (Option ArcTail)) (values : List (Option ℤ)) (filled : ℕ)
    (missing : AreMissingFrom filled values) where
  value-past : (p : ℕ) → filled ≤ p → slice_index_or values p None ≡ None
  value-past p past = grind (arith, common_steps, missing, take-append-drop filled values, get_or-replicate)

  pub missing-arcs : cells_for (length values) (each_place filled (arc_at_place before values))
      ≡ each_place (length values) (arc_at_place before values)
  missing-arcs = grind (arith, more-places, value-past)

  pub missing-codes : flat_map cell_text (each_place filled (code_at_place before values))
      ++ replicate (length values - filled) 32
      ≡ flat_map cell_text (each_place (length values) (code_at_place before values))
  missing-codes = blank-codes _ _ _ _ (omega arith) (λ p past. rw (value-past p past) refl)

-- ---- bytes

pub blanks-put : (bytes text : List ℕ) (a b d : ℕ) → b ≡ a + d → b ≤ length bytes
    → text ≡ replicate (length (take (b - a) (drop a bytes))) 32
    → take b (put_mid a (b - a) bytes text) ≡ take a bytes ++ replicate d 32
blanks-put bytes text a b d is within blank =
    grind (arith, common_steps, length-take-le, take-append-add, length-drop)
