-- The cells of a satellite line, taken one by one.
use Rattle.std.proofs.Common.{◌≡◌, inl, inr, ℕ, ℤ, ◌+◌, ◌-◌, ◌*◌, ◌<◌, ◌≤◌, ◌&&◌, false, All, List, [], ◌∷◌}
use Rattle.std.proofs.Common.{◌++◌, Option}
use Rattle.std.proofs.Common.{Some, None, length, take, drop, replicate, get_or, map, refl, ap, sym, ◌∙◌}
use Rattle.std.proofs.Common.{arith, subst}
use Rattle.std.proofs.{Common.{suc, zero, Bool, true, cond, nat_lt, Err, MatchBool, append-nil}}
use Rattle.std.proofs.{lemmas.Bool.{and_from, cases_lt, le-ltb, lt-ltb}, Math.{Bool.and-true, Seq.take-add}}
use Rattle.std.proofs.lemmas.{Grind.common_steps, List.{take_more_set, length-set, take_at, take-append-le}}
use Rattle.std.proofs.lemmas.List.{drop_all, drop-drop, drop-replicate, drop-set, drop-set-lt, drop-take}
use Rattle.std.proofs.lemmas.List.{length-drop, get_or_past}
use Rattle.std.proofs.lemmas.List.{length-replicate, length-take, length-take-le, take-replicate, take-take}
use Rattle.std.proofs.lemmas.List.{take_all, take_rest}
use Rattle.std.proofs.lemmas.List.Elements.{All-append, All-replicate, filter-append}
use Rattle.std.proofs.lemmas.List.Folds.{concat-append, list_all-append}
use Rattle.std.proofs.lemmas.{Simd.length-put_chunk}
use Rattle.std.specs.{List.{concat, list_all, range_with_len}, Prelude.{filter, is_some, slice_set}}
use Rattle.std.specs.{Simd.Lanes.put_chunk}
use lib.Lanes.{pick_l, sel_l, top}
use Rattle.crx_text.proofs.{Blanks.columns_are, LaneBits.sixteen}
use Rattle.crx_text.proofs.EachPlace.{each_place-more, index-each_place, length-each_place}
use Rattle.crx_text.specs.{meaning.Columns.{character_at, columns}}
use Rattle.crx_text.specs.meaning.{EachPlace.each_place, Numbers.{observation_of, number_of, IsValue}}
use Rattle.crx_text.specs.meaning.Texts.{is_kept}
use Rattle.crx_rinex.specs.SatelliteLines.{blank_row, row_by_cells, with_flags, AreCellsRead, AreEmptyFrom}
use Rattle.crx_rinex.specs.{SatelliteLines.{AreFirstRead, IsRowOf}}
use Rattle.crx_rinex.specs.{meaning.{Observations.Row, SatelliteLines.all_some}}
use Rattle.crx_rinex.specs.meaning.SatelliteLines.{values_in, flags_at, flags_in, field, row_with, IsSoundRow}
use Rattle.crx_header.specs.meaning.{ObservationTypes.IsAllowedCount, Satellites.is_identifier}
use Rattle.crx_base.specs.declared.fault.Fault.TheVariants.{BadField, BadFlags}

pub all_some-push : (xs : List (Option (Option ℤ))) (vs : List (Option ℤ)) (v : Option ℤ)
    → all_some xs ≡ Some vs → all_some (xs ++ Some v ∷ []) ≡ Some (vs ++ v ∷ [])
all_some-push (Some x ∷ xs) vs v h = grind (arith, common_steps, all_some-push xs)
all_some-push xs vs v h = grind (arith, common_steps)

-- one that is missing a spelling
pub all_some_at : (xs : List (Option (Option ℤ))) (k : ℕ) → k < length xs → get_or xs k None ≡ None
    → all_some xs ≡ None
all_some_at (Some x ∷ xs) (suc k) h e = rw (all_some_at xs k (omega arith) e) refl
all_some_at xs k h e = grind (arith, common_steps)

pub values_in_more : (line : List ℕ) (k : ℕ) (vs : List (Option ℤ)) (v : Option ℤ)
    → values_in k line ≡ Some vs → observation_of (field line k) ≡ Some v
    → values_in (k + 1) line ≡ Some (vs ++ v ∷ [])
values_in_more line k vs v h e = grind (arith, common_steps, each_place-more, all_some-push)

pub values_in_none : (line : List ℕ) (k m : ℕ) → k < m → observation_of (field line k) ≡ None
    → values_in m line ≡ None
values_in_none line k m h e =
    all_some_at (each_place m (λ j. observation_of (field line j))) k
    (omega (arith, length-each_place m (λ j. observation_of (field line j))))
    (index-each_place m k (λ j. observation_of _) None (λ past. absurd (omega (arith, past))) ∙ e)

pub flags_in_more : (line : List ℕ) (k : ℕ) → flags_in (k + 1) line ≡ flags_in k line ++ flags_at line k
flags_in_more line k = ap concat (each_place-more k _) ∙ concat-append (each_place k _) (flags_at line k ∷ [])

-- a field past the line's end is blank, and so missing
pub field_past : (line : List ℕ) (k : ℕ) → length line ≤ 16 * k + 3
    → observation_of (field line k) ≡ Some None
unfolding number_of
field_past line k h = grind (arith, common_steps, drop_all)

pub field_inside : (line : List ℕ) (k : ℕ) → 16 * k + 17 ≤ length line
    → field line k ≡ take 14 (drop (16 * k + 3) line)
field_inside line k h =
    let e : 16 * k + 3 + 1 - 1 ≡ 16 * k + 3 = omega arith in
    rw e (take-append-le 14 _ _ (omega (arith, length-drop (16 * k + 3) line)))

-- a cell's columns are its field and its two indicators
pub cell_parts : (field cell : List ℕ) (a b : ℕ) → length field ≡ 14 → cell ≡ field ++ a ∷ b ∷ []
    → (take 14 cell ≡ field) × (get_or (cell ++ cell) 14 0 ≡ a) × (get_or (cell ++ cell) 15 0 ≡ b)
cell_parts field cell a b long is = grind (arith, take-append-le 14 field, take_all 14 field)

pub cells_more : (line : List ℕ) (values : List (Option ℤ)) (flags flags_after : List ℕ) (k : ℕ)
    (value : Option ℤ) → AreCellsRead k line values flags → k < length values
    → observation_of (field line k) ≡ Some value → IsValue value → length flags_after ≡ length flags
    → take (2 * (k + 1)) flags_after ≡ take (2 * k) flags ++ flags_at line k
    → AreCellsRead (k + 1) line (slice_set values k value) flags_after
cells_more = grind (arith, common_steps, take_more_set, length-set, values_in_more, flags_in_more)

drop_past : (i : ℕ) (xs ys : List ℕ) (n : ℕ) → i + length ys ≤ n → drop n (put_chunk i xs ys) ≡ drop n xs
drop_past zero (x ∷ xs) (y ∷ ys) (suc n) h = drop_past zero xs ys n (omega (arith, h))
drop_past (suc i) (x ∷ xs) ys (suc n) h = drop_past i xs ys n (omega (arith, h))
drop_past i xs ys n h = grind (arith, common_steps)

-- one before those that are empty
pub keeps_empty : (values : List (Option ℤ)) (flags : List ℕ) (k n : ℕ) (value : Option ℤ) (pair : List ℕ)
    → length pair ≡ 2 → k + 1 ≤ n → AreEmptyFrom n values flags
    → AreEmptyFrom n (slice_set values k value) (put_chunk (2 * k) flags pair)
keeps_empty = grind (arith, common_steps, length-set, length-put_chunk, drop-set-lt, drop_past)

-- and one that becomes empty itself
pub more_empty : (values : List (Option ℤ)) (flags : List ℕ) (k : ℕ) → AreEmptyFrom (k + 1) values flags
    → AreEmptyFrom k (slice_set values k None) (slice_set (slice_set flags (2 * k) 32) (2 * k + 1) 32)
more_empty values flags k empty =
    let within : k < length values = omega (arith, empty.within) in
    let pairs = empty.pairs.0 in
    let place : suc (suc (2 * k)) ≡ 2 * (k + 1) = omega arith in
    let one : 2 * k + 1 ≡ suc (2 * k) = omega arith in
    let count : length values - k ≡ suc (length values - (k + 1)) = omega (arith, within) in
    let twice : 2 * (length values - k) ≡ suc (suc (2 * (length values - (k + 1)))) = omega (arith, within) in
    let long = length-set values k None in
    record {
      pairs = grind (arith, common_steps, length-set);
      within = omega (arith, within, long);
      missing = rw (long, count, drop-set values k None within, empty.missing) refl;
      blank = rw (
        long,
        twice,
        one,
        drop_pair flags (2 * k) (omega (arith, within, pairs)),
        place,
        empty.blank,
      ) refl;
    }
  where
    drop_pair : (fs : List ℕ) (i : ℕ) → suc i < length fs
        → drop i (slice_set (slice_set fs i 32) (suc i) 32) ≡ 32 ∷ 32 ∷ drop (suc (suc i)) fs
    drop_pair (x ∷ y ∷ fs) zero h = refl
    drop_pair (x ∷ fs) (suc i) h = drop_pair fs i (omega (arith, h))
    drop_pair fs i h = absurd (omega (arith, h))

later_empty : {X : Type 0} (xs : List X) (x : X) (first later count rest : ℕ)
    → drop first xs ≡ replicate count x → first ≤ later → rest ≡ count - (later - first)
    → drop later xs ≡ replicate rest x
later_empty xs x first later count rest empty less is =
    grind (arith, common_steps, drop-drop (later - first) first xs, drop-replicate (later - first) count x)

pub less_empty : (values : List (Option ℤ)) (flags : List ℕ) (first later : ℕ)
    → AreEmptyFrom first values flags
    → first ≤ later → later ≤ length values → AreEmptyFrom later values flags
less_empty values flags first later empty less within =
    grind (arith, later_empty values None first later, later_empty flags 32 (2 * first) (2 * later))

-- missing values aren't counted
pub observed : (values : List (Option ℤ)) (flags : List ℕ) (first m : ℕ) → AreEmptyFrom first values flags
    → first ≤ m → length (filter is_some (take first values)) ≡ length (filter is_some (take m values))
observed values flags first m empty within =
    let parts = take-add first (m - first) values in
    grind (arith, common_steps, filter-append, none, append-nil)
  where
    none : (a b : ℕ) → filter is_some (take a (replicate {A = Option ℤ} b None)) ≡ []
    none (suc a) (suc b) = none a b
    none a b = grind (arith, common_steps)

pub whole_columns : (line bytes : List ℕ) (start : ℕ) → take (length line) bytes ≡ line
    → start + 16 ≤ length line → take 16 (take (length bytes - start) (drop start bytes)) ≡ columns line
    (start + 1) 16
whole_columns line bytes start is room =
    grind (
      arith,
      common_steps,
      drop-take start (length line - start) bytes,
      take-take 16 (length line - start) (drop start bytes),
      take-append-le 16 (drop start line),
    )

-- lanes below a place, and blanks
first_lanes : (left i : ℕ) (xs : List ℕ)
    → sel_l (map (λ j. top 7 (cond (nat_lt j left) 255 0)) (range_with_len i (length xs))) xs (replicate
    (length xs) 32)
    ≡ take (left - i) xs ++ replicate (length xs - (left - i)) 32
first_lanes left i [] = grind (arith, common_steps)
first_lanes left i (x ∷ xs) = elim (cases_lt i left) [
  | inl near ↦
      let yes : nat_lt i left ≡ true = lt-ltb i left near in
      let more : left - i ≡ suc (left - (i + 1)) = omega (arith, near) in
      let count : length (x ∷ xs) - (left - i) ≡ length xs - (left - (i + 1)) = omega (arith, near) in
      rw (yes, count, more) (ap (λ t. x ∷ t) (first_lanes left (i + 1) xs))
  | inr far ↦
      let no : nat_lt i left ≡ false = le-ltb i left far in
      let none : left - i ≡ 0 = omega (arith, far) in
      let next : left - (i + 1) ≡ 0 = omega (arith, far) in
      let all : length (x ∷ xs) - (left - i) ≡ suc (length xs) = omega (arith, far) in
      let rest : length xs - (left - (i + 1)) ≡ length xs = omega (arith, far) in
      rw (no, all, none) (ap (λ t. 32 ∷ t) (first_lanes left (i + 1) xs ∙ rw (rest, next) refl))
]

-- the columns of a cell that the line's end cuts
pub cut_columns : (line bytes : List ℕ) (start left : ℕ) → take (length line) bytes ≡ line
    → start + 16 ≤ length bytes → length line < start + 16 → left ≡ length line - start
    → sel_l (map (λ j. top 7 (cond (nat_lt j left) 255 0)) (range_with_len 0 16))
    (take 16 (take (length bytes - start) (drop start bytes))) (replicate 16 32) ≡ columns line (start + 1) 16
cut_columns line bytes start left is room cut rest =
    let xs : List ℕ = take 16 (drop start bytes) in
    let long : length xs ≡ 16 = length-take-le 16 _ (omega (arith, room, length-drop start bytes)) in
    let place : start + 1 - 1 ≡ start = omega arith in
    let part : take 16 (drop start line) ≡ take left xs = elim (cases_lt (length line) start) [
      | inr inside ↦
          let sum : start + left ≡ length line = omega (arith, inside, rest) in
          let cuts = drop-take start left bytes in
          let whole = take_all 16 (take left (drop start bytes)) in
          let first = take-take left 16 (drop start bytes) (omega (arith, cut, rest)) in
          grind (arith, length-take left (drop start bytes))
      | inl past ↦ grind (arith, drop_all start line)
    ] in
    let whole : left - 0 ≡ left = omega arith in
    let wide : length (take left xs) ≡ left = length-take-le left xs (omega (arith, cut, long, rest)) in
    ap (λ t. sel_l (map (λ j. top 7 (cond (nat_lt j left) 255 0)) (range_with_len 0 16)) (take 16 t)
    (replicate 16 32))
    (take_rest bytes start)
    ∙ subst (λ (n : ℕ). sel_l (map (λ j. top 7 (cond (nat_lt j left) 255 0)) (range_with_len 0 n)) xs
    (replicate n 32)
    ≡ take (left - 0) xs ++ replicate (n - (left - 0)) 32) long (first_lanes left 0 xs)
    ∙ ap (λ k. take k xs ++ replicate (16 - k) 32) whole ∙ sym (columns_are line (start + 1) 16 ∙ rw
    (place, part, wide) refl)

-- if the line ends after a field, these are the field and two blanks
pub field_columns : (xs : List ℕ) → length xs ≡ 16
    → pick_l 0 (xs ++ replicate 16 32) (0 ∷ 1 ∷ 2 ∷ 3 ∷ 4 ∷ 5 ∷ 6 ∷ 7 ∷ 8 ∷ 9 ∷ 10 ∷ 11 ∷ 12 ∷ 13 ∷ 16 ∷ 16 ∷
    [])
    ≡ sel_l (map (λ j. top 7 (cond (nat_lt j 14) 255 0)) (range_with_len 0 16)) xs (replicate 16 32)
field_columns xs long = let whole = sixteen xs long in rw whole refl

flags_past : (line : List ℕ) (k : ℕ) → length line ≤ 16 * k + 3 → flags_at line k ≡ 32 ∷ 32 ∷ []
flags_past line k h = grind (arith, common_steps, character_at, get_or_past)

cells_past : (line : List ℕ) (n d : ℕ) (vs : List (Option ℤ)) (fs : List ℕ) → (1 ≤ d
    → length line ≤ 16 * n + 3)
    → values_in n line ≡ Some vs → flags_in n line ≡ fs
    → (values_in (n + d) line ≡ Some (vs ++ replicate d None)) × (flags_in (n + d) line ≡ fs ++ replicate
    (2 * d) 32)
cells_past line n (suc d) vs fs short values flags =
    let end : length line ≤ 16 * n + 3 = short (omega arith) in
    let place : n + 1 + d ≡ n + suc d = omega arith in
    let pair : 2 * suc d ≡ suc (suc (2 * d)) = omega arith in
    let rest = cells_past line (n + 1) d (vs ++ None ∷ []) (fs ++ 32 ∷ 32 ∷ []) (λ _. omega (arith, end))
    (values_in_more line n vs None values (field_past line n end))
    (flags_in_more line n ∙ ap (λ t. t ++ flags_at line n) flags
    ∙ ap (λ t. fs ++ t) (flags_past line n end)) in
    grind (arith, common_steps, place, pair, rest)
cells_past line n d vs fs short values flags = grind (arith, common_steps, append-nil)

-- a field that spells no number
pub cells_none : (line : List ℕ) (k m : ℕ) → k < m → observation_of (field line k) ≡ None
    → row_by_cells m line ≡ Err BadField
cells_none line k m less none = ap (row_with m line) (values_in_none line k m less none)

all_kept_blanks : (n : ℕ) → list_all is_kept (replicate n 32) ≡ true
all_kept_blanks zero = refl
all_kept_blanks (suc n) = all_kept_blanks n

-- the elements up to a place, if all from an earlier place on are the same
take_past : {X : Type 0} (xs : List X) (x : X) (n d count : ℕ) → drop n xs ≡ replicate count x → d ≤ count
    → take (n + d) xs ≡ take n xs ++ replicate d x
take_past xs x n d count same few =
    take-add n d xs ∙ rw same (ap (λ t. take n xs ++ t) (take-replicate d count x few))

-- a row whose cells in the line were read, and whose other cells then became empty: its indicators decide
pub row_made : (line : List ℕ) (read_values values : List (Option ℤ)) (read_flags flags : List ℕ) (n m : ℕ)
    (b : Bool)
    → AreFirstRead n m line read_values read_flags → AreEmptyFrom n values flags → m ≤ length values
    → take n values ≡ take n read_values → take (2 * n) flags ≡ take (2 * n) read_flags
    → b ≡ list_all is_kept (take (2 * n) flags)
    → MatchBool b (IsRowOf m line (take m values) (take (2 * m) flags)) (row_by_cells m line ≡ Err BadFlags)
row_made line read_values values read_flags flags n m b read empty within same_values same_flags kept =
    let d : ℕ = m - n in
    let sum : n + d ≡ m = omega (arith, read.within) in
    let past = cells_past line n d (take n values) (take (2 * n) flags) (λ some. read.ends (omega
    (arith, some)))
    (read.cells.values_read ∙ ap Some (sym same_values)) (sym (same_flags ∙ read.cells.flags_read)) in
    let twice : 2 * n + 2 * d ≡ 2 * m = omega (arith, sum) in
    let vs : take m values ≡ take n values ++ replicate d None =
    ap (λ i. take i values) (sym sum)
    ∙ take_past values None n d _ empty.missing (omega (arith, sum, within)) in
    let fs : take (2 * m) flags ≡ take (2 * n) flags ++ replicate (2 * d) 32 =
    ap (λ i. take i flags) (sym twice)
    ∙ take_past flags 32 (2 * n) (2 * d) _ empty.blank (omega (arith, sum, within)) in
    by_kept (take m values) (take (2 * m) flags) b
    (ap (λ i. values_in i line) (sym sum) ∙ past.0 ∙ ap Some (sym vs)) (ap (λ i. flags_in i line) (sym sum)
    ∙ past.1 ∙ sym fs)
    (subst (All IsValue) (sym vs) (All-append IsValue (take n values) (replicate d None)
    (subst (All IsValue) (sym same_values) read.cells.ranged) (All-replicate IsValue d None tt)))
    (ap (list_all is_kept) fs ∙ list_all-append is_kept (take (2 * n) flags) _ ∙ ap (λ b. list_all is_kept
    (take (2 * n) flags) && b)
    (all_kept_blanks (2 * d)) ∙ and-true _ ∙ sym kept)
  where
    by_kept : (vs : List (Option ℤ)) (fs : List ℕ) (b : Bool) → values_in m line ≡ Some vs → flags_in m line
        ≡ fs
        → All IsValue vs → list_all is_kept fs ≡ b → MatchBool b (IsRowOf m line vs fs) (row_by_cells m line
        ≡ Err BadFlags)
    by_kept vs fs b found pairs ranged kept =
        let ended = read.ended in grind (arith, common_steps)

-- the same if each list was written through a slice of n elements
pub sound-written : (name : List ℕ) (values old_values : List (Option ℤ)) (flags old_flags : List ℕ)
    (m n k : ℕ)
    → is_identifier name ≡ true → IsAllowedCount m → length values ≡ m → length flags ≡ 2 * m → n ≡ m
    → k ≡ 2 * m → All IsValue values → list_all is_kept flags ≡ true → IsSoundRow (record {
      name = name;
      values = take n (values ++ drop (length values) old_values);
      flags = take k (flags ++ drop (length flags) old_flags);
    })
sound-written = grind (arith, common_steps, take_at)

pub sound-blank : (name : List ℕ) (m : ℕ) → is_identifier name ≡ true → IsAllowedCount m
    → IsSoundRow (blank_row name m)
sound-blank name m named small = grind (arith, common_steps, length-replicate, all_kept_blanks)

pub sound-with_flags : (row : Row) (flags : List ℕ) → IsSoundRow row
    → length flags ≤ 2 * length row.values → list_all is_kept flags ≡ true → IsSoundRow (with_flags row flags)
sound-with_flags = grind (arith, common_steps, and_from, all_kept_blanks)
