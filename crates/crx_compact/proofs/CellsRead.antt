-- The cells of a line, read from left to right.
use Rattle.crx_compact.proofs.Vocabulary.{◌≡◌, ◌≤◌, ◌<◌, refl, ℕ, suc, ◌+◌, ℤ, List, [], ◌∷◌, ◌++◌, length, map}
use Rattle.crx_compact.proofs.Vocabulary.{take, drop, slice_index_or, Option, None, Result, Ok, Err, ◌∙◌, arith}
use Rattle.crx_compact.proofs.Vocabulary.{rules, append-nil, length-map, map-append, length-each_place, code_of}
use Rattle.crx_compact.proofs.Vocabulary.{Code, Fault, BadField, ReadCell, cell_read, cells_read, cells_of}
use Rattle.crx_compact.proofs.Vocabulary.{after_cells, ArcTail, arc_of_code, value_of_code, shown_value}
use Rattle.crx_compact.proofs.Vocabulary.{value_at_place, replicate, ap, zero, sym, subst, length-take-le, ◌-◌}
use Rattle.crx_compact.proofs.{GoodResults.{onto, onto-err, onto-more, onto-ok}, PlaceByPlace.from-place}
use Rattle.crx_compact.proofs.{CellsFor.longer-cells, Vocabulary.◌⊎◌}
use Rattle.std.proofs.{lemmas.List.{drop_all, drop-drop, get_or-take, length-drop}, lemmas.Grind.common_steps}
use Rattle.std.proofs.Math.Seq.{get_or-append_seam, set-append_seam}
use Rattle.std.proofs.Common.{add-one, length-append, append_assoc}
use Rattle.crx_text.specs.{declared.code.Code.TheVariants.Missing, meaning.Codes.{first_cell, after_cell}}
use Rattle.crx_compact.specs.{Cells.{arcs_of_codes, CellsAreRead, IsCellRead}, Placing.cells_for}
use Rattle.std.specs.Prelude.{min}

-- ---- the same values at each place read the same

abbrev Values : Type 0
Values = ℕ → Code → Result (Option ℤ) Fault

pub cells-within : (f g : Values) (texts : List (List ℕ)) → ((place : ℕ) (c : Code)
    → place < length texts → f place c ≡ g place c) → cells_read f texts ≡ cells_read g texts
cells-within f g [] h = refl
cells-within f g (text ∷ texts) h =
    let rest = cells-within (λ place. f (suc place)) (λ place. g (suc place)) texts
    (λ place c less. h (suc place) c (omega (arith, less))) in
    grind (arith, h 0)

-- ---- one cell more

arcs-more : (before : List (Option ArcTail)) (codes : List Code) (code : Code)
    → arcs_of_codes before (codes ++ code ∷ [])
    ≡ arcs_of_codes before codes ++ arc_of_code code (slice_index_or before (length codes) None) ∷ []
arcs-more before [] code = refl
arcs-more [] (c ∷ cs) code = cc (arcs-more [] cs code)
arcs-more (b ∷ bs) (c ∷ cs) code = cc (arcs-more bs cs code)

pub shown-code : (width : ℕ) (code : Code) (arc : Option ArcTail) (value : Option ℤ)
    → value_of_code width code arc ≡ Ok value → shown_value (arc_of_code code arc) ≡ value
shown-code width code arc value e = grind arith

abbrev codes_in : List ReadCell → List Code
codes_in cells = map (λ (c : ReadCell). c.code) cells

abbrev values_in : List ReadCell → List (Option ℤ)
values_in cells = map (λ (c : ReadCell). c.value) cells

-- the cells before a place of the line are read, and the arcs from there on are the earlier ones, up to the last that the line may reach
pub record ReadUpTo (first : List (Option ArcTail))
    (line : List ℕ) (at k reached : ℕ) (arcs : List (Option ArcTail)) : Type 0 where
  pub cells : List ReadCell
  pub counted : length cells ≡ k
  pub so_far : cells_read (value_at_place first) (cells_of (length first) line)
      ≡ onto cells
      (cells_read (value_at_place (drop k first)) (cells_of (length (drop k first)) (drop at line)))
  pub marks : after_cells k line ≡ drop at line
  pub within : at ≤ length line
  pub made : arcs ≡ arcs_of_codes first (codes_in cells) ++ drop k (take reached first)
  pub shown : map shown_value (arcs_of_codes first (codes_in cells)) ≡ values_in cells

made-count : (first : List (Option ArcTail)) (cells : List ReadCell) (k : ℕ) → length cells ≡ k
    → length (arcs_of_codes first (codes_in cells)) ≡ k
made-count first cells k e = search (rules, length-each_place, length-map)

-- ---- past the line's end

cell-shorter : (c : ℕ) (cs : List ℕ) → length (after_cell (c ∷ cs)) ≤ length cs
cell-shorter c [] = grind arith
cell-shorter c (d ∷ cs) = grind (arith, cell-shorter d cs)

-- a line has no more cells than bytes
cells-pass : (n : ℕ) (line : List ℕ) → length line ≤ n → after_cells n line ≡ []
cells-pass zero [] h = refl
cells-pass zero (c ∷ cs) h = absurd (omega (arith, h))
cells-pass (suc n) [] h = cells-pass n [] (omega arith)
cells-pass (suc n) (c ∷ cs) h = cells-pass n (after_cell (c ∷ cs)) (omega (arith, h, cell-shorter c cs))

one-after : (k : ℕ) (line : List ℕ) → after_cells (suc k) line ≡ after_cell (after_cells k line)
one-after zero line = refl
one-after (suc k) line = one-after k (after_cell line)

-- a cell that the line doesn't reach
abbrev missing : ReadCell
missing = record { code = Missing; value = None }

rest-missing : (arcs : List (Option ArcTail)) → cells_read (value_at_place arcs) (cells_of (length arcs) [])
    ≡ Ok (replicate (length arcs) missing)
rest-missing [] = refl
rest-missing (arc ∷ arcs) = rw (rest-missing arcs) refl

arcs-over : (first : List (Option ArcTail)) (cells : List ReadCell) (d : ℕ)
    → arcs_of_codes first (codes_in (cells ++ replicate d missing))
    ≡ arcs_of_codes first (codes_in cells) ++ replicate d None
arcs-over first [] zero = refl
arcs-over [] [] (suc d) = ap {B = List (Option ArcTail)} (λ xs. None ∷ xs) (arcs-over [] [] d)
arcs-over (a ∷ first) [] (suc d) = ap {B = List (Option ArcTail)} (λ xs. None ∷ xs) (arcs-over first [] d)
arcs-over [] (c ∷ cs) d = ap (λ xs. arc_of_code c.code None ∷ xs) (arcs-over [] cs d)
arcs-over (a ∷ first) (c ∷ cs) d = ap (λ xs. arc_of_code c.code a ∷ xs) (arcs-over first cs d)

values-over : (d : ℕ) → map shown_value (replicate d None) ≡ values_in (replicate d missing)
values-over zero = refl
values-over (suc d) = ap (λ xs. None ∷ xs) (values-over d)

module _ (first : List (Option ArcTail)) (line : List ℕ) (at k reached : ℕ) (arcs : List (Option ArcTail))
    (s : ReadUpTo first line at k reached arcs) (within : reached ≤ length first) (count : ℕ)
    (all : length first ≡ count) where
  pub read-all : k ≡ reached → reached ≡ min count (length line)
      → CellsAreRead first count line (cells_for count arcs) at
  read-all end is =
      let d : ℕ = length first - k in
      let made : arcs ≡ arcs_of_codes first (codes_in s.cells) =
      grind (arith, drop_all, length-take-le, append-nil, s.made) in
      let many = made-count first s.cells k s.counted in
      let past : (k ≡ length first) ⊎ (drop at line ≡ []) =
      grind (arith, cells-pass k line, s.marks) in
      let rest : cells_read (value_at_place (drop k first)) (cells_of (length (drop k first)) (drop at line))
      ≡ Ok (replicate d missing) = grind (arith, rest-missing (drop k first), length-drop) in
      let over : cells_for (length first) arcs ≡ arcs_of_codes first (codes_in s.cells) ++ replicate d None =
      ap (cells_for (length first)) made ∙ longer-cells _ _ (omega (arith, many, end, within))
      ∙ rw many refl in
      let both = map-append shown_value (arcs_of_codes first (codes_in s.cells)) (replicate d None) in
      let values = map-append (λ (c : ReadCell). c.value) s.cells (replicate d missing) in
      subst (λ n. CellsAreRead first n line (cells_for n arcs) at) all (record {
        cells = s.cells ++ replicate d missing;
        good = s.so_far ∙ ap (onto s.cells) rest ∙ onto-ok s.cells (replicate d missing);
        marks = grind (arith, s.marks, cells-pass (length first) line);
        within = s.within;
        left = over ∙ sym (arcs-over first s.cells d);
        shown = cc (over, s.shown, values-over d, both, values);
      })

  module _ (h : k < reached) where
    arc-there : slice_index_or arcs k None ≡ slice_index_or first k None
    arc-there = grind (arith, common_steps, from-place, made-count, get_or-append_seam, get_or-take)

    -- the next cell is read, and its arc replaced
    pub read-next : {arcs' made : List (Option ArcTail)} {taken : ℕ}
        → IsCellRead arcs k (drop at line) arcs made taken
        → arcs' ≡ made → ReadUpTo first line (at + taken) (k + 1) reached arcs'
    read-next read made_is =
        let old : Option ArcTail = slice_index_or first k None in
        let arc : Option ArcTail = arc_of_code read.code old in
        let so_far : List (Option ArcTail) = arcs_of_codes first (codes_in s.cells) in
        let c : ReadCell = record { code = read.code; value = read.value } in
        let next : drop k first ≡ old ∷ drop (k + 1) first =
        from-place None k first (omega (arith, h, within)) in
        let left : drop k (take reached first) ≡ old ∷ drop (k + 1) (take reached first) =
        from-place None k (take reached first) (omega (arith, h, length-take-le reached first within))
        ∙ ap (λ x. x ∷ drop (k + 1) (take reached first)) (get_or-take reached first k None h) in
        let there = arc-there in
        let both = map-append shown_value so_far (arc ∷ []) in
        let values = map-append (λ (q : ReadCell). q.value) s.cells (c ∷ []) in
        let many = made-count first s.cells k s.counted in
        let coded : length (codes_in s.cells) ≡ k =
        length-map s.cells (λ (q : ReadCell). q.code) ∙ s.counted in
        let more : arcs_of_codes first (codes_in (s.cells ++ c ∷ [])) ≡ so_far ++ arc ∷ [] =
        search (rules, arcs-more, map-append) in
        let after : after_cells (k + 1) line ≡ after_cell (after_cells k line) =
        rw add-one (one-after k line) in
        search (rules, length-append, onto-more, drop-drop, length-drop, set-append_seam, append_assoc)

    -- a fault of the next cell is the fault of all
    pub next-refused : {fault : Fault}
        → cell_read BadField (value_at_place arcs k) (code_of (first_cell (drop at line))) ≡ Err fault
        → cells_read (value_at_place first) (cells_of count line) ≡ Err fault
    next-refused {fault = fault} refused =
        subst (λ n. cells_read (value_at_place first) (cells_of n line) ≡ Err fault) all
        (grind (arith, arc-there, from-place None k first (omega (arith, h, within)), onto-err))

pub read-none : (first : List (Option ArcTail)) (line : List ℕ) (reached : ℕ)
    → ReadUpTo first line 0 0 reached (take reached first)
read-none first line reached =
    search rules
