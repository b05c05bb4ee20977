-- Each line that is read is one that some writer may write.
use Rattle.crx_compact.proofs.Vocabulary.{◌≡◌, refl, ℕ, ℤ, zero, suc, List, [], ◌∷◌, ◌++◌, Option, Some, None, Ok}
use Rattle.crx_compact.proofs.Vocabulary.{map, length, min, arith, ap, sym, ◌∙◌, ◌*◌, ◌+◌, ◌≤◌, inl, inr, drop}
use Rattle.crx_compact.proofs.Vocabulary.{list_all, ReadCell, cells_of, after_cells, first_cell, after_cell}
use Rattle.crx_compact.proofs.Vocabulary.{is_blank}
use Rattle.crx_compact.proofs.Vocabulary.{Code, Missing, Start, Step, code_of, difference, value_of_code}
use Rattle.crx_compact.proofs.Vocabulary.{without_end_blanks, before_end_blanks, length-map, rules, replicate}
use Rattle.crx_compact.proofs.arcs.Inversion.{numbers_of}
use Rattle.crx_compact.proofs.arcs.Stepping.{values-by_tail, numbers-values}
use Rattle.crx_compact.proofs.soundness.Soundness.{AreReadCells, RowFacts, line-facts}
use Rattle.crx_compact.proofs.{EpochTexts.blank-after, PlaceByPlace.at-padded}
use Rattle.crx_compact.proofs.Vocabulary.{ArcTail, Satellite}
use Rattle.crx_compact.specs.ArcSteps.{arc_after_number, value_of_tail}
use Rattle.crx_compact.proofs.Vocabulary.{ReadRow, past_of_tail, tail_named, cell_of_tail}
use Rattle.crx_compact.proofs.Vocabulary.{flags_of_tail, OBSERVATION_WIDTH, columns, is_printable}
use Rattle.crx_compact.proofs.Vocabulary.{at, at-without_end_blanks, patched, and_parts}
use Rattle.crx_compact.proofs.Characters.{at-by_position}
use Rattle.crx_compact.proofs.{wayback.Overlays.at_past}
use Rattle.crx_compact.proofs.SoundTexts.{patched-trimmed, trimmed-again, same-cut, cut-all}
use Rattle.crx_compact.specs.meaning.AnyWriter.{Arc, WrittenEpoch, code_now, MayFollow, arc_in, flags_in}
use Rattle.crx_compact.specs.AnyWriter.{value_now, arc_left, epoch_left, row_before}
use Rattle.crx_compact.specs.AnyWriter.{IsSomebodysRow, ReadsSomebodysRow}
use Rattle.crx_compact.proofs.anywriter.Rows.{arc_at, tail-found, cell-found, flags-found}
use Rattle.crx_compact.proofs.anywriter.Arcs.{values-back, tail_at}
use Rattle.crx_compact.proofs.anywriter.Texts.{with_blanks, one-text}

-- ---- a coded value

pub record ArcBack (found : Option Arc) (code : Code) (value : Option ℤ) : Type 0 where
  pub now : Option Arc
  pub follows : MayFollow found now
  pub coded : code_now now ≡ code
  pub valued : value_now now ≡ value

-- the number of a coded value, by the value that it stands for
number-back : (n : ℕ) (d y : ℤ) (ys : List ℤ)
    → difference (min (length (y ∷ ys)) n) (value_of_tail (arc_after_number d (tail_at n (y ∷ ys))) ∷ y ∷ ys)
    ≡ d
number-back n d y ys =
    let c = difference (min (length ys) n) (y ∷ ys) in
    let nums = numbers_of n ys in
    cc ((values-by_tail n d c nums).value, values-back n (y ∷ ys), numbers-values n (d ∷ c ∷ nums))

pub arc-back : (width : ℕ) (found : Option Arc) (code : Code) (v : Option ℤ)
    → value_of_code width code (arc_left found) ≡ Ok v → ArcBack found code v
arc-back width found Missing v e = record { now = None; follows = tt; coded = refl; valued = cc e }
arc-back width found (Start n x) v e = record {
  now = Some (record { order = n; newest = x; older = [] });
  follows = inl refl;
  coded = refl;
  valued = grind arith;
}
arc-back width None (Step d) v e = absurd (cc e)
arc-back width (Some a) (Step d) v e =
    let x = value_of_tail (arc_after_number d (tail_at a.order (a.newest ∷ a.older))) in
    record {
      now = Some (record { order = a.order; newest = x; older = a.newest ∷ a.older });
      follows = inr refl;
      coded = ap Step (number-back a.order d a.newest a.older);
      valued = grind arith;
    }

-- ---- the cells of a line

record CellsBack (found : ℕ → Option Arc) (texts : List (List ℕ)) (cells : List ReadCell) : Type 0 where
  arcs : List (Option Arc)
  spelled : map code_of texts ≡ map (λ (arc : Option Arc). Some (code_now arc)) arcs
  values : map value_now arcs ≡ map (λ (c : ReadCell). c.value) cells
  follows : (j : ℕ) → MayFollow (found j) (arc_at arcs j)

cells-back : (width : ℕ) (found : ℕ → Option Arc) (held : ℕ → Option ArcTail) (texts : List (List ℕ))
    (cells : List ReadCell) → ((j : ℕ) → held j ≡ arc_left (found j))
    → AreReadCells (λ j code. value_of_code width code (held j)) texts cells → CellsBack found texts cells
cells-back width found held [] [] same h = record
    { arcs = []; spelled = refl; values = refl; follows = λ j. tt }
cells-back width found held (t ∷ ts) (c ∷ cs) same h =
    let others = cells-back width (λ j. found (suc j)) (λ j. held (suc j)) ts cs (λ j. same (suc j)) h.1 in
    let first = arc-back width (found 0) c.code c.value
    (ap (value_of_code width c.code) (sym (same 0)) ∙ h.0.meant) in
    record {
      arcs = first.now ∷ others.arcs;
      spelled = cc (h.0.coded, first.coded, others.spelled);
      values = cc (first.valued, others.values);
      follows = λ j. elim j as (λ k. MayFollow (found k) (arc_at (first.now ∷ others.arcs) k))
          [ zero ↦ first.follows | suc k ↦ others.follows k ];
    }
cells-back width found held texts cells same h = absurd h

-- ---- a line by its cells

one-cell_back : (line : List ℕ)
    → without_end_blanks (first_cell line ++ 32 ∷ after_cell line) ≡ without_end_blanks line
one-cell_back [] = refl
one-cell_back (c ∷ cs) = grind (arith, one-cell_back cs)

same-behind : (a u v : List ℕ) → without_end_blanks u ≡ without_end_blanks v
    → without_end_blanks (a ++ 32 ∷ u) ≡ without_end_blanks (a ++ 32 ∷ v)
same-behind [] u v e = ap (before_end_blanks 32) e
same-behind (c ∷ cs) u v e = ap (before_end_blanks c) (same-behind cs u v e)

pub line-back : (n : ℕ) (line : List ℕ)
    → without_end_blanks line ≡ without_end_blanks (with_blanks (cells_of n line) (after_cells n line))
line-back zero line = refl
line-back (suc n) line =
    sym (one-cell_back line)
    ∙ same-behind (first_cell line) (after_cell line)
    (with_blanks (cells_of n (after_cell line)) (after_cells n (after_cell line)))
    (line-back n (after_cell line))
    ∙ ap without_end_blanks
    (sym (one-text (first_cell line) (cells_of n (after_cell line)) (after_cells n (after_cell line))))

-- ---- a satellite's line

-- columns of a text with only blanks after them are the text, except the blanks at its end
pub columns-all : (n : ℕ) (text : List ℕ) → ((p : ℕ) → at text (n + p) ≡ 32)
    → without_end_blanks (columns text 1 n) ≡ without_end_blanks text
columns-all n text h =
    same-cut n (text ++ replicate n 32) text (λ p less. at-padded n text p) ∙ cut-all n text h

pub row-back : (before : WrittenEpoch) (satellite : Satellite) (line : List ℕ) (read : ReadRow)
    → length (flags_in (row_before before satellite)) ≤ 2 * satellite.count
    → RowFacts (past_of_tail (epoch_left before)) satellite line read
    → IsSomebodysRow before satellite line read
row-back before satellite line read few h =
    let n = satellite.count in
    let m = after_cells n line in
    let found = row_before before satellite in
    let tail = tail_named satellite.name (epoch_left before) in
    let back = cells-back OBSERVATION_WIDTH (arc_in found) (λ j. cell_of_tail j tail) (cells_of n line)
    h.cells
    (λ j. ap (cell_of_tail j) (tail-found satellite.name before) ∙ cell-found found j) h.are_read in
    let many : length back.arcs ≡ n = grind (arith, length-map) in
    let marks = and_parts (list_all is_printable m) (list_all is_blank (drop (2 * n) m)) h.marks_ok in
    let old : patched (flags_of_tail tail) m ≡ patched (flags_in found) m =
    grind (arith, tail-found, flags-found, patched-trimmed) in
    let flags = columns (patched (flags_of_tail tail) m) 1 (2 * length h.cells) in
    record {
      now = record { name = satellite.name; arcs = back.arcs; flags = flags };
      name = refl;
      row = search rules;
      count = many;
      written = record {
        texts = cells_of n line;
        marks = m;
        spelled = back.spelled;
        written = line-back n line;
        marked = grind (
          arith,
          columns-all,
          found,
          trimmed-again,
          at-without_end_blanks,
          at-by_position,
          at_past,
          blank-after,
        );
        no_more = grind (arith, many);
        follows = back.follows;
      };
    }

pub only-row : ReadsSomebodysRow
only-row before satellite line read few e = grind (arith, row-back, line-facts)
