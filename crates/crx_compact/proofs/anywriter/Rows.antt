-- A satellite's line, whoever wrote it, is read as its row.
use Rattle.crx_compact.proofs.Vocabulary.{◌≡◌, refl, ℕ, ℤ, suc, List, [], ◌∷◌, true, false, Option, Some, None}
use Rattle.crx_compact.proofs.Vocabulary.{Result, Ok, map, length, arith, ap, sym, ◌∙◌, ◌*◌, ◌+◌, drop}
use Rattle.crx_compact.proofs.Vocabulary.{list_all, length-map, slice_index_or, option_map, rules, common_steps}
use Rattle.crx_compact.proofs.Vocabulary.{Code, Missing, Fault, code_of, cells_of, after_cells}
use Rattle.crx_compact.proofs.Vocabulary.{cells_read, ReadCell, IsValue, OBSERVATION_WIDTH}
use Rattle.crx_compact.proofs.Vocabulary.{without_end_blanks, patched, character_of}
use Rattle.crx_compact.proofs.Vocabulary.{by_position, at, at-without_end_blanks, at-drop}
use Rattle.crx_compact.proofs.Vocabulary.{list_all-from_at, is_blank, is_kept, is_printable}
use Rattle.crx_compact.proofs.Vocabulary.{IsSoundRow, satellite_line_read, row_of_cells, past_of_tail}
use Rattle.crx_compact.proofs.Vocabulary.{raw_row_tail_after, tail_named, cell_of_tail, flags_of_tail}
use Rattle.crx_compact.proofs.Vocabulary.{arc_of_code, ArcTail, RowTail, named}
use Rattle.crx_compact.proofs.Vocabulary.{each_place, begins_epoch, columns, ReadRow}
use Rattle.crx_compact.proofs.Characters.{same_characters, at-by_position, list_all-at}
use Rattle.crx_compact.proofs.SoundTexts.{patched-trimmed, first-columns, held-columns}
use Rattle.crx_compact.proofs.{wayback.Runs.named-made, wayback.Rows.value-fits, Vocabulary.{map-map, subst}}
use Rattle.crx_compact.specs.meaning.AnyWriter.{Arc, WrittenRow, WrittenEpoch, code_now}
use Rattle.crx_compact.specs.meaning.AnyWriter.{row_now, arc_in, flags_in, IsRowLine}
use Rattle.crx_compact.specs.AnyWriter.{value_now, arc_left, row_left, epoch_left, ReadsAnyRow}
use Rattle.crx_compact.proofs.anywriter.Arcs.{Goes, goes}
use Rattle.crx_compact.proofs.anywriter.Texts.{AreTexts, spelled-characters, cells-again, line-other}
use Rattle.crx_compact.proofs.anywriter.Texts.{with_blanks, texts-printable}
use Rattle.crx_compact.proofs.Vocabulary.{Bool}

abbrev codes_wanted : List (Option Arc) → List (Option Code)
codes_wanted arcs = map (λ (arc : Option Arc). Some (code_now arc)) arcs

abbrev pub arc_at : List (Option Arc) → ℕ → Option Arc
arc_at arcs j = slice_index_or arcs j None

-- ---- a satellite's tail after the previous epoch

at-map : {X : Type 0} (f : Option Arc → Option X) → f None ≡ None → (arcs : List (Option Arc)) (j : ℕ)
    → slice_index_or (map f arcs) j None ≡ f (arc_at arcs j)
at-map f e (a ∷ as') (suc j) = at-map f e as' j
at-map f e arcs j = cc e

pub tail-found : (name : List ℕ) (before : WrittenEpoch) → tail_named name (epoch_left before)
    ≡ option_map row_left (named (λ (r : WrittenRow). r.name) name before.rows)
tail-found name before = named-made (λ (r : WrittenRow). r.name) (λ (t : RowTail). t.name)
    (λ n r. row_left r) (λ n r. refl) name before.rows

pub cell-found : (found : Option WrittenRow) (j : ℕ)
    → cell_of_tail j (option_map row_left found) ≡ arc_left (arc_in found j)
cell-found x j = grind (arith, common_steps, at-map, arc_left)

pub flags-found : (found : Option WrittenRow)
    → flags_of_tail (option_map row_left found) ≡ without_end_blanks (flags_in found)
flags-found found = grind arith

-- ---- its coded values

are-texts : (ts : List (List ℕ)) (arcs : List (Option Arc)) → map code_of ts ≡ codes_wanted arcs → AreTexts ts
are-texts (t ∷ ts) (a ∷ arcs) e = (spelled-characters t (code_now a) (cc e), are-texts ts arcs (cc e))
are-texts ts arcs e = grind (arith, e)

abbrev cell_now : Option Arc → ReadCell
cell_now arc = record { code = code_now arc; value = value_now arc }

cells-good : (value : ℕ → Code → Result (Option ℤ) Fault) (ts : List (List ℕ)) (arcs : List (Option Arc))
    → map code_of ts ≡ codes_wanted arcs
    → ((j : ℕ) → value j (code_now (arc_at arcs j)) ≡ Ok (value_now (arc_at arcs j)))
    → cells_read value ts ≡ Ok (map cell_now arcs)
cells-good value [] [] e h = refl
cells-good value (t ∷ ts) (a ∷ arcs) e h = cc
    (e, h 0, cells-good (λ j. value (suc j)) ts arcs (cc e) (λ j. h (suc j)))
cells-good value ts arcs e h = absurd (cc e)

arcs-left : (arcs : List (Option Arc)) (b : ℕ → Option ArcTail)
    → ((j : ℕ) → arc_of_code (code_now (arc_at arcs j)) (b j) ≡ arc_left (arc_at arcs j))
    → each_place (length (map code_now arcs))
    (λ j. arc_of_code (slice_index_or (map code_now arcs) j Missing) (b j))
    ≡ map arc_left arcs
arcs-left [] b h = refl
arcs-left (a ∷ arcs) b h = cc (h 0, arcs-left arcs (λ j. b (suc j)) (λ j. h (suc j)))

-- ---- its marks

pub at-same : (a b : List ℕ) → without_end_blanks a ≡ without_end_blanks b → (p : ℕ) → at a p ≡ at b p
at-same a b e p = sym (at-without_end_blanks a p) ∙ ap (λ t. at t p) e ∙ at-without_end_blanks b p

-- marks that make a text of allowed characters are printable
pub marks-printable : (old marks new : List ℕ) → patched old marks ≡ without_end_blanks new
    → list_all is_kept new ≡ true → list_all is_printable marks ≡ true
marks-printable old marks new e h = list_all-from_at is_printable marks (λ p.
    let same = at-same (by_position character_of old marks) new e p in
    let kept = list_all-at is_kept refl new h p in
    grind (arith, at-by_position))

-- texts that are the same without the blanks at their ends pass the same test, if a blank does
pub all-same : (p : ℕ → Bool) → p 32 ≡ true → (a b : List ℕ) → without_end_blanks a ≡ without_end_blanks b
    → list_all p a ≡ true → list_all p b ≡ true
all-same p e a b same h = list_all-from_at p b (λ k. ap p (sym (at-same a b same k)) ∙ list_all-at p e a h k)

blanks-same : (n : ℕ) (a b : List ℕ) → without_end_blanks a ≡ without_end_blanks b
    → list_all is_blank (drop n a) ≡ true → list_all is_blank (drop n b) ≡ true
blanks-same n a b e h = list_all-from_at is_blank (drop n b) (λ p.
    ap is_blank (at-drop n b p ∙ sym (at-same a b e (n + p)) ∙ sym (at-drop n a p))
    ∙ list_all-at is_blank refl (drop n a) h p)

-- ---- the line

module _ (before : WrittenEpoch) (now : WrittenRow) (line : List ℕ) (sound : IsSoundRow (row_now now))
    (h : IsRowLine (named (λ (r : WrittenRow). r.name) now.name before.rows) now line) where
  abbrev found : Option WrittenRow
  found = named (λ (r : WrittenRow). r.name) now.name before.rows

  abbrev tail : Option RowTail
  tail = tail_named now.name (epoch_left before)

  abbrev marks : List ℕ
  marks = after_cells (length now.arcs) line

  count : length h.texts ≡ length now.arcs
  count = grind (arith, common_steps, length-map)

  texts : AreTexts h.texts
  texts = are-texts h.texts now.arcs h.spelled

  marks-same : without_end_blanks marks ≡ without_end_blanks h.marks
  marks-same = grind (arith, count, cells-again h.texts h.marks line texts h.written)

  cells : cells_of (length now.arcs) line ≡ h.texts
  cells = ap (λ k. cells_of k line) (sym count) ∙ (cells-again h.texts h.marks line texts h.written).0

  other : begins_epoch line ≡ false
  other = search (rules, line-other, count, length-map, texts)

  line-printable : list_all is_printable line ≡ true
  line-printable = all-same is_printable refl (with_blanks h.texts h.marks) line (sym h.written)
      (texts-printable h.texts h.marks texts
      (marks-printable (flags_in found) h.marks now.flags h.marked sound.kept))

  cell-held : (j : ℕ) → cell_of_tail j tail ≡ arc_left (arc_in found j)
  cell-held j = grind (arith, tail-found, cell-found, named)

  flags-made : patched (flags_of_tail tail) marks ≡ without_end_blanks now.flags
  flags-made = grind (
    arith,
    named,
    tail-found,
    flags-found,
    patched-trimmed,
    same_characters,
    at-by_position,
    at-same,
    marks-same,
  )

  goes-at : (j : ℕ) → Goes OBSERVATION_WIDTH (arc_in found j) (arc_at now.arcs j)
  goes-at j = goes OBSERVATION_WIDTH (arc_in found j) (arc_at now.arcs j) (h.follows j)
      (subst IsValue (at-map value_now refl now.arcs j) (value-fits _ j sound.ranged))

  flags-again : columns (patched (flags_of_tail tail) marks) 1 (2 * length now.arcs) ≡ now.flags
  flags-again = grind (arith, flags-made, first-columns, sound.paired, length-map, at-without_end_blanks)

  abbrev read : ReadRow
  read =
      record {
        raw = record { name = now.name; codes = map code_now now.arcs; marks = marks };
        row = row_now
            now;
      }

  made : row_of_cells (past_of_tail (epoch_left before)) now.name marks (map cell_now now.arcs) ≡ read
  made = grind (arith, map-map, length-map, flags-again)

  reads : satellite_line_read (past_of_tail (epoch_left before))
      (record { name = now.name; count = length now.arcs }) line ≡ Ok read
  reads =
      let printable = marks-printable (flags_of_tail tail) marks now.flags flags-made sound.kept in
      grind (arith, other, cells, cells-good, cell-held, goes-at, blanks-same, marks-same, made)

  leaves-row : raw_row_tail_after tail read.raw ≡ row_left now
  leaves-row =
      let cells = arcs-left now.arcs (λ j. cell_of_tail j tail)
      (λ j. ap (arc_of_code (code_now (arc_at now.arcs j))) (cell-held j) ∙ (goes-at j).leaves) in
      let held = held-columns (length now.arcs) (patched (flags_of_tail tail) marks) in
      cc (length-map now.arcs code_now, flags-again)

pub any-row : ReadsAnyRow
any-row before now line sound h = record {
  read = read before now line sound h;
  reads = reads before now line sound h;
  row = refl;
  name = refl;
  leaves = leaves-row before now line sound h;
}

-- and it can follow another in a file
abbrev pub CanFollow : List ℕ → Type 0
CanFollow line = (list_all is_printable line ≡ true) × (begins_epoch line ≡ false)

pub row-follows : (before : WrittenEpoch) (now : WrittenRow) (line : List ℕ) → IsSoundRow (row_now now)
    → IsRowLine (named (λ (r : WrittenRow). r.name) now.name before.rows) now line → CanFollow line
row-follows before now line sound h = (line-printable before now line sound h, other before now line sound h)
