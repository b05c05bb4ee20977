-- The lines of an epoch: their number, and that the lines in compact text are printable.
use Rattle.crx_filter.proofs.Vocabulary
use Vocabulary.{arith, common_steps, refl, sym, [], ℕ, ℤ, suc, ◌≡◌, ◌+◌, true, List, ◌∷◌, map, length, length-map}
use Vocabulary.{Option, Result, and_parts, list_all, ReadLine, Content, Fault, Past, Satellite, is_printable}
use Vocabulary.{without_end_blanks, Done, Epoch, ReadEpoch, Item, Observation, types_in_force, raws_kept}
use Vocabulary.{rinex_place, compact_place}
use Rattle.crx_text.specs.declared.code.Code.{Code}
use Rattle.crx_compact.specs.meaning.{Cells.{ReadCell, cells_of, after_cells}, CompactPlaces.ReadRow}
use Rattle.crx_compact.proofs.soundness.Soundness.{AreReadCells, IsReadCell, RowFacts, Paired, epoch-facts}
use Rattle.crx_compact.proofs.anywriter.Texts.{AreTexts, spelled-characters, code-printable, texts-printable}
use Rattle.crx_compact.proofs.anywriter.Texts.{with_blanks}
use Rattle.crx_compact.proofs.{anywriter.{Rows.all-same, OnlyRows.line-back}, SoundTexts.trimmed-again}
use Rattle.crx_filter.proofs.reading.{InPlace.rinex-stands, Types.counts-in_force}
use Rattle.crx_filter.proofs.wayback.ExpandedWhole.{compact-stands}
use Rattle.crx_rinex.proofs.SoundEpochs.{sound-epoch_place}
use Rattle.std.proofs.Math.Seq.{take-length}
use Rattle.crx_laws.specs.Cuts.{is_clean}

pub of-file : (items : List (Item Epoch)) (own : List ReadLine) (epoch : Epoch)
    → rinex_place items own ≡ Done (Observation epoch) (length own) → length own ≡ length epoch.rows + 1
of-file items own epoch e =
    let here = (rinex-stands items own (Observation epoch) (length own) e).2 in
    omega (
      arith,
      (sound-epoch_place (types_in_force items) own epoch (length own)
          (counts-in_force items) here).1,
    )

-- ---- compact text

clock-printable : (value : Code → Result (Option ℤ) Fault) (line : List ℕ) (cell : ReadCell)
    → IsReadCell value (without_end_blanks line) cell → list_all is_printable line ≡ true
clock-printable value line cell h =
    search (all-same, trimmed-again, code-printable, spelled-characters)

cells-texts : (value : ℕ → Code → Result (Option ℤ) Fault) (texts : List (List ℕ)) (cells : List ReadCell)
    → AreReadCells value texts cells → AreTexts texts
cells-texts value [] cells h = tt
cells-texts value (t ∷ ts) [] h = absurd h
cells-texts value (t ∷ ts) (c ∷ cs) h =
    (spelled-characters t c.code h.0.coded, cells-texts (λ j. value (suc j)) ts cs h.1)

row-printable : (past : Past) (s : Satellite) (line : List ℕ) (read : ReadRow) → RowFacts past s line read
    → list_all is_printable line ≡ true
row-printable past s line read h =
    let texts = cells_of s.count line in
    let marks = after_cells s.count line in
    all-same is_printable refl (with_blanks texts marks) line (sym (line-back s.count line))
    (texts-printable texts marks (cells-texts _ texts h.cells h.are_read) (and_parts _ _ h.marks_ok).0)

rows-clean : (past : Past) (satellites : List Satellite) (lines : List (List ℕ)) (rows : List ReadRow)
    → Paired (RowFacts past) satellites lines rows → list_all is_clean (map Content lines) ≡ true
rows-clean past [] [] [] h = refl
rows-clean past (s ∷ ss) (l ∷ ls) (r ∷ rs) h = rw (row-printable past s l r h.0)
    (rows-clean past ss ls rs h.1)
rows-clean past satellites lines rows h = absurd h

pub of-text : (items : List (Item ReadEpoch)) (own : List ReadLine) (read : ReadEpoch)
    → compact_place items own ≡ Done (Observation read) (length own)
    → (length own ≡ length read.epoch.rows + 2) × (list_all is_clean own ≡ true)
of-text items own read e =
    let here = (compact-stands items own (Observation read) (length own) e).2 in
    let h = epoch-facts (types_in_force items) (raws_kept items) own read (length own) here in
    let clock = clock-printable _ h.clock_line h.clock h.clock_ok in
    let rows = rows-clean _ h.satellites h.own h.rows h.rows_ok in
    grind (arith, common_steps, take-length own, length-map, h.line_ok.printable)
