-- An epoch that was read is whole, and its marks can precede others.
use Rattle.crx_compact.proofs.Vocabulary.{◌≡◌, IsAllowedCount, satellites_few, length-each_place}
use Rattle.crx_compact.proofs.Vocabulary.{refl, unwrap_or, is_system, IsSoundRow, apart-map, Satellite, raw_run_of}
use Rattle.crx_compact.proofs.Vocabulary.{ℕ, ◌+◌, ◌*◌, ℤ, ◌∷◌, map, sym, ◌∙◌, ap, Row, Code, suc, true, None}
use Rattle.crx_compact.proofs.Vocabulary.{List, take, Some, Result, IfSome, arith, Count, Fault, RawRow, [], rules}
use Rattle.crx_compact.proofs.Vocabulary.{list_all, RawEpoch, block_of, overlaid, marks_of, value_of, ReadCell}
use Rattle.crx_compact.proofs.Vocabulary.{length, Option, Ok, columns, IsValue, is_kept, ReadRow, stretch}
use Rattle.crx_compact.proofs.Vocabulary.{AllByRecursion, IsMissingOrWithin, types_of_satellite}
use Rattle.crx_compact.proofs.Vocabulary.{subst, character_at, HasItsTypes, CLOCK_WIDTH, is_printable}
use Rattle.crx_compact.proofs.Vocabulary.{length-map, raw_row_named, past_of_block, each_place-all, length-columns}
use Rattle.crx_compact.proofs.{Vocabulary.{All-from_recursion, count_of}, Characters.all-take, Marks.patched-kept}
use Rattle.crx_compact.proofs.Lists.{all-from}
use Rattle.crx_compact.proofs.{SoundTexts.all-columns, wayback.Overlays.overlaid-patched}
use Rattle.crx_compact.proofs.EpochLines.{differ, names_of}
use Rattle.crx_compact.proofs.soundness.Soundness.{AreReadCells, RowFacts, Paired, block_for, epoch-facts}
use Rattle.crx_compact.proofs.{Vocabulary.{after_cells}}
use Rattle.std.specs.Prelude.{OnSome}
use Rattle.crx_header.specs.{ObservationTypes.AreCounts, meaning.Satellites.has_number}
use Rattle.crx_header.proofs.Counts.{allowed_of, system_of}
use Rattle.crx_compact.specs.ReadingLaws.{HasPrintableMarks, IsGood, ReadsWholeEpochs}
use Rattle.crx_compact.proofs.soundness.Soundness.{row-names}

-- ---- marks

abbrev ArePrintable : List (List ℕ) → Type 0
ArePrintable marks = AllByRecursion (λ (w : List ℕ). list_all is_printable w ≡ true) marks

overlaid-kept : (marks : List (List ℕ)) → ArePrintable marks → list_all is_kept (overlaid marks) ≡ true
overlaid-kept [] h = refl
overlaid-kept (w ∷ ws) h = grind (arith, overlaid-patched, patched-kept, overlaid-kept ws h.1)

-- ---- the marks of a run

block-printable : (older : List RawEpoch)
    → AllByRecursion HasPrintableMarks older → AllByRecursion HasPrintableMarks (block_of older)
block-printable [] h = tt
block-printable (e ∷ older) h = grind (arith, block-printable older h.1)

found-printable : (name : List ℕ) (rows : List RawRow)
    → AllByRecursion (λ (r : RawRow). list_all is_printable r.marks ≡ true) rows
    → IfSome (raw_row_named name rows) (λ (r : RawRow). list_all is_printable r.marks ≡ true)
found-printable name [] h = tt
found-printable name (r ∷ rs) h = grind (arith, found-printable name rs h.1)

marks-cut : (n : ℕ) (marks : List (List ℕ)) → ArePrintable marks → ArePrintable (map (take n) marks)
marks-cut n [] h = tt
marks-cut n (w ∷ ws) h = (all-take is_printable n w h.0, marks-cut n ws h.1)

raw_run-printable : (name : List ℕ) (block : List RawEpoch)
    → AllByRecursion HasPrintableMarks block → ArePrintable (marks_of (raw_run_of name block))
raw_run-printable name [] h = tt
raw_run-printable name (e ∷ es) h =
    choose (raw_row_named name e.rows) (found-printable name e.rows h.0) (raw_run-printable name es h.1)
  where
    choose : (o : Option RawRow) → IfSome o (λ (r : RawRow). list_all is_printable r.marks ≡ true)
        → ArePrintable (marks_of (raw_run_of name es))
        → ArePrintable (marks_of (stretch (o ∷ map (λ (q : RawEpoch). raw_row_named name q.rows) es)))
    choose None k next = tt
    choose (Some r) k next = marks-cut (2 * length r.codes) (r.marks ∷ _) (k, next)

-- ---- values

value_of-fits : (width : ℕ) (codes : List Code) (v : Option ℤ) → value_of width codes ≡ Ok v
    → IsMissingOrWithin width v
value_of-fits width codes v e = grind arith

-- every value of some cells is in range
cells-fit : (value : ℕ → Code → Result (Option ℤ) Fault)
    → ((j : ℕ) (c : Code) (v : Option ℤ) → value j c ≡ Ok v → IsValue v) → (texts : List (List ℕ))
    (cells : List ReadCell) → AreReadCells value texts cells
    → AllByRecursion IsValue (map (λ (c : ReadCell). c.value) cells)
cells-fit value h (t ∷ ts) (c ∷ cs) k = grind
    (arith, cells-fit (λ j. value (suc j)) (λ j. h (suc j)) ts cs k.1)
cells-fit value h texts cells k = grind arith

-- ---- rows

pub record IsTyped (types : List Count) (name : List ℕ) (count : ℕ) : Type 0 where
  pub number : has_number name ≡ true
  pub found : count_of types (character_at name 1) ≡ Some count

pub typed-parts : (types : List Count) (name : List ℕ) (count : ℕ)
    → types_of_satellite types name ≡ Some count → IsTyped types name count
typed-parts types name count h = grind arith

module _ (types : List Count) (block : List RawEpoch) (counts : AreCounts types)
    (printable : AllByRecursion HasPrintableMarks block) where
  row-sound : (satellite : Satellite) (line : List ℕ) (read : ReadRow)
      → types_of_satellite types satellite.name ≡ Some satellite.count → length satellite.name ≡ 3
      → RowFacts (past_of_block block) satellite line read
      → (IsSoundRow read.row × HasItsTypes types read.row) × (list_all is_printable read.raw.marks ≡ true)
  row-sound satellite line read known short h =
      let name = satellite.name in
      let new = after_cells satellite.count line in
      let long = length-columns ((past_of_block block).flags name new) 1 (2 * length h.cells) in
      let many = length-map h.cells (λ (c : ReadCell). c.value) in
      let count = many ∙ h.counted in
      let typed = typed-parts types name satellite.count known in
      let P : Option ℕ → Type 0 = λ o. IfSome o IsAllowedCount in
      let Q : Option ℕ → Type 0 = λ o. OnSome o (is_system (character_at name 1) ≡ true) in
      let system = subst Q typed.found (system_of types (character_at name 1) counts) in
      let marks : list_all is_printable new ≡ true = grind (arith, h.marks_ok) in
      rw (← h.is_read) (
        (
          record {
            named = cc (short, typed.number, system);
            counted = rw count (subst P typed.found (allowed_of types (character_at name 1) counts));
            ranged = grind (arith, All-from_recursion, cells-fit, value_of-fits);
            paired = cc (long, many);
            kept = search (rules, all-columns, overlaid-kept, raw_run-printable);
          },
          known ∙ ap (λ n. Some n) (sym count),
        ),
        marks,
      )

  rows-sound : (satellites : List Satellite) (lines : List (List ℕ)) (rows : List ReadRow)
      → AllByRecursion (λ (s : Satellite). types_of_satellite types s.name ≡ Some s.count) satellites
      → AllByRecursion (λ (n : List ℕ). length n ≡ 3) (names_of satellites)
      → Paired (RowFacts (past_of_block block)) satellites lines rows
      → AllByRecursion (λ (r : Row). IsSoundRow r × HasItsTypes types r) (map (λ (r : ReadRow). r.row) rows)
      × AllByRecursion (λ (r : RawRow). list_all is_printable r.marks ≡ true)
      (map (λ (r : ReadRow). r.raw) rows)
  rows-sound (s ∷ ss) (l ∷ ls) (r ∷ rs) typed short h =
      let rest = rows-sound ss ls rs typed.1 short.1 h.1 in
      let row = row-sound s l r typed.0 short.0 h.0 in ((row.0, rest.0), (row.1, rest.1))
  rows-sound satellites lines rows typed short h = grind arith

-- ---- the epoch

pub reads-whole : ReadsWholeEpochs
reads-whole types older lines read count counts printable e =
    let facts = epoch-facts types older lines read count e in
    let block = block_for facts.line older in
    let text : List ℕ = (past_of_block block).text facts.line in
    let head = columns text 1 41 in
    let rows = map (λ (r : ReadRow). r.row) facts.rows in
    let n = facts.line_ok.count in
    let sound_block : AllByRecursion HasPrintableMarks block = grind (arith, block-printable) in
    let three = each_place-all (λ (m : List ℕ). length m ≡ 3) n (λ k. columns text (42 + 3 * k) 3)
    (λ k. length-columns text (42 + 3 * k) 3) in
    let all = rows-sound types block counts sound_block facts.satellites facts.own facts.rows
    facts.line_ok.named.known (rw facts.line_ok.named.same three) facts.rows_ok in
    let names = (row-names (past_of_block block) facts.satellites facts.own facts.rows facts.rows_ok).1
    ∙ facts.line_ok.named.same in
    let places = length-each_place n (λ k. columns text (42 + 3 * k) 3) in
    let many : length rows ≡ n = sym (length-map rows (λ (r : Row). r.name)) ∙ ap length names ∙ places in
    let announced = ap (λ o. unwrap_or o 0) facts.line_ok.counted in
    let clock = value_of-fits CLOCK_WIDTH (facts.clock.code ∷ map (λ (q : RawEpoch). q.clock) block)
    facts.clock.value facts.clock_ok.meant in
    subst (IsGood types) facts.is_read (record {
      whole = record {
        sound = record {
          head_sound = record {
            width = length-columns text 1 41;
            counted = facts.line_ok.counted ∙ ap (λ m. Some m) (sym announced);
            within = satellites_few head;
            ranged = clock;
          };
          rows_sound = All-from_recursion IsSoundRow rows (all-from IsSoundRow (λ r both. both.0) rows all.0);
          apart = sym (apart-map (λ (n : List ℕ). n) _ rows) ∙ ap differ names ∙ facts.line_ok.named.apart;
          within = omega (arith, many, announced);
        };
        full = many ∙ sym announced;
        typed = grind (arith, All-from_recursion, all-from);
      };
      marks = all.1;
    })
