-- Facts about an epoch that was read.
use Rattle.crx_compact.proofs.Vocabulary.{◌≡◌, suc, List, Some, None, Done, Code, Past, ◌+◌, ◌*◌}
use Rattle.crx_compact.proofs.Vocabulary.{true, length, Option, Result, Count, Place, RawRow, subst}
use Rattle.crx_compact.proofs.Vocabulary.{rules, BegunEpoch, begins_epoch, past_of_line, row_of_cells, Row}
use Rattle.crx_compact.proofs.Vocabulary.{Err, not, epoch_begun, Fault, apart-map, Truncated, Satellite, are_marks}
use Rattle.crx_compact.proofs.Vocabulary.{rows_read, raw_run_of, cells_read, length-map, then_place, first_line}
use Rattle.crx_compact.proofs.Vocabulary.{NotAnEpoch, each_place, ℕ, ℤ, ◌∷◌, map, Ok, sym, ◌∙◌, ap, []}
use Rattle.crx_compact.proofs.Vocabulary.{code_of, Content, BadClock, without_end_blanks, take, epoch_against}
use Rattle.crx_compact.proofs.Vocabulary.{epoch_at, slice_index_or, AllByRecursion, clock_line_read, common_steps}
use Rattle.crx_compact.proofs.Vocabulary.{Missing, arith, ReadRow, columns, ReadLine, BadFlags, RawEpoch}
use Rattle.crx_compact.proofs.Vocabulary.{block_of, marks_of, ReadCell, cells_of, ReadEpoch, cell_read}
use Rattle.crx_compact.proofs.Vocabulary.{if◌then◌else◌, satellites_of_line, satellite_line_read, epoch_after_line}
use Rattle.crx_compact.proofs.Vocabulary.{after_cells, raw_row_named, past_of_block, epoch_of_rows}
use Rattle.crx_compact.proofs.{Vocabulary.⊤, GoodResults.{no-err, and_then-ok, if-err, if-true}}
use Rattle.crx_compact.proofs.{wayback.Overlays.columns-cut, Marks.{cells-count, texts-count}}
use Rattle.crx_compact.proofs.{Identifiers.each-own, EpochLines.{differ, names_of, LineFacts, line-facts_of}}
use Rattle.crx_compact.specs.Expansion.{all_ok, text_of, row_from, rows_from, epoch_of_block}
use Rattle.crx_compact.specs.ReadingLaws.{ReadsSoundly}

-- ---- good results follow from good results

-- the first line is read, and the rest after it
pub record Begins {X Y : Type 0} (lines : List ReadLine) (read : List ℕ → Result X Fault) (next : X
    → List ReadLine → Place Y) (y : Y) (n : ℕ) : Type 0 where
  pub line : List ℕ
  pub rest : List ReadLine
  pub from : X
  pub more : ℕ
  pub is : lines ≡ Content line ∷ rest
  pub ok : read line ≡ Ok from
  pub later : next from rest ≡ Done y more
  pub counted : n ≡ suc more

pub begins : {X Y : Type 0} (lines : List ReadLine) (read : List ℕ → Result X Fault) (next : X → List ReadLine
    → Place Y) (y : Y) (n : ℕ) → then_place (first_line lines read) lines next ≡ Done y n
    → Begins lines read next y n
begins (Content line ∷ rest) read next y n e = grind arith
begins lines read next y n e = absurd (cc e)

cut-at : (lines rest : List ReadLine) (line : List ℕ) (n more : ℕ) (own : List (List ℕ))
    → lines ≡ Content line ∷ rest → n ≡ suc more → take more rest ≡ map Content own
    → take n lines ≡ map Content (line ∷ own)
cut-at lines rest line n more own e k h = cc (h)

-- the last thing, and the result that is made of it
pub ends : {X Y : Type 0} (p : Place X) (lines : List ReadLine) (make : X → Y) (y : Y) (n : ℕ)
    → then_place p lines (λ x rest. Done (make x) 0) ≡ Done y n
    → (from : X) × (p ≡ Done from n) × (make from ≡ y)
ends p lines make y n e = grind arith

-- ---- cells

-- a cell that was read from a text: its coded value is the text's, and its value is the one that this stands for
pub record IsReadCell (value : Code → Result (Option ℤ) Fault) (text : List ℕ) (cell : ReadCell) : Type 0
  where
    pub coded : code_of text ≡ Some cell.code
    pub meant : value cell.code ≡ Ok cell.value

pub read-cell : (bad : Fault) (value : Code → Result (Option ℤ) Fault) (text : List ℕ) (cell : ReadCell)
    → cell_read bad value (code_of text) ≡ Ok cell → IsReadCell value text cell
read-cell bad value text cell e = grind arith

abbrev pub AreReadCells : (ℕ → Code → Result (Option ℤ) Fault) → List (List ℕ) → List ReadCell → Type 0
AreReadCells value [] [] = ⊤
AreReadCells value (t ∷ ts) (c ∷ cs) = IsReadCell (value 0) t c × AreReadCells (λ j. value (suc j)) ts cs
AreReadCells value texts cells = ⊥

read-cells : (value : ℕ → Code → Result (Option ℤ) Fault) (texts : List (List ℕ)) (cells : List ReadCell)
    → cells_read value texts ≡ Ok cells → AreReadCells value texts cells
read-cells value [] cells e = grind arith
read-cells value (text ∷ texts) cells e = grind (arith, read-cell, read-cells (λ j. value (suc j)) texts)

-- the values that the coded values of some cells stand for
cells-meant : (value : ℕ → Code → Result (Option ℤ) Fault) (texts : List (List ℕ)) (cells : List ReadCell)
    → AreReadCells value texts cells
    → all_ok (each_place (length (map (λ (c : ReadCell). c.code) cells)) (λ j. value j (slice_index_or
    (map (λ (c : ReadCell). c.code) cells) j Missing))) ≡ Ok (map (λ (c : ReadCell). c.value) cells)
cells-meant value (t ∷ ts) (c ∷ cs) h = rw h.0.meant (cc (cells-meant (λ j. value (suc j)) ts cs h.1))
cells-meant value texts cells h = grind arith

-- ---- a satellite's line

pub record RowFacts (past : Past) (satellite : Satellite) (line : List ℕ) (read : ReadRow) : Type 0 where
  pub cells : List ReadCell
  pub are_read : AreReadCells (past.value satellite.name) (cells_of satellite.count line) cells
  pub counted : length cells ≡ satellite.count
  pub marks_ok : are_marks satellite.count (after_cells satellite.count line) ≡ true
  pub is_read : row_of_cells past satellite.name (after_cells satellite.count line) cells ≡ read

pub line-facts : (past : Past) (satellite : Satellite) (line : List ℕ) (read : ReadRow)
    → satellite_line_read past satellite line ≡ Ok read → RowFacts past satellite line read
line-facts past satellite line read e =
    let texts = cells_of satellite.count line in
    let marks = after_cells satellite.count line in
    let step = and_then-ok (cells_read (past.value satellite.name) texts)
    (λ cs. if not (are_marks satellite.count marks) then Err BadFlags
    else Ok (row_of_cells past satellite.name marks cs)) read (if-err (begins_epoch line) Truncated _ read e)
    in
    let row = row_of_cells past satellite.name marks step.from in
    record {
      cells = step.from;
      are_read = read-cells (past.value satellite.name) texts step.from step.first;
      counted = search (rules, cells-count, texts-count);
      marks_ok = if-true (are_marks satellite.count marks) BadFlags (Ok row) read step.next;
      is_read = grind (arith, if-err);
    }

-- the row is the one that the line stands for after the lines before it
row-meant : (block : List RawEpoch) (satellite : Satellite) (line : List ℕ) (read : ReadRow)
    → RowFacts (past_of_block block) satellite line read
    → row_from (read.raw ∷ raw_run_of satellite.name block) read.raw ≡ Ok read.row
row-meant block satellite line read h =
    let P : ReadRow → Type 0 = λ r. row_from (r.raw ∷ raw_run_of satellite.name block) r.raw ≡ Ok r.row in
    let texts = cells_of satellite.count line in
    let meant = cells-meant ((past_of_block block).value satellite.name) texts h.cells h.are_read in
    let cut = columns-cut (2 * length (map (λ (c : ReadCell). c.code) h.cells))
    (after_cells satellite.count line ∷ marks_of (raw_run_of satellite.name block)) in
    subst P h.is_read (rw (meant, cut, length-map h.cells (λ (c : ReadCell). c.code)))

-- ---- all satellites

-- each of some lines belongs to the satellite at its place, and so does each row
abbrev pub Paired : (Satellite → List ℕ → ReadRow → Type 0) → List Satellite → List (List ℕ) → List ReadRow
    → Type 0
Paired P [] [] [] = ⊤
Paired P (s ∷ ss) (l ∷ ls) (r ∷ rs) = P s l r × Paired P ss ls rs
Paired P ss ls rs = ⊥

pub rows-facts : (past : Past) (satellites : List Satellite) (lines : List ReadLine) (rows : List ReadRow)
    (count : ℕ) → rows_read past satellites lines ≡ Done rows count
    → (own : List (List ℕ)) × (take count lines ≡ map Content own)
    × Paired (RowFacts past) satellites own rows × (count ≡ length rows)
rows-facts past [] lines rows count e = ([], grind arith, grind arith, grind arith)
rows-facts past (s ∷ ss) lines rows count e =
    let one = begins lines (satellite_line_read past s)
    (λ row others. then_place (rows_read past ss others) others
    (λ more rest. Done (row ∷ more) 0)) rows count e in
    let two = ends (rows_read past ss one.rest) one.rest (λ more. one.from ∷ more) rows one.more one.later in
    let rest = rows-facts past ss one.rest two.0 one.more two.1 in
    let cut = cut-at lines one.rest one.line count one.more rest.0 one.is one.counted rest.1 in
    let row = line-facts past s one.line one.from one.ok in
    rw (← two.2) (one.line ∷ rest.0, cut, (row, rest.2), cc (one.counted, rest.3))

-- ---- identifiers

pub row-names : (past : Past) (satellites : List Satellite) (lines : List (List ℕ)) (rows : List ReadRow)
    → Paired (RowFacts past) satellites lines rows
    → (map (λ (r : RawRow). r.name) (map (λ (r : ReadRow). r.raw) rows) ≡ names_of satellites)
    × (map (λ (r : Row). r.name) (map (λ (r : ReadRow). r.row) rows) ≡ names_of satellites)
row-names past (s ∷ ss) (l ∷ ls) (r ∷ rs) h = grind (arith, common_steps, row-names past ss ls rs h.1)
row-names past satellites lines rows h = grind arith

-- ---- the epoch

-- facts about an epoch that was read: its lines, and the past by which each was read
pub record EpochFacts (types : List Count) (given : List ℕ → Option Past) (past_of : List ℕ → Past)
    (lines : List ReadLine) (read : ReadEpoch) (count : ℕ) : Type 0 where
  pub line : List ℕ
  pub clock_line : List ℕ
  pub own : List (List ℕ)
  pub cut : take count lines ≡ map Content (line ∷ clock_line ∷ own)
  pub given_is : given line ≡ Some (past_of line)
  pub satellites : List Satellite
  pub line_ok : LineFacts types (past_of line) line satellites
  pub clock : ReadCell
  pub clock_ok : IsReadCell (past_of line).clock (without_end_blanks clock_line) clock
  pub rows : List ReadRow
  pub rows_ok : Paired (RowFacts (past_of line)) satellites own rows
  pub counted : count ≡ 2 + length rows
  pub is_read : epoch_of_rows (record { line = line; past = past_of line; satellites = satellites }) clock
      rows ≡ read

begun-facts : (types : List Count) (line : List ℕ) (given : Option Past) (begun : BegunEpoch)
    → epoch_begun types line given ≡ Ok begun → (begun.line ≡ line) × (given ≡ Some begun.past)
    × (satellites_of_line types begun.past line ≡ Ok begun.satellites)
begun-facts types line None begun e = absurd (no-err NotAnEpoch begun e)
begun-facts types line (Some past) begun e =
    let step = and_then-ok (satellites_of_line types past line)
    (λ ss. Ok (record { line = line; past = past; satellites = ss })) begun e in
    search rules

-- if an epoch line has a past, it is this one
pub facts-against : (types : List Count) (given : List ℕ → Option Past) (past_of : List ℕ → Past)
    (lines : List ReadLine) (read : ReadEpoch) (count : ℕ)
    → ((line : List ℕ) (past : Past) → given line ≡ Some past → past ≡ past_of line)
    → epoch_against types given lines ≡ Done read count → EpochFacts types given past_of lines read count
facts-against types given past_of lines read count same e =
    let one = begins lines (λ line. epoch_begun types line (given line)) epoch_after_line read count e in
    let begun = begun-facts types one.line (given one.line) one.from one.ok in
    let past = same one.line one.from.past begun.1 in
    let two = begins one.rest (clock_line_read one.from.past) (λ clock others. then_place
    (rows_read one.from.past one.from.satellites others) others
    (λ rows rest. Done (epoch_of_rows one.from clock rows) 0))
    read one.more one.later in
    let three = ends (rows_read one.from.past one.from.satellites two.rest) two.rest
    (λ rows. epoch_of_rows one.from two.from rows) read two.more two.later in
    let rows = rows-facts one.from.past one.from.satellites two.rest three.0 two.more three.1 in
    record {
      line = one.line;
      clock_line = two.line;
      own = rows.0;
      cut = grind (arith, rows.1, cut-at);
      given_is = begun.1 ∙ ap {B = Option Past} Some past;
      satellites = one.from.satellites;
      line_ok = grind (arith, line-facts_of);
      clock = two.from;
      clock_ok = subst (λ (p : Past). IsReadCell p.clock (without_end_blanks two.line) two.from) past
          (read-cell BadClock one.from.past.clock (without_end_blanks two.line) two.from
          (if-err (begins_epoch two.line) Truncated _ two.from two.ok));
      rows = three.0;
      rows_ok = subst (λ p. Paired (RowFacts p) one.from.satellites rows.0 three.0) past rows.2;
      counted = omega (arith, one.counted, two.counted, rows.3);
      is_read = cc (past, begun.0, three.2);
    }

-- the block after which the lines of a raw epoch are read
abbrev pub block_for : List ℕ → List RawEpoch → List RawEpoch
block_for line older = if begins_epoch line then [] else block_of older

pub epoch-facts : (types : List Count) (older : List RawEpoch) (lines : List ReadLine) (read : ReadEpoch)
    (count : ℕ) → epoch_at types older lines ≡ Done read count
    → EpochFacts types (past_of_line older) (λ line. past_of_block (block_for line older)) lines read count
epoch-facts types older lines read count e = grind (arith, facts-against)

-- ---- the law

rows-meant : (block : List RawEpoch) (raw : RawEpoch) (satellites : List Satellite) (lines : List (List ℕ))
    (rows : List ReadRow) → Paired (RowFacts (past_of_block block)) satellites lines rows → AllByRecursion
    (λ (r : RawRow). raw_row_named r.name raw.rows ≡ Some r) (map (λ (r : ReadRow). r.raw) rows)
    → rows_from (raw ∷ block) (map (λ (r : ReadRow). r.raw) rows) ≡ Ok (map (λ (r : ReadRow). r.row) rows)
rows-meant block raw (s ∷ ss) (l ∷ ls) (r ∷ rs) h own =
    grind (arith, row-meant block s l r h.0, rows-meant block raw ss ls rs h.1 own.1)
rows-meant block raw satellites lines rows h own = grind arith

pub reads-soundly : ReadsSoundly
reads-soundly types older lines read count e =
    let h = epoch-facts types older lines read count e in
    let block = block_for h.line older in
    let raws = map (λ (r : ReadRow). r.raw) h.rows in
    let names = (row-names (past_of_block block) h.satellites h.own h.rows h.rows_ok).0
    ∙ h.line_ok.named.same in
    let apart = sym (apart-map (λ (n : List ℕ). n) _ raws) ∙ ap differ names ∙ h.line_ok.named.apart in
    let own = each-own (λ (r : RawRow). r.name) raws apart in
    let raw : RawEpoch = record { line = h.line; clock = h.clock.code; rows = raws } in
    let meant : epoch_of_block (raw ∷ block) raw ≡ Ok (record {
      head = columns (text_of (raw ∷ block)) 1 41;
      clock = h.clock.value;
      rows = map (λ (r : ReadRow). r.row) h.rows;
    }) = rw (h.clock_ok.meant, rows-meant block raw h.satellites h.own h.rows h.rows_ok own) in
    rw (← h.is_read) (search (rules, own, meant, length-map))
