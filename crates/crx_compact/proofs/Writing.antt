-- An epoch whose rows are written one by one: one row more.
use Rattle.crx_compact.proofs.Vocabulary.{◌≡◌, ◌++◌, ◌∷◌, [], ℕ, List, Bool, Some, true, false, not}
use Rattle.crx_compact.proofs.Vocabulary.{ap, sym, ◌∙◌, not-true}
use Rattle.crx_compact.proofs.Vocabulary.{is_among, has_satellite, Row, IsSoundRow, OpenHistory, PlacedRows}
use Rattle.crx_compact.proofs.Vocabulary.{row_line_after, row_tail_after}
use Rattle.crx_compact.proofs.Vocabulary.{RowTail, Tail, AreRowsWritten, arith, among-map, apart-push, HasCome}
use Rattle.crx_compact.proofs.{RowsByHistory.{awaited-after, come-row}, placing.SteppedRows.IsLastStored}
use Rattle.std.proofs.lemmas.List.Elements.{All-push}
use Rattle.crx_compact.specs.Placing.{IsLeftAt, SatelliteTail, line_after, row_tail_named, row_tail_of}
use Rattle.crx_compact.specs.Placing.{satellite_after}
use Rattle.std.proofs.lemmas.Grind.{common_steps}

-- the history has a row of a satellite if and only if the rows have one
pub come-already : (after : Tail) (rows : List Row) (history : OpenHistory) (lines : List (List ℕ))
    (placed : PlacedRows) (name : List ℕ)
    → placed ≡ history.satellites → AreRowsWritten after rows history lines
    → is_among (λ (t : RowTail). t.name) name placed.rows ≡ has_satellite name rows
come-already after rows history lines placed name same written = grind (arith, among-map)

-- a satellite that is added for the first time has no row yet
pub no-row : (after : Tail) (rows : List Row) (history : OpenHistory) (lines : List (List ℕ))
    (placed : PlacedRows) (name : List ℕ) (is_new : Bool)
    → placed ≡ history.satellites → is_new ≡ not (is_among (λ (t : RowTail). t.name) name placed.rows)
    → is_new ≡ true → AreRowsWritten after rows history lines → has_satellite name rows ≡ false
no-row after rows history lines placed name is_new same answer new written =
    sym (come-already after rows history lines placed name same written)
    ∙ not-true (is_among (λ (t : RowTail). t.name) name placed.rows) (sym answer ∙ new)

pub written-next : (after : Tail) (rows : List Row) (row : Row) (old new : OpenHistory) (placed come :
    PlacedRows)
    (place : ℕ) (satellite left : SatelliteTail) (lines more : List (List ℕ)) → placed ≡ old.satellites
    → AreRowsWritten after rows old lines → IsSoundRow row → has_satellite row.name rows ≡ false
    → HasCome row.name placed come → IsLastStored row.name place placed come satellite
    → IsLeftAt place come satellite left new.satellites → left ≡ satellite_after row.values row.flags
    satellite
    → more ≡ lines ++ line_after row.values row.flags satellite ∷ []
    → new.text ≡ old.text → new.clock ≡ old.clock → AreRowsWritten after (rows ++ row ∷ []) new more
written-next after rows row old new placed come place satellite left lines more same written sound fresh
    has last
    at left_is longer text clock =
    let awaited = λ (name : List ℕ) (absent : has_satellite name rows ≡ false).
    ap (λ (p : PlacedRows). row_tail_named name p.rest) same ∙ written.others name absent in
    let next = awaited-after (λ (r : Row). r.name) rows row after.rows placed come awaited has in
    let row_is = come-row placed.rest after.rows row (awaited row.name fresh) in
    let changed = last.left left _ at (ap (λ (s : SatelliteTail). s.room) left_is) in
    let rows_left = ap (λ (p : PlacedRows). p.rows) changed
    ∙ ap (λ (s : SatelliteTail). placed.rows ++ row_tail_of row.name s ∷ []) left_is
    ∙ ap (λ (r : RowTail). placed.rows ++ row_tail_after (Some r) row ∷ []) last.is in
    let more_is = longer ∙ ap (λ (r : RowTail). lines ++ row_line_after (Some r) row ∷ []) last.is in
    grind (
      arith,
      common_steps,
      next,
      row_is,
      changed,
      rows_left,
      more_is,
      All-push IsSoundRow rows row written.sound sound,
      apart-push,
    )
