-- Satellites that are added by the identifiers of an epoch text, each with its system's number of types.
use Rattle.crx_compact.proofs.Vocabulary.{rules, ap, ◌∙◌, ◌≡◌, ◌++◌, ◌∷◌, [], ℕ, List, Bool, true, false, not, map}
use Rattle.crx_compact.proofs.Vocabulary.{sym, subst, arith, map-append, columns, IsAllowedCount, is_among}
use Rattle.crx_compact.proofs.Vocabulary.{IsAwaitedSatellite, Satellite, PlacedRows, padded_among, RowTail}
use Rattle.crx_header.specs.meaning.Satellites.{is_identifier}
use Rattle.crx_header.proofs.OtherIdentifiers.{among-map}
use Rattle.crx_compact.proofs.placing.SteppedRows.{IsLastStored}
use Rattle.crx_compact.specs.{Placing.{HasCome, IsLeftAt, SatelliteTail, resized, row_tail_of}}
use Rattle.crx_compact.proofs.{RowsByHistory.{AreAwaited, awaited-after, come-padded}}

-- whether a satellite has a row, by the rows so far
pub among-rows : (before rows : List RowTail) (found : List Satellite) (name : List ℕ) (b : Bool)
    → rows ≡ map (padded_among before) found → b ≡ not (is_among (λ (t : RowTail). t.name) name rows)
    → is_among (λ (s : Satellite). s.name) name found ≡ not b
among-rows before rows found name b made answer = grind (arith, among-map)

-- facts after the next satellite was added, with its system's number of types
pub record HasNameCome (before : List RowTail) (found : List Satellite) (mid new : PlacedRows) : Type 0 where
  pub rows : new.rows ≡ map (padded_among before) found
  pub awaited : AreAwaited (λ (s : Satellite). s.name) found before new.rest

pub name-comes : (before : List RowTail) (found : List Satellite) (name : List ℕ) (count place : ℕ)
    (old mid new : PlacedRows) (satellite left : SatelliteTail)
    → old.rows ≡ map (padded_among before) found
    → AreAwaited (λ (s : Satellite). s.name) found before old.rest
    → is_among (λ (s : Satellite). s.name) name found ≡ false → HasCome name old mid
    → IsLastStored name place old mid satellite → IsLeftAt place mid satellite left new
    → left ≡ resized count satellite
    → HasNameCome before (found ++ record { name = name; count = count } ∷ []) mid new
name-comes before found name count place old mid new satellite left made awaited fresh has last at left_is =
    let own : Satellite = record { name = name; count = count } in
    let changed = last.left left new at (ap (λ (s : SatelliteTail). s.room) left_is) in
    record {
      rows = ap (λ (p : PlacedRows). p.rows) changed
          ∙ search (rules, ap (row_tail_of name) left_is, last.is, come-padded, map-append);
      awaited = subst (λ (p : PlacedRows). AreAwaited (λ (s : Satellite). s.name) (found ++ own ∷ [])
          before p.rest)
          (sym changed) (awaited-after (λ (s : Satellite). s.name) found own before old mid awaited has);
    }

-- an identifier of a system with types, as it is read from a text
pub awaited-one : (name text : List ℕ) (first count : ℕ) → name ≡ columns text first 3
    → is_identifier (columns name 1 3) ≡ true → IsAllowedCount count
    → IsAwaitedSatellite (record { name = name; count = count })
awaited-one name text first count is named allowed = grind arith
