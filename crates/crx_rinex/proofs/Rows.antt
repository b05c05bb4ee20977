-- Rows of different satellites, one after another.
use Rattle.std.proofs.Common.{◌≡◌, ℕ, ◌≤◌, Bool, false, List, [], ◌∷◌, ◌++◌, length, map, ◌||◌, refl}
use Rattle.std.proofs.Common.{ap, ◌∙◌, arith, Option, None, unwrap_or, cond, leb}
use Rattle.std.proofs.lemmas.{Bool.{cases_Bool, leb-true, eqb-false}, Grind.common_steps, List.length_push}
use Rattle.std.proofs.lemmas.{List.{Elements.All-push}, Slice.Eq.bytes_eq-Decides}
use Rattle.std.specs.{List.list_any, Option.option_and_then, Str.bytes_eq}
use Rattle.crx_base.specs.declared.limits.TheConstants.{SATELLITES_LIMIT}
use Rattle.crx_header.proofs.OtherIdentifiers.{apart-push, other_way}
use Rattle.crx_header.specs.meaning.EpochColumns.{satellites_of, count_within_limit}
use Rattle.crx_rinex.specs.Epochs.{with_row, is_full_epoch, AreEpochParts}
use Rattle.crx_rinex.specs.meaning.{EpochLines.ObservationHead, Epochs.{has_satellite, IsSoundEpoch}}
use Rattle.crx_rinex.specs.meaning.{Observations.{Row, Epoch}, SatelliteLines.IsSoundRow}

-- an epoch that isn't full stays sound with a new satellite's row
pub sound-with_row : (epoch : Epoch) (row : Row) → IsSoundEpoch epoch → IsSoundRow row
    → is_full_epoch epoch ≡ false → has_satellite row.name epoch.rows ≡ false
    → IsSoundEpoch (with_row epoch row)
sound-with_row epoch row h sound room new =
    let full : length epoch.rows ≡ satellites_of epoch.head
    → ⊥ = eqb-false (length epoch.rows) (satellites_of epoch.head) room in
    let fits = h.within in
    record {
      head_sound = h.head_sound;
      rows_sound = All-push IsSoundRow epoch.rows row h.rows_sound sound;
      apart = apart-push (λ (r : Row). r.name) epoch.rows row h.apart new;
      within = omega (arith, length_push epoch.rows row);
    }

few : (b : Bool) (o : Option ℕ)
    → unwrap_or (cond b (option_and_then count_within_limit o) None) 0 ≤ SATELLITES_LIMIT
few = grind (arith, common_steps, cases_Bool, leb, leb-true)

-- columns announce no more satellites than the limit
pub satellites_few : (head : List ℕ) → satellites_of head ≤ SATELLITES_LIMIT
satellites_few head = grind (arith, common_steps, few)

-- the parts of an epoch that isn't full with one more row, of a new satellite, and its identifier
pub parts-more : (head : ObservationHead) (names : List (List ℕ)) (rows : List Row) (row : Row)
    → AreEpochParts head names rows
    → is_full_epoch (record { head = head.head; clock = head.clock; rows = rows }) ≡ false
    → IsSoundRow row → has_satellite row.name rows ≡ false
    → AreEpochParts head (names ++ row.name ∷ []) (rows ++ row ∷ [])
parts-more head names rows row parts unfilled sound new =
    grind (
      arith,
      common_steps,
      sound-with_row (record { head = head.head; clock = head.clock; rows = rows })
          row parts.0 sound unfilled new,
    )

same-both_ways : (xs ys : List ℕ) → bytes_eq xs ys ≡ bytes_eq ys xs
same-both_ways xs ys = grind (arith, common_steps, cases_Bool, bytes_eq, bytes_eq-Decides, other_way)

-- whether a satellite is among the rows, by their identifiers
pub among-names : (names : List (List ℕ)) (rows : List Row) (name : List ℕ)
    → names ≡ map (λ (row : Row). row.name) rows → list_any (bytes_eq name) names ≡ has_satellite name rows
among-names names rows name is =
    ap (list_any (bytes_eq name)) is ∙ by-row rows
  where
    by-row : (rows : List Row)
        → list_any (bytes_eq name) (map (λ (row : Row). row.name) rows) ≡ has_satellite name rows
    by-row [] = refl
    by-row (r ∷ rs) = rw (same-both_ways name r.name) (ap (λ b. bytes_eq r.name name || b) (by-row rs))
