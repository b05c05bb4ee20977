-- A satellite that is added is put after those with a row.
use Rattle.crx_compact.proofs.placing.EntryChanges.{set-there}
use Rattle.indexmap.proofs.IndexTableLemmas.Indexes.{swap_self}
use Rattle.std.proofs.{Common.{◌≤◌, inl, inr, slice_get, Some, subst}, lemmas.Bool.cases_eq}
use Rattle.std.proofs.Common.{◌≡◌, ℕ, ◌<◌, List, length, take, set, sym, swap}
use Rattle.std.proofs.{Common.{arith, length-set}, lemmas.List.{drop-set-lt, take-set-le, take_more_set}}
use Rattle.std.proofs.{Math.Seq.take-set-lt, lemmas.Grind.common_steps}
use Rattle.std.specs.{Str.bytes_eq, List.IsDistinct, Map.keys_of}
use Rattle.crx_compact.specs.Entries.{Entry, IsPutNext, key_of}
use Rattle.crx_compact.proofs.placing.Ranges.{rest-brought, rest-next, swap-is}
use Rattle.crx_compact.proofs.{OneByOne.taken_more, RowByRow.{IsThere, is-there}}

-- if it is at that place already
pub put-same : (placed : ℕ) (es : List Entry) → IsPutNext placed placed es es
put-same placed es = grind (arith, common_steps, taken_more, key_of, rest-next)

-- if it is exchanged with the first one without a row
pub put-exchanged : (placed found : ℕ) (old : List Entry) → placed ≤ found → found < length old
    → IsDistinct bytes_eq (keys_of old) → IsPutNext placed found old (swap old found placed)
put-exchanged placed found old order is apart =
    elim (cases_eq placed found) [
      | inl e ↦
          rw (← e) (subst (IsPutNext placed placed old) (sym (swap_self old placed)) (put-same placed old))
      | inr differs ↦
          let first = is-there old placed (omega (arith, order, is)) in
          let moved = λ (entry : Entry) (there : slice_get old found ≡ Some entry).
          swap-is old found placed entry first.item there first.there in
          record {
            come = λ entry there. grind (arith, common_steps, moved entry there, take_more_set, take-set-le);
            others = λ live entry other near there apart_from.
                let rest = rest-brought placed live found old first.item entry other
                (omega (arith, order, differs)) near first.there there apart apart_from in
                grind (arith, common_steps, moved entry there, take-set-lt, drop-set-lt, rest);
          }
    ]

-- a satellite that isn't in use is put first after those that are
module _ (live place : ℕ) (old : List Entry) (blank : Entry) (behind : live ≤ place)
    (within : place < length old)
  where
    counted : length (set old place blank) ≡ length old
    counted = length-set old place blank

    first : IsThere (set old place blank) live
    first = is-there (set old place blank) live (omega (arith, behind, within, counted))

    revived : swap (set old place blank) place live
        ≡ set (set (set old place blank) place first.item) live blank
    revived = swap-is (set old place blank) place live blank first.item
        (set-there old place blank within) first.there

    pub revived-there : slice_get (swap (set old place blank) place live) live ≡ Some blank
    revived-there = grind (arith, revived, set-there, length-set)

    pub revived-front : take live (swap (set old place blank) place live) ≡ take live old
    revived-front = grind (arith, common_steps, revived, take-set-le)
