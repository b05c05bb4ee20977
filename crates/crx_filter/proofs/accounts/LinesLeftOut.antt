-- The lines of a file that no warning drops make a file without faults.
use Rattle.crx_filter.proofs.Vocabulary
use Vocabulary.{ℕ, ◌≡◌, ◌+◌, ◌<◌, Bool, true, false, List, [], ◌∷◌, ◌++◌, map, length, refl, arith, sym, ap, ◌∙◌}
use Vocabulary.{common_steps, append_assoc, append-nil, length-append, drop-append_seam, None, ReadLine, Done}
use Vocabulary.{Epoch}
use Vocabulary.{FileUnit, Item, Accepted, Warned, as_read, lines_of, lines_text, Choices, rinex_place, whole_rinex}
use Vocabulary.{compacted, WholeReading, whole_reading, reading_from, ended_reading, by_bool, header_has_ended}
use Vocabulary.{records_left, AreInPlace, printed_items, whole_of, checked, nat_lt}
use Rattle.crx_filter.specs.meaning.UnitsAndText.{as_items}
use Rattle.crx_filter.proofs.reading.{Forward.rinex-forward, EndAtStops.closes-well}
use Rattle.crx_filter.proofs.reading.Resuming.{here-stays, from-here, from-wanted}
use Rattle.crx_filter.proofs.wayback.{UnitsReadAgain.{units_in, units-like, IsLike}, NormalForm.units-printed}
use Rattle.crx_filter.proofs.{wayback.WayBack.{IsSettled, whole-settled}, accounts.OwnedLines.file-told}
use Rattle.crx_filter.specs.meaning.Fate.{OwnInOrder, LeavesLinesOut}

is-some : (n : ℕ) → nat_lt 0 n ≡ true → 0 < n
is-some n h = grind (arith, common_steps, h)

-- the unit at a place is the same without the warnings before it
like-place : (items : List (Item Epoch)) (units : List (FileUnit Epoch)) (lines : List ReadLine)
    → IsLike items units → rinex_place (as_items units) lines ≡ rinex_place items lines
like-place items units lines k = by_bool (header_has_ended items)
    (λ on. by_bool (nat_lt 0 (records_left items))
    (λ some. rw (← k.header, ← k.left, on, some, ← k.counts (is-some (records_left items) some)) refl)
    (λ none. rw (← k.header, ← k.left, on, none, ← k.types) refl))
    (λ off. rw (← k.header, off, ← k.start) refl)

reads-on : (skip : Bool) (number : ℕ) (items : List (Item Epoch)) (lines kept rest : List ReadLine)
    → OwnInOrder rinex_place number items lines kept → AreInPlace items
    → reading_from rinex_place skip [] 1 (kept ++ rest)
    ≡ reading_from rinex_place skip (as_items (units_in items)) (1 + length kept) rest
reads-on skip number [] lines kept rest h p = rw h.1 refl
reads-on skip number (Accepted unit ∷ before) lines kept rest (front, own, others, is, left, mine, h) p =
    let units = as_items (units_in before) in
    let here : rinex_place units own ≡ Done unit (length own) =
    like-place before (units_in before) own (units-like before p.1) ∙ mine in
    let more = here-stays rinex_place rinex-forward units own rest unit (length own) here in
    let next = from-here rinex_place rinex-forward skip units (1 + length others) (own ++ rest) unit
    (length own) more in
    let count : 1 + length (others ++ own) ≡ (1 + length others) + length own =
    omega (arith, length-append others own) in
    rw (
      left,
      append_assoc others own rest,
      reads-on skip number before front others (own ++ rest) h p.1,
      next,
      drop-append_seam own rest,
      count,
    ) refl
reads-on skip number (Warned at ∷ before) lines kept rest (front, own, others, is, left, mine, h) p =
    rw (left, append-nil others) (reads-on skip number before front others rest h p.1)

all-read : (skip : Bool) (items : List (Item Epoch)) (lines kept : List ReadLine)
    → OwnInOrder rinex_place 1 items lines kept → IsSettled items
    → whole_reading rinex_place skip 1 kept ≡ record { items = as_items (units_in items); fault = None }
all-read skip items lines kept h s =
    let units = as_items (units_in items) in
    let like = units-like items s.in_place in
    let on = reads-on skip 1 items lines kept [] h s.in_place in
    let ends = from-wanted rinex_place rinex-forward skip units (1 + length kept) []
    (rinex-forward.wants units) in
    ap (ended_reading skip) (ap (reading_from rinex_place skip [] 1) (sym (append-nil kept)) ∙ on ∙ ends)
    ∙ rw (closes-well units (sym like.header ∙ s.header) (sym like.left ∙ s.none)) refl

pub leaves-out : (choices : Choices) (file : List ℕ) → LeavesLinesOut choices file (compacted file choices)
leaves-out choices file f =
    let lines = map as_read (lines_of file) in
    let items = WholeReading.items (whole_rinex choices.skip lines) in
    let (kept, own) = file-told choices.skip lines f in (
      kept,
      own,
      λ other same.
          let whole : whole_of other ≡ record { items = as_items (units_in items); fault = None } =
          ap (whole_reading rinex_place false 1) same
          ∙ all-read false items lines kept own (whole-settled choices.skip file f) in (
            none-found other (ap (λ (w : WholeReading Epoch). w.fault) whole),
            ap (λ (w : WholeReading Epoch). lines_text (printed_items w.items)) whole
                ∙ ap lines_text (units-printed items),
          ),
    )
  where
    none-found : (other : List ℕ) → (whole_of other).fault ≡ None → (checked other).fault ≡ None
    none-found other e = grind (arith, common_steps, e)
