-- The lines that are read as an epoch are lines that some writer may write for it.
use Rattle.crx_compact.proofs.Vocabulary.{◌≡◌, refl, ℕ, zero, suc, List, [], ◌∷◌, ◌++◌, Bool, true, false, Option}
use Rattle.crx_compact.proofs.Vocabulary.{Some, None, map, length, arith, ap, sym, ◌∙◌, ◌*◌, ◌+◌, ◌≤◌}
use Rattle.crx_compact.proofs.Vocabulary.{AllByRecursion, option_map, flat_map, if◌then◌else◌}
use Rattle.crx_compact.proofs.Vocabulary.{length-append, same_Some, each_place, named}
use Rattle.crx_compact.proofs.Vocabulary.{Done, rules, by_position}
use Rattle.crx_compact.proofs.Vocabulary.{Count, Row, ReadRow, Satellite, IsWholeEpoch, types_of_satellite}
use Rattle.crx_compact.proofs.Vocabulary.{past_of_tail, tail_for_line, tail_left, begins_epoch, epoch_text}
use Rattle.crx_compact.proofs.Vocabulary.{columns, at-append, at-append_past, at-drop, without_end_blanks, patched}
use Rattle.crx_compact.proofs.Vocabulary.{CLOCK_WIDTH, length-columns}
use Rattle.crx_compact.proofs.PlaceByPlace.{at-take, at-padded}
use Rattle.crx_compact.proofs.Vocabulary.{each_place-same, character_of}
use Rattle.crx_compact.proofs.{SoundTexts.{patched-trimmed, trimmed-again}, EpochLines.{names_of}}
use Rattle.crx_compact.proofs.soundness.Soundness.{Paired, RowFacts, facts-against}
use Rattle.crx_compact.proofs.reading.RawTailing.{place-by_tail}
use Rattle.std.proofs.lemmas.List.Folds.{flat_map-map}
use Rattle.crx_compact.proofs.Lists.{all-from}
use Rattle.crx_compact.proofs.wayback.{WritableEpochs.{IsTypedRow, typed-rows}, Rows.found-row, Runs.named-made}
use Rattle.crx_compact.specs.meaning.AnyWriter.{WrittenRow, WrittenEpoch, row_now, epoch_now}
use Rattle.crx_compact.specs.meaning.AnyWriter.{goes_on_from, nothing_written, flags_in, AreRowLines}
use Rattle.crx_compact.specs.AnyWriter.{epoch_left}
use Rattle.crx_compact.proofs.{EpochTexts.blank-after, Vocabulary.{columns-are, unwrap_or, Tail, Past}}
use Rattle.crx_compact.specs.AnyWriter.{row_before}
use Rattle.crx_compact.specs.AnyWriter.{ReadsSomebodysEpoch}
use Rattle.crx_compact.proofs.anywriter.{OnlyRows.{row-back, arc-back, columns-all}}
use Rattle.std.proofs.lemmas.Grind.{common_steps}

-- ---- the satellites' lines

abbrev IsFew : WrittenEpoch → Satellite → Type 0
IsFew base s = length (flags_in (row_before base s)) ≤ 2 * s.count

record RowsBack (base : WrittenEpoch) (satellites : List Satellite) (lines : List (List ℕ))
    (reads : List ReadRow)
    : Type 0 where
  rows : List WrittenRow
  shown : map row_now rows ≡ map (λ (r : ReadRow). r.row) reads
  names : map (λ (r : WrittenRow). r.name) rows ≡ names_of satellites
  written : AreRowLines base rows lines

pub done-things : {X : Type 0} (x y : X) (m n : ℕ) → Done x m ≡ Done y n → x ≡ y
done-things x y m n e = cc e

rows-back : (base : WrittenEpoch) (satellites : List Satellite) (lines : List (List ℕ)) (reads : List ReadRow)
    → AllByRecursion (IsFew base) satellites → Paired (RowFacts (past_of_tail (epoch_left base))) satellites
    lines reads
    → RowsBack base satellites lines reads
rows-back base [] [] [] few h = record { rows = []; shown = refl; names = refl; written = tt }
rows-back base (s ∷ ss) (l ∷ ls) (r ∷ rs) few h =
    let row = row-back base s l r few.0 h.0 in
    let others = rows-back base ss ls rs few.1 h.1 in
    record {
      rows = row.now ∷ others.rows;
      shown = cc (row.row, others.shown);
      names = cc (row.name, others.names);
      written = grind (arith, named);
    }
rows-back base satellites lines reads few h = absurd h

-- ---- few indicators before

few-here : (types : List Count) (rows : List WrittenRow) (s : Satellite) (found : Option WrittenRow)
    → AllByRecursion (IsTypedRow types) (map row_now rows)
    → named (λ (q : WrittenRow). q.name) s.name rows ≡ found
    → types_of_satellite types s.name ≡ Some s.count → length (flags_in found) ≤ 2 * s.count
few-here types rows s None h e k = omega arith
few-here types rows s (Some r) h e k =
    let there = named-made (λ (q : WrittenRow). q.name) (λ (q : Row). q.name) (λ n q. row_now q) (λ n q. refl)
    s.name rows in
    let typed = found-row types s.name (map row_now rows) h (row_now r) (cc e) in
    grind (arith, typed.is_row)

-- ---- the text

abbrev joined : List (List ℕ) → List ℕ
joined names = flat_map (λ (n : List ℕ). n) names

columns-append : (text : List ℕ) (k m n : ℕ)
    → columns text (k + 1) m ++ columns text (k + m + 1) n ≡ columns text (k + 1) (m + n)
columns-append text k m n = sym (columns-are text (k + 1) (m + n) _
    (grind (arith, length-append, length-columns)) (λ p less.
    grind (arith, common_steps, at-take, at-padded, at-drop, at-append, length-columns, at-append_past)))

names-joined : (text : List ℕ) (k count : ℕ)
    → joined (each_place count (λ i. columns text (k + 1 + 3 * i) 3)) ≡ columns text (k + 1) (3 * count)
names-joined text k zero = refl
names-joined text k (suc count) =
    grind (arith, each_place-same, names-joined text (k + 3) count, columns-append text k 3 (3 * count))

-- ---- the epoch

-- the epoch that an epoch line refers to; the empty one if there is none
abbrev base_for : Option WrittenEpoch → List ℕ → WrittenEpoch
base_for before line = unwrap_or (goes_on_from before line) nothing_written

given-base : (before : Option WrittenEpoch) (tail : Option Tail) (line : List ℕ) (past : Past)
    → tail ≡ option_map epoch_left before → option_map past_of_tail (tail_for_line tail line) ≡ Some past
    → (past ≡ past_of_tail (epoch_left (base_for before line)))
    × (goes_on_from before line ≡ Some (base_for before line))
given-base before tail line past left e = grind (arith)

base-typed : (types : List Count) (before : Option WrittenEpoch) (full : Bool) (base : WrittenEpoch)
    → ((b : WrittenEpoch) → before ≡ Some b → IsWholeEpoch types (epoch_now b))
    → (if full then Some nothing_written else before) ≡ Some base
    → AllByRecursion (IsTypedRow types) (map row_now base.rows)
base-typed types before true base whole found = rw (← same_Some nothing_written base found) tt
base-typed types before false base whole found = typed-rows types (epoch_now base) (whole base found)

pub only-epoch : ReadsSomebodysEpoch
only-epoch types before raws lines read count left whole e =
    let tail = tail_left raws in
    let h = facts-against types (λ line. option_map past_of_tail (tail_for_line tail line))
    (λ line. past_of_tail (epoch_left (base_for before line))) lines read count
    (λ line past g. (given-base before tail line past left g).0) (sym (place-by_tail types raws lines) ∙ e) in
    let base = base_for before h.line in
    let found = (given-base before tail h.line (past_of_tail (epoch_left base)) left h.given_is).1 in
    let few = all-from (IsFew base) (λ s k. few-here types base.rows s (row_before base s)
    (base-typed types before (begins_epoch h.line) base whole found) refl k) h.satellites
    h.line_ok.named.known in
    let rows = rows-back base h.satellites h.own h.rows few h.rows_ok in
    let arc = arc-back CLOCK_WIDTH base.clock h.clock.code h.clock.value h.clock_ok.meant in
    let text = patched (without_end_blanks (epoch_text (epoch_now base))) h.line in
    let n = h.line_ok.count in
    let names : columns text 42 (3 * n) ≡ flat_map (λ (r : Row). r.name) (map row_now rows.rows) =
    grind (arith, flat_map-map, names-joined text 41 n, h.line_ok.named.same, rows.names) in
    record {
      now = record { head = columns text 1 41; clock = arc.now; rows = rows.rows };
      epoch = search rules;
      own = h.line ∷ h.clock_line ∷ h.own;
      cut = h.cut;
      written = (
        base,
        found,
        record {
          marked = sym (patched-trimmed (epoch_text (epoch_now base)) h.line)
              ∙ sym (trimmed-again
              (by_position character_of (without_end_blanks (epoch_text (epoch_now base))) h.line))
              ∙ sym (columns-all (41 + 3 * n) text (blank-after (41 + 3 * n) text h.line_ok.ended))
              ∙ ap without_end_blanks
              (sym (columns-append text 0 41 (3 * n)) ∙ ap (λ t. columns text 1 41 ++ t) names);
          spelled = h.clock_ok.coded ∙ ap {B = Option _} Some (sym arc.coded);
          follows = arc.follows;
          satellites = rows.written;
        },
      );
    }
