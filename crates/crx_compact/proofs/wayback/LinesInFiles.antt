-- The compact lines of an epoch can be in a file, and none of them is too long.
use Rattle.crx_compact.proofs.Vocabulary.{◌≡◌, [], ◌∷◌, map, Row, ◌+◌, ◌-◌, ◌*◌, ◌^◌, ◌<◌, ◌≤◌, refl, ap}
use Rattle.crx_compact.proofs.Vocabulary.{AllByRecursion, satellite_line, list_all-from_at, SATELLITES_LIMIT, ℕ}
use Rattle.crx_compact.proofs.Vocabulary.{is_printable, begins_epoch, IsWholeEpoch, WRITTEN_ORDER, is_event_line}
use Rattle.crx_compact.proofs.Vocabulary.{compact_epoch, if◌then◌else◌, epoch_text, signed_decimal, each_place-all}
use Rattle.crx_compact.proofs.Vocabulary.{Bool, true, false, ◌||◌, List, arith, Code, Epoch, Count, ℤ, subst, drop}
use Rattle.crx_compact.proofs.Vocabulary.{list_all, without_end_blanks, at-without_end_blanks, is_event_flag}
use Rattle.crx_compact.proofs.Vocabulary.{code_text, Marked, cell_text, AreWhole, clock_arc, since_full, run_of}
use Rattle.crx_compact.proofs.Vocabulary.{epoch_line, newest_text, DIGITS_LIMIT, CLOCK_WIDTH, character_at}
use Rattle.crx_compact.proofs.Vocabulary.{length-each_place, OBSERVATION_WIDTH, indicators_before}
use Rattle.crx_compact.proofs.Vocabulary.{length, value_in, code_at, arc_of, codes_of, IsWithin, few_kept}
use Rattle.crx_compact.proofs.Vocabulary.{flat_map, common_steps, rules, length-append}
use Rattle.crx_compact.proofs.wayback.WritableEpochs.{IsTypedRow, typed-rows, text-begins}
use Rattle.crx_compact.proofs.{Lists.all-from, Vocabulary.◌&&◌}
use Rattle.crx_compact.proofs.wayback.Rows.{IsRowOf, run-rows}
use Rattle.crx_compact.proofs.Vocabulary.{has_no_epochs, LinesCanStand, TYPES_LIMIT, sym}
use Rattle.crx_compact.proofs.{arcs.Bounds.{IsNear, doubled, difference-within, ten-more}}
use Rattle.crx_compact.proofs.wayback.WritableEpochs.{length-text}
use Rattle.crx_compact.proofs.{wayback.Runs.{marked, begins_full, begins_later}}
use Rattle.crx_compact.proofs.Characters.{list_all-at}
use Rattle.crx_compact.proofs.wayback.Rows.{clocks-fit, near-all, stretch-within, values-fit}
use Rattle.crx_compact.proofs.anywriter.{Rows.CanFollow, Epochs.{printable, others-follow, no-event}}
use Rattle.crx_compact.proofs.anywriter.{OurWriter.{epoch_written, epoch-same}, OurReading.own-lines}
use Rattle.crx_compact.specs.Tails.{tail_or_nothing}
pub use Rattle.crx_compact.proofs.SoundTexts.{difference-length}
use Rattle.std.proofs.{lemmas.Fmt.length-decimal-le, Math.Nat.pow-le-pow_right}
use Rattle.std.proofs.lemmas.Fmt.{decimal_digit}

-- ---- numbers and coded values

signed-length : (k b : ℕ) (z : ℤ)
    → 0 < k → k ≤ DIGITS_LIMIT → b < 10 ^ k → IsNear b z → length (signed_decimal z) ≤ k + 1
signed-length k b x some few h near = grind (arith, common_steps, pow-le-pow_right, length-decimal-le)

-- the coded value of an arc whose values fit `j + 2` columns: a first value has two characters before it, and a difference one digit more
-- than a value
pub code-length : (j : ℕ) (xs : List ℤ)
    → 0 < j → j + 2 ≤ DIGITS_LIMIT → doubled WRITTEN_ORDER (10 ^ (j + 1)) < 10 ^ (j + 2)
    → AllByRecursion (IsWithin (j + 2)) xs → length (code_text (code_at WRITTEN_ORDER xs)) ≤ j + 3
code-length j [] some few h all = omega arith
code-length j (x ∷ []) some few h all =
    grind (arith, common_steps, ten-more, length-decimal-le, decimal_digit)
code-length j (x ∷ y ∷ ys) some few h all =
    let b = 10 ^ (j + 1) in
    let same : j + 2 - 1 ≡ j + 1 = omega arith in
    let P : ℕ → Type 0 = λ m. AllByRecursion (IsNear (10 ^ m)) (x ∷ y ∷ ys) in
    let near = difference-within b x (y ∷ ys) (subst P same (near-all (j + 2) (x ∷ y ∷ ys) all)) in
    omega (arith, signed-length (j + 2) (doubled WRITTEN_ORDER b) _ (omega arith) few h near)

-- ---- texts

pub cells-length : (n : ℕ) (codes : List Code) → AllByRecursion (λ (c : Code). length (code_text c) ≤ n) codes
    → length (flat_map cell_text codes) ≤ (n + 1) * length codes
cells-length n [] h = omega arith
cells-length n (c ∷ cs) h = grind (arith, length-append, cells-length n cs h.1)

-- ---- counts of satellites

pub few-satellites : (types : List Count) (e : Epoch) → IsWholeEpoch types e
    → length e.rows ≤ SATELLITES_LIMIT
few-satellites types e h = grind arith

pub text-short : (types : List Count) (e : Epoch)
    → IsWholeEpoch types e → length (epoch_text e) ≤ 41 + 3 * SATELLITES_LIMIT
text-short types e h = grind (arith, length-text types e h, few-satellites types e h)

-- ---- lines

-- the most bytes of a written line: TYPES_LIMIT coded values of 15 characters, each with a blank and two indicators
abbrev most : ℕ
most = 18 * TYPES_LIMIT

row-short : (types : List Count) (name : List ℕ) (run : List Row) (r : Row)
    → AllByRecursion (IsRowOf types name) run → IsTypedRow types r → length (satellite_line run r) ≤ most
row-short types name run r h k =
    let codes = codes_of (length r.values) run in
    let each = each_place-all (λ (c : Code). length (code_text c) ≤ 15) (length r.values) (λ j. code_at
    WRITTEN_ORDER (arc_of j run)) (λ j. code-length 12 (arc_of j run) (omega arith) (omega arith) (omega
    arith) (stretch-within OBSERVATION_WIDTH (map (value_in j) run) (values-fit types name j run h))) in
    let count = length-each_place (length r.values) (λ j. code_at WRITTEN_ORDER (arc_of j run)) in
    let cells = cells-length 15 codes each in
    let tail = difference-length (2 * TYPES_LIMIT) (indicators_before run) r.flags
    (grind arith) (omega (arith, k.0.paired, k.0.counted.1)) in
    grind (arith, common_steps, length-append, flat_map, cell_text, few_kept)

rows-short : (types : List Count) (ms : List Marked) → AreWhole types (since_full ms) → (rows : List Row)
    → AllByRecursion (IsTypedRow types) rows → AllByRecursion (λ (line : List ℕ). length line ≤ most)
    (map (λ (r : Row). satellite_line (run_of r.name ms) r) rows)
rows-short types ms h [] k = tt
rows-short types ms h (r ∷ rs) k =
    (row-short types r.name _ r (run-rows types r.name _ h) k.0, rows-short types ms h rs k.1)

old-short : (types : List Count) (full : Bool) (e : Epoch) (older : List Marked) → AreWhole types (since_full
    (marked full e ∷ older)) → length (if full then [] else newest_text older) ≤ 41 + 3 * SATELLITES_LIMIT
old-short types false e (m ∷ older) h = text-short types m.epoch h.1.0
old-short types full e older h = omega arith

-- none of the compact lines of an epoch is too long
pub lines-short : (types : List Count) (full : Bool) (e : Epoch) (older : List Marked)
    → AreWhole types (since_full (marked full e ∷ older)) → AllByRecursion
    (λ (line : List ℕ). length line ≤ 18 * TYPES_LIMIT) (compact_epoch (marked full e ∷ older))
lines-short types full e older h =
    let ms = marked full e ∷ older in
    let old = old-short types full e older h in
    let line = difference-length _ _ (epoch_text e) old (text-short types e h.0) in
    let fits = stretch-within CLOCK_WIDTH (map (λ (e : Epoch). e.clock) (since_full ms))
    (clocks-fit types (since_full ms) h) in
    let clock = code-length 13 (clock_arc ms) (omega arith) (omega arith) (omega arith) fits in
    let rows = rows-short types ms h e.rows (typed-rows types e h.0) in
    (omega arith, (omega arith, rows))

-- ---- characters

pub trimmed-printable : (text : List ℕ)
    → list_all is_printable text ≡ true → list_all is_printable (without_end_blanks text) ≡ true
trimmed-printable text h = grind (arith, list_all-from_at, at-without_end_blanks, list_all-at)

-- ---- the epoch line

line-begins_epoch : (types : List Count) (full : Bool) (e : Epoch) (older : List Marked)
    → AreWhole types (since_full (marked full e ∷ older))
    → begins_epoch (epoch_line (marked full e) older) ≡ (full || has_no_epochs older)
line-begins_epoch types false e (m ∷ older) h = search (rules, begins_later, text-begins)
line-begins_epoch types full e older h = begins_full (epoch_text e) (text-begins types e h.0)

-- ---- all lines

pub lines-stand : (types : List Count) (full : Bool) (e : Epoch) (older : List Marked)
    → AreWhole types (since_full (marked full e ∷ older)) → LinesCanStand (marked full e) older
lines-stand types full e older h =
    let own = own-lines types full e older (tail_or_nothing older) h (λ later. refl) in
    let lines = own.lines in
    let rest = drop 1 (compact_epoch (marked full e ∷ older)) in
    let now = epoch_written (marked full e) older in
    let whole = subst (IsWholeEpoch types) (sym (epoch-same types full e older h.0)) h.0 in
    let others = others-follow types lines.0 now _ _ _ whole lines.2 in
    record {
      printable = (
        printable types lines.0 now _ _ _ whole lines.2,
        all-from {P = CanFollow} (λ (l : List ℕ). list_all is_printable l ≡ true) (λ l k. k.0) rest others,
      );
      no_event = (
        no-event types lines.0 now _ _ _ whole lines.2 own.before lines.1,
        all-from {P = CanFollow} (λ (l : List ℕ). is_event_line l ≡ false)
            (λ l k. ap (λ b. b && is_event_flag (character_at l 32)) k.1) rest others,
      );
      first = line-begins_epoch types full e older h;
      others = all-from {P = CanFollow} (λ (l : List ℕ). begins_epoch l ≡ false) (λ l k. k.1) rest others;
    }
