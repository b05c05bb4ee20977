-- The output of an expansion is bounded by the lines that it has read: each has a weight, and no unit's text is longer
-- than its lines weigh.
use Rattle.std.proofs.lemmas.Grind.{common_steps}
use Rattle.crx_filter.proofs.Vocabulary.{ℕ, zero, suc, ◌≡◌, ◌+◌, ◌-◌, ◌*◌, ◌<◌, ◌≤◌, Bool, List, [], ◌∷◌, ◌++◌}
use Rattle.crx_filter.proofs.Vocabulary.{map, length, drop, refl, ap, sym, ◌∙◌, subst, arith, length-append, ⊤}
use Rattle.crx_filter.proofs.Vocabulary.{◌==◌, AllByRecursion, length-map, flat_map-append, Piece, pieces_of}
use Rattle.crx_filter.proofs.Vocabulary.{onto_first, without_return, line_of, lines_of, lines_text}
use Rattle.crx_filter.proofs.Vocabulary.{ReadLine, Content, Overlong, as_read, IsDecidedAfter, Remains}
use Rattle.crx_filter.proofs.Vocabulary.{IsWholeEpoch, Place, Done, Fails, NeedsMore, printed_epoch, printed_row}
use Rattle.crx_filter.proofs.Vocabulary.{FileUnit, HeaderLine, EventLine, EventRecord, Observation, IsGood, Count}
use Rattle.crx_filter.proofs.Vocabulary.{ReadEpoch, epoch_at, RawEpoch, Choices, Item, Accepted, types_in_force}
use Rattle.crx_filter.proofs.Vocabulary.{Reading, WholeReading, reading_from, raws_kept, compact_place}
use Rattle.crx_filter.proofs.Vocabulary.{first_lines, expanded_unit, whole_compact, expanded, expanded_lines}
use Rattle.crx_filter.proofs.Vocabulary.{ItemsAreRead}
use Rattle.crx_compact.proofs.soundness.Soundness.{epoch-facts}
use Rattle.crx_compact.specs.meaning.CompactPlaces.{ReadRow}
use Rattle.crx_filter.proofs.CasesOfTests.{by_bool}
use Rattle.crx_filter.proofs.reading.CompactPrefixes.{whole-at}
use Rattle.crx_filter.proofs.reading.ForwardCompact.{compact-forward, steady-first_lines, compact_beginning}
use Rattle.crx_filter.proofs.reading.StepInvariants.{within-kept}
use Rattle.crx_filter.proofs.reading.Resuming.{here-within}
use Rattle.crx_filter.proofs.reading.UnitsAtLines.{of-unit, of-compact}
use Rattle.crx_filter.proofs.reading.AcceptedUnits.{allowed}
use Rattle.crx_filter.proofs.wayback.ExpandedWhole.{AreGoodEpochs, epochs-good}
use Rattle.crx_laws.specs.Bounds.{AreReadyToHandOut}
use Rattle.crx_laws.specs.Sizes.{most_for_a_byte, IsWithinSize}
use Rattle.crx_laws.proofs.ExpandedReadyToHandOut.{epoch-ready_to_hand_out}
use Rattle.crx_laws.proofs.blockwise.LinesAfterText.{ended-lines}

-- ---- weights of lines, and sizes of texts

abbrev cost : ReadLine → ℕ
cost (Content line) = most_for_a_byte * (length line + 1)
cost Overlong = most_for_a_byte

abbrev weight : List ReadLine → ℕ
weight [] = 0
weight (line ∷ lines) = cost line + weight lines

abbrev size : List (List ℕ) → ℕ
size lines = length (lines_text lines)

size-append : (one two : List (List ℕ)) → size (one ++ two) ≡ size one + size two
size-append one two = ap length (flat_map-append (λ (line : List ℕ). line ++ 10 ∷ []) one two)
    ∙ length-append (lines_text one) (lines_text two)

size-more : (line : List ℕ) (lines : List (List ℕ)) → size (line ∷ lines) ≡ length line + 1 + size lines
size-more line lines = length-append (line ++ 10 ∷ []) (lines_text lines)
    ∙ ap (λ n. n + size lines) (length-append line (10 ∷ []))

cost-some : (line : ReadLine) → most_for_a_byte ≤ cost line
cost-some (Content line) = omega arith
cost-some Overlong = omega arith

drop-lighter : (n : ℕ) (lines : List ReadLine) → weight (drop n lines) ≤ weight lines
drop-lighter zero lines = omega arith
drop-lighter (suc n) [] = omega arith
drop-lighter (suc n) (line ∷ lines) = let rest = drop-lighter n lines in omega (arith, rest)

drop-weight : (n : ℕ) (lines : List ReadLine) → n ≤ length lines
    → most_for_a_byte * n + weight (drop n lines) ≤ weight lines
drop-weight zero lines h = omega arith
drop-weight (suc n) [] h = absurd (omega (arith, h))
drop-weight (suc n) (line ∷ lines) h =
    let rest = drop-weight n lines (omega (arith, h)) in
    let one = cost-some line in
    omega (arith, rest, one)

-- ---- a unit is no longer than its lines weigh

abbrev Weighs : List ReadLine → List Count → Place (FileUnit ReadEpoch) → Type 0
Weighs lines types (Done (HeaderLine line) count) =
    size (line ∷ []) + weight (drop count lines) ≤ weight lines
Weighs lines types (Done (EventLine line) count) = size (line ∷ []) + weight (drop count lines) ≤ weight lines
Weighs lines types (Done (EventRecord line) count) =
    size (line ∷ []) + weight (drop count lines) ≤ weight lines
Weighs lines types (Done (Observation read) count) = IsWholeEpoch types read.epoch
    → count ≤ length lines → size (printed_epoch read.epoch) + weight (drop count lines) ≤ weight lines
Weighs lines types p = ⊤

copied-weight : (line : List ℕ) (rest : List ReadLine)
    → size (line ∷ []) + weight (drop 1 (Content line ∷ rest)) ≤ weight (Content line ∷ rest)
copied-weight line rest = let one = size-more line [] in omega (arith, one)

line-weighs : (lines : List ReadLine) (line : List ℕ) (rest : List ReadLine)
    → lines ≡ Content line ∷ rest → size (line ∷ []) + weight (drop 1 lines) ≤ weight lines
line-weighs lines line rest e = grind (arith, common_steps, weight, copied-weight)

-- the lines of an epoch
short-size : (lines : List (List ℕ))
    → AllByRecursion (λ (line : List ℕ). length line + 1 ≤ most_for_a_byte) lines
    → size lines ≤ most_for_a_byte * length lines
short-size [] h = omega arith
short-size (line ∷ lines) h =
    let one = size-more line lines in
    let rest = short-size lines h.1 in
    let first = h.0 in
    omega (arith, one, rest, first)

all-shorter : (lines : List (List ℕ))
    → AllByRecursion (λ (line : List ℕ). length line ≤ most_for_a_byte - 1) lines
    → AllByRecursion (λ (line : List ℕ). length line + 1 ≤ most_for_a_byte) lines
all-shorter [] h = tt
all-shorter (line ∷ lines) h = let first = h.0 in (omega (arith, first), all-shorter lines h.1)

epoch-weight : (types : List Count) (older : List RawEpoch) (lines : List ReadLine) (read : ReadEpoch)
    (count : ℕ)
    → epoch_at types older lines ≡ Done read count → IsWholeEpoch types read.epoch → count ≤ length lines
    → size (printed_epoch read.epoch) + weight (drop count lines) ≤ weight lines
epoch-weight types older lines read count e whole within =
    let facts = epoch-facts types older lines read count e in
    let rows : length read.epoch.rows ≡ length facts.rows =
    sym (ap (λ (r : ReadEpoch). length r.epoch.rows) facts.is_read)
    ∙ length-map facts.rows (λ (r : ReadRow). r.row) in
    let printed : length (map printed_row read.epoch.rows) ≡ length read.epoch.rows =
    length-map read.epoch.rows printed_row in
    let ready : AreReadyToHandOut (most_for_a_byte - 1) (printed_epoch read.epoch) =
    epoch-ready_to_hand_out types read.epoch whole in
    let short = short-size (printed_epoch read.epoch) (all-shorter (printed_epoch read.epoch) ready.short) in
    let left = drop-weight count lines within in
    let counted = facts.counted in
    omega (arith, rows, printed, short, left, counted)

unit-weighs : (items : List (Item ReadEpoch)) (lines : List ReadLine)
    → Weighs lines (types_in_force items) (compact_place items lines)
unit-weighs items lines =
    let types : List Count = types_in_force items in
    let P : Place (FileUnit ReadEpoch) → Type 0 = Weighs lines types in
    of-unit P tt (λ offset fault. tt) compact_beginning items lines
    (λ line rest is open_header good. line-weighs lines line rest is)
    (λ line rest is ended some good. line-weighs lines line rest is)
    (λ ended none. of-compact P tt (λ offset fault. tt) types (raws_kept items) lines
    (λ line rest is event counted. line-weighs lines line rest is)
    (λ read count e. epoch-weight types (raws_kept items) lines read count e))

written-weighs : (items : List (Item ReadEpoch)) (lines : List ReadLine) (unit : FileUnit ReadEpoch)
    (count : ℕ) → compact_place items lines ≡ Done unit count → AreGoodEpochs (Accepted unit ∷ items)
    → size (expanded_unit items unit) + weight (drop count lines) ≤ weight lines
written-weighs items lines unit count e good =
    by_unit unit good (subst (Weighs lines (types_in_force items)) e (unit-weighs items lines))
    (here-within compact_place compact-forward items lines unit count e).1
  where
    by_unit : (unit : FileUnit ReadEpoch) → AreGoodEpochs (Accepted unit ∷ items)
        → Weighs lines (types_in_force items) (Done unit count) → count ≤ length lines
        → size (expanded_unit items unit) + weight (drop count lines) ≤ weight lines
    by_unit (HeaderLine line) good h within = h
    by_unit (EventLine line) good h within = h
    by_unit (EventRecord line) good h within = h
    by_unit (Observation read) good h within = h (IsGood.whole good.0) within

-- ---- a whole reading

-- the text written so far and the lines that remain weigh no more than all lines
abbrev Fits : ℕ → List (Item ReadEpoch) → List ReadLine → Type 0
Fits all items lines = ItemsAreRead compact_place items × (size (expanded_lines items) + weight lines ≤ all)

reading-fits : (skip : Bool) (number : ℕ) (lines : List ReadLine)
    → size (expanded_lines (reading_from compact_place skip [] number lines).items) ≤ weight lines
reading-fits skip number lines =
    let kept = within-kept compact_place skip (Fits (weight lines))
    (record {
      here = λ items ls unit count e h.
          let read : ItemsAreRead compact_place (Accepted unit ∷ items) = ((ls, count, e), h.0) in
          let some = written-weighs items ls unit count e (epochs-good (Accepted unit ∷ items) read) in
          let more = size-append (expanded_lines items) (expanded_unit items unit) in
          let before = h.1 in
          (read, omega (arith, some, more, before));
      passed = λ items ls at n on h.
          let less = drop-lighter n ls in
          let before = h.1 in
          ((allowed skip items at.fault on, h.0), omega (arith, less, before));
    }) (length lines + 1) [] number lines (tt, omega arith) in
    let all = kept.1.1 in
    omega (arith, all)

-- ---- the lines of a text weigh no more than its bytes

abbrev piece_weight : List Piece → ℕ
piece_weight [] = 0
piece_weight (p ∷ ps) = most_for_a_byte * (length p.bytes + 1) + piece_weight ps

return-shorter : (bytes : List ℕ) → length (without_return bytes) ≤ length bytes
return-shorter [] = omega arith
return-shorter (b ∷ []) = by_bool (b == 13) (λ on. rw on (omega arith)) (λ off. rw off (omega arith))
return-shorter (b ∷ c ∷ bs) = let rest = return-shorter (c ∷ bs) in omega (arith, rest)

line-lighter : (p : Piece) → cost (as_read (line_of p)) ≤ most_for_a_byte * (length p.bytes + 1)
line-lighter p = grind (arith, common_steps, return-shorter)

pieces-lighter : (ps : List Piece) → weight (map as_read (map line_of ps)) ≤ piece_weight ps
pieces-lighter [] = omega arith
pieces-lighter (p ∷ ps) =
    let one = line-lighter p in
    let rest = pieces-lighter ps in
    omega (arith, one, rest)

onto-weight : (b : ℕ) (ps : List Piece) (n : ℕ) → piece_weight ps ≤ most_for_a_byte * (n + 1)
    → piece_weight (onto_first b ps) ≤ most_for_a_byte * (n + 2)
onto-weight b [] n h = omega arith
onto-weight b (p ∷ ps) n h = omega (arith, h)

bytes-weigh : (text : List ℕ) → piece_weight (pieces_of text) ≤ most_for_a_byte * (length text + 1)
bytes-weigh [] = omega arith
bytes-weigh (b ∷ bs) =
    let rest = bytes-weigh bs in
    by_bool (b == 10)
    (λ on. rw on (omega (arith, rest)))
    (λ off. let onto = onto-weight b (pieces_of bs) (length bs) rest in rw off (omega (arith, onto)))

-- ---- the law

pub within-size : (text : List ℕ) (choices : Choices) → IsWithinSize text choices
within-size text choices = by_first (first_lines lines) refl
  where
    lines : List ReadLine
    lines = map as_read (lines_of text)

    by_first : (p : Place (List (List ℕ))) → first_lines lines ≡ p → IsWithinSize text choices
    by_first (Fails offset fault) e = rw (e, whole_compact) (omega arith)
    by_first NeedsMore e = rw (e, whole_compact) (omega arith)
    by_first (Done two count) e =
        let some : IsDecidedAfter 0 (Done two count) =
        subst (IsDecidedAfter 0) e (steady-first_lines [] lines) in
        let stays : Remains (length lines) (Done two count) (first_lines (lines ++ [])) =
        subst (λ q. Remains (length lines) q (first_lines (lines ++ []))) e (steady-first_lines lines []) in
        let within : count ≤ length lines = stays.0 in
        let rest : List ReadLine = drop count lines in
        let r : Reading ReadEpoch = reading_from compact_place choices.skip [] (count + 1) rest in
        let fits : size (expanded_lines r.items) ≤ weight rest = reading-fits choices.skip (count + 1) rest in
        let same : length (expanded text choices).output ≡ size (expanded_lines r.items) =
        ap (λ (w : WholeReading ReadEpoch). size (expanded_lines w.items))
        (whole-at choices.skip lines two count e) ∙ ap size (ended-lines choices.skip r.items r.stop) in
        let left = drop-weight count lines within in
        let lighter = pieces-lighter (pieces_of text) in
        let bytes = bytes-weigh text in
        let at_least : 0 < count = some in
        omega (arith, fits, same, left, lighter, bytes, at_least)
