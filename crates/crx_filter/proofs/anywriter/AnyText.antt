-- Compact text of a file's units, whoever wrote it, expands to their RINEX text.
use Rattle.crx_filter.proofs
use proofs.Vocabulary.{common_steps, drop, ℕ, suc, ◌≡◌, ◌+◌, ◌<◌, Bool, true, false, cond, List, [], ◌∷◌, ◌++◌}
use proofs.Vocabulary.{map}
use proofs.Vocabulary.{length, Option, Some, None}
use proofs.Vocabulary.{by_bool, refl, ap, sym, ◌∙◌, subst, arith, append-nil, is_some}
use proofs.Vocabulary.{Content, Epoch, Done}
use proofs.Vocabulary.{FileUnit, HeaderLine, EventLine, EventRecord, Observation, Item, Accepted, Count}
use proofs.Vocabulary.{RawEpoch, ReadEpoch}
use proofs.Vocabulary.{header_has_ended, records_left, records_count_types, types_in_force, types_fault}
use proofs.Vocabulary.{Reading, AtLines, reading_from, ended_reading, compact_place, compact_epoch_place}
use proofs.Vocabulary.{is_event_line, records_in, raws_kept}
use proofs.Vocabulary.{IsWholeEpoch, expanded_unit, warnings_in, result_of}
use proofs.Vocabulary.{written_well}
use Rattle.crx_filter.proofs.{Vocabulary.{IsInPlace, AreInPlace}, following.Agreement.body-place}
use Rattle.crx_filter.proofs.reading.{ForwardCompact.{compact-forward, compact_beginning}, EndAtStops.closes-well}
pub use Rattle.crx_filter.proofs.wayback.FirstTwoLines.{two-read, whole-read}
use Rattle.crx_filter.proofs.wayback.{UnitsReadAgain.{IsLike, header-here, record-here, unit-more}}
use Rattle.crx_filter.specs.meaning.{Expanded.{rinex_unit, empties_state}, WrittenStandard.rinex_items}
use Rattle.crx_filter.specs.meaning.UnitsAndText.{as_items, rinex_text}
use Rattle.crx_compact.proofs.Vocabulary.{epoch_at, at}
use Rattle.crx_compact.proofs.Vocabulary.{tail_left}
use Rattle.crx_compact.proofs.Vocabulary.{if◌then◌else◌}
use Rattle.crx_compact.proofs.Vocabulary.{same_Some}
use Rattle.crx_compact.specs.meaning.AnyWriter.{WrittenRow, WrittenEpoch, epoch_now}
use Rattle.crx_compact.specs.meaning.AnyWriter.{AreRowLines, AreEpochLines}
use Rattle.crx_compact.specs.AnyWriter.{epoch_left, IsLeft}
use Rattle.crx_compact.proofs.Vocabulary.{Tail}
use Rattle.crx_header.{proofs.Counts.types_of-push}
use Rattle.crx_filter.specs.meaning.Stretches.{AreLinesOn}
use Rattle.crx_filter.specs.meaning.CompactText.{AreLinesOfUnit, AreLinesOf, AreUnitsInPlace}
use Rattle.crx_filter.specs.CompactText.{ExpandsAnyText, IsOfOneFile, WritesFirstUnits}
use Rattle.crx_filter.proofs.reading.{CompactPrefixes.reading-at, Prefixes.expanded-first}
use proofs.Vocabulary.{compact_reading}
use Rattle.crx_filter.proofs.wayback.ExpandedStandard.{printed-read}
use Rattle.crx_filter.proofs.wayback.Units.{none-warned, units-again}
use Rattle.crx_compact.proofs.anywriter.Epochs.{any-epoch, no-event}

warned-read : (items : List (Item ReadEpoch)) → warnings_in (rinex_items items) ≡ warnings_in items
warned-read [] = refl
warned-read (item ∷ before) = grind (arith, warned-read before)

-- ---- an epoch's lines

rows-many : (base : WrittenEpoch) (rows : List WrittenRow) (lines : List (List ℕ))
    → AreRowLines base rows lines
    → length lines ≡ length rows
rows-many base [] [] h = refl
rows-many base [] (line ∷ lines) h = absurd h
rows-many base (r ∷ rs) [] h = absurd h
rows-many base (r ∷ rs) (line ∷ lines) h = ap suc (rows-many base rs lines h.1)

pub none-left : (tail : Option Tail) → IsLeft None tail
none-left tail b e = absurd (cc e)

-- ---- items that leave the same as some units

like-unit : (items : List (Item ReadEpoch)) (units : List (FileUnit Epoch)) (unit : FileUnit ReadEpoch)
    → IsLike items units → IsInPlace (as_items units) (rinex_unit unit)
    → IsLike (Accepted unit ∷ items) (rinex_unit unit ∷ units)
like-unit items units unit k h = grind (arith, common_steps, types_of-push)

-- ---- a unit's lines

-- a unit that is read at its lines, and the state that it leaves
record UnitRead (items : List (Item ReadEpoch)) (unit : FileUnit Epoch) (lines : List (List ℕ))
    (now : Option WrittenEpoch) : Type 0 where
  read : FileUnit ReadEpoch
  place : compact_place items (map Content lines) ≡ Done read (length lines)
  same : rinex_unit read ≡ unit
  left : IsLeft now (tail_left (raws_kept (Accepted read ∷ items)))

event-begins : (types : List Count) (raws : List RawEpoch) (line : List ℕ) (o : Option ℕ)
    → records_in line ≡ o
    → is_some o ≡ true → is_event_line line ≡ true
    → compact_epoch_place types raws (Content line ∷ []) ≡ Done (EventLine line) 1
event-begins types raws line v1 e h event = grind (arith)

module _ (items : List (Item ReadEpoch)) (units : List (FileUnit Epoch)) (before : Option WrittenEpoch)
    (k : IsLike items units) (left : IsLeft before (tail_left (raws_kept items))) where
  record-left : (line : List ℕ) (b : Bool) → records_count_types items ≡ b
      → IsLeft (if empties_state b line then None else before)
      (tail_left (raws_kept (Accepted (EventRecord line) ∷ items)))
  record-left line b e = grind (arith, common_steps, by_bool, empties_state, none-left)

  epoch-unit : (now : WrittenEpoch) (lines : List (List ℕ))
      → IsInPlace (as_items units) (Observation (epoch_now now))
      → AreEpochLines before now lines → UnitRead items (Observation (epoch_now now)) lines (Some now)
  epoch-unit now [] h lines = absurd lines
  epoch-unit now (line ∷ []) h lines = absurd lines
  epoch-unit now (line ∷ clock ∷ rows) h lines =
      let whole : IsWholeEpoch (types_in_force items) (epoch_now now) =
      subst (λ t. IsWholeEpoch t (epoch_now now)) (sym k.types) h.2 in
      let reads = any-epoch (types_in_force items) before (raws_kept items) now
      (line ∷ clock ∷ rows) left whole lines in
      let here = ap (λ ls. epoch_at (types_in_force items) (raws_kept items) ls)
      (sym (append-nil (map Content (line ∷ clock ∷ rows)))) ∙ reads.reads [] in
      let other = no-event (types_in_force items) lines.0 now line clock rows whole lines.2 before lines.1 in
      let count : 2 + length now.rows ≡ length (line ∷ clock ∷ rows) =
      omega (arith, rows-many lines.0 now.rows rows lines.2.satellites) in
      record {
        read = Observation (record { raw = reads.raw; epoch = epoch_now now });
        place = grind (arith, common_steps, here, other, count, body-place);
        same = refl;
        left = λ b e. reads.leaves ∙ ap {B = Option Tail} (λ w. Some (epoch_left w)) (same_Some now b e);
      }

  one-line : (read : FileUnit ReadEpoch) (line : List ℕ) (now : Option WrittenEpoch)
      → compact_place items (Content line ∷ []) ≡ Done read 1
      → IsLeft now (tail_left (raws_kept (Accepted read ∷ items)))
      → UnitRead items (rinex_unit read) (line ∷ []) now
  one-line read line now here after = record { read = read; place = here; same = refl; left = after }

  unit-read : (now : Option WrittenEpoch) (unit : FileUnit Epoch) (lines : List (List ℕ))
      → IsInPlace (as_items units) unit → AreLinesOfUnit (as_items units) before unit lines now
      → UnitRead items unit lines now
  unit-read now (HeaderLine line) lines h w = rw (w.0, w.1) (one-line (HeaderLine line) line None
      (search (header-here, k.header, k.start)) (none-left None))
  unit-read now (EventLine line) lines h w = rw (w.0, w.1) (one-line (EventLine line) line before
      (body-place compact_beginning items (Content line ∷ []) (k.header ∙ h.0) (k.left ∙ h.1)
      ∙ event-begins (types_in_force items) (raws_kept items) line _ refl h.3 h.2) left)
  unit-read now (EventRecord line) lines h w =
      let counts = k.counts (subst (λ n. 0 < n) (sym k.left) h.1) in
      rw (w.0, w.1) (one-line (EventRecord line) line _ (record-here compact_beginning items line
      (records_left (as_items units)) (k.header ∙ h.0) k.left h.1
      (ap (λ b. cond b (types_fault line) None) counts ∙ h.2))
      (record-left line (records_count_types (as_items units)) counts))
  unit-read now (Observation epoch) lines h w = rw (w.2, ← w.1) (epoch-unit w.0 lines (rw w.1 h) w.3)

-- ---- some units after others

pub record AreReadOn (skip : Bool) (items : List (Item ReadEpoch)) (number : ℕ)
    (block units : List (FileUnit Epoch))
    (lines : List (List ℕ)) (last : Option WrittenEpoch) : Type 0 where
  pub more : List (Item ReadEpoch)
  pub reads : reading_from compact_place skip items number (map Content lines)
      ≡ record { items = more ++ items; stop = AtLines (number + length lines) [] }
  pub known : rinex_items more ≡ as_items units
  pub like : IsLike (more ++ items) (units ++ block)
  pub left : IsLeft last (tail_left (raws_kept (more ++ items)))

pub read-on : (skip : Bool) (items : List (Item ReadEpoch)) (number : ℕ) (block units : List (FileUnit Epoch))
    (lines : List (List ℕ)) (start last : Option WrittenEpoch) → IsLike items block
    → IsLeft start (tail_left (raws_kept items))
    → AreInPlace (as_items (units ++ block)) → AreLinesOn block start units lines last
    → AreReadOn skip items number block units lines last
read-on skip items number block [] lines start last like left h k = rw (k.0, k.1)
    (record { more = []; reads = grind arith; known = refl; like = like; left = left })
read-on skip items number block (unit ∷ units) lines start last like left h k =
    let r = read-on skip items number block units k.1 start k.0 like left h.1 k.3 in
    let u = unit-read (r.more ++ items) (units ++ block) k.0 r.like r.left last unit k.2 h.0 k.5 in
    rw k.4 (record {
      more = Accepted u.read ∷ r.more;
      reads = unit-more compact_place compact-forward skip items
          (r.more ++ items) number k.1 k.2 u.read r.reads u.place;
      known = cc (u.same, r.known);
      like = grind (arith, common_steps, r, u, like-unit (r.more ++ items) (units ++ block) u.read r.like);
      left = u.left;
    })

-- ---- all units

-- the lines of all units are those of units after none
pub of-nothing : (units : List (FileUnit Epoch)) (lines : List (List ℕ)) (last : Option WrittenEpoch)
    → ◌≡◌ {A = Type 0} (AreLinesOn [] None units lines last) (AreLinesOf units lines last)
of-nothing [] lines last = refl
of-nothing (unit ∷ units) lines last = λ i. (before : Option WrittenEpoch) × (first : List (List ℕ))
    × (more : List (List ℕ))
    × of-nothing units first before i × (lines ≡ first ++ more)
    × AreLinesOfUnit (as_items (append-nil units i)) before unit more last

pub record AreRead (skip : Bool) (number : ℕ) (units : List (FileUnit Epoch)) (lines : List (List ℕ))
    (last : Option WrittenEpoch)
    : Type 0 where
  pub items : List (Item ReadEpoch)
  pub reads : reading_from compact_place skip [] number (map Content lines)
      ≡ record { items = items; stop = AtLines (number + length lines) [] }
  pub known : rinex_items items ≡ as_items units
  pub like : IsLike items units
  pub left : IsLeft last (tail_left (raws_kept items))

pub all-read : (skip : Bool) (number : ℕ) (units : List (FileUnit Epoch)) (lines : List (List ℕ))
    (last : Option WrittenEpoch)
    → AreInPlace (as_items units) → AreLinesOf units lines last → AreRead skip number units lines last
all-read skip number units lines last h k =
    let r = read-on skip [] number [] units lines None last
    (record { header = refl; start = refl; left = refl; counts = λ some. refl; types = refl })
    (none-left None)
    (rw append-nil h) (rw (of-nothing units lines last) k) in
    grind (arith, common_steps, append-nil, at)

-- ---- the text

-- if units are read, there is no warning
pub units-silent : (items : List (Item ReadEpoch)) (units : List (FileUnit Epoch))
    → rinex_items items ≡ as_items units
    → warnings_in items ≡ []
units-silent items units known = sym (warned-read items) ∙ ap warnings_in known ∙ none-warned units

-- a reading that ends after these units has no fault
pub units-well : (skip : Bool) (items : List (Item ReadEpoch)) (number : ℕ) (units : List (FileUnit Epoch))
    → header_has_ended items ≡ true → records_left items ≡ 0 → rinex_items items ≡ as_items units
    → result_of expanded_unit (ended_reading skip (record { items = items; stop = AtLines number [] }))
    ≡ written_well (rinex_text units)
units-well skip items number units header left known =
    grind (arith, common_steps, closes-well, printed-read, units-silent)

pub in-place : (units : List (FileUnit Epoch)) → AreUnitsInPlace units → AreInPlace (as_items units)
in-place [] h = tt
in-place (unit ∷ before) h = (h.0, in-place before h.1)

pub any-text : ExpandsAnyText
any-text text choices units file h =
    let r = all-read choices.skip 3 units h.lines h.last (in-place units file.in_place) h.written in
    grind (arith, common_steps, whole-read, units-well)

pub one-file : IsOfOneFile
one-file text one two h k first second =
    let a = all-read false 3 one first.lines first.last (in-place one h.in_place) first.written in
    let b = all-read false 3 two second.lines second.last (in-place two k.in_place) second.written in
    let same : map Content first.lines ≡ map Content second.lines = ap (drop 2) (sym first.cut
    ∙ second.cut) in
    let items : a.items ≡ b.items = ap (λ (r : Reading ReadEpoch). r.items)
    (sym a.reads ∙ ap (reading_from compact_place false [] 3) same ∙ b.reads) in
    cc (units-again one, units-again two, a.known, b.known, items)

-- ---- text that is cut off, or damaged from some place on

pub first-units : WritesFirstUnits
first-units units text choices placed h =
    let skip = choices.skip in
    let lines = Content h.version ∷ Content h.program ∷ map Content h.lines in
    let r = all-read skip 3 units h.lines h.last (in-place units placed) h.written in
    let two = two-read h.version h.program (map Content h.lines) h.first h.second in
    let read : compact_reading skip lines
    ≡ record { items = r.items; stop = AtLines (3 + length h.lines) [] } =
    reading-at skip lines (h.version ∷ h.program ∷ []) 2 two ∙ r.reads in
    grind (arith, common_steps, lines, r, read, printed-read r.items, expanded-first choices lines)
