-- The reading of a text that is damaged in stretches: after each stretch exactly the kept units.
use Rattle.crx_filter.proofs
use proofs.Vocabulary.{arith, ◌≡◌, true, List, [], ◌∷◌, ◌++◌, map, refl, append_assoc, append-nil}
use proofs.Vocabulary.{AllByRecursion, flat_map, flat_map-append, ReadLine, Content, Epoch, FileUnit, IsWholeEpoch}
use proofs.Vocabulary.{printed_epoch, Observation, IsGood, ReadEpoch, Item, Accepted, Warned, header_has_ended}
use proofs.Vocabulary.{records_left, types_in_force, reading_from, compact_place, printed_items, IsBetweenUnits}
use proofs.Vocabulary.{expanded_lines, AreInPlace, Stretch, up_to_end, up_to_next, with_stretches, IsStretch}
use proofs.Vocabulary.{AreStretches, common_steps}
use Rattle.crx_filter.specs.meaning.{Stretches.{Saves, stretches_lines}, UnitsAndText.as_items}
use proofs.Vocabulary.{map-append}
use proofs.damage.{ItemTexts.rest-in_place, ResumedEpochs.with_warnings}
use proofs.damage.SavedText.{lines-append, lines-warned, epochs_of}
use proofs.{reading.ListsOfUnits.{all-append, header-append}, stretches.KeptUnits.{AreKeptRead, units-kept}}
use proofs.stretches.OpenReading.{AreEpochs, IsOpen, IsStretchRead, stretch-more}
use proofs.stretches.OpenReading.{epochs-types}
use proofs.wayback.{ExpandedStandard.printed-read, ExpandedWhole.AreGoodEpochs}

-- ---- units after others

pub header-on : (units block : List (FileUnit Epoch)) → header_has_ended (as_items block) ≡ true
    → header_has_ended (as_items (units ++ block)) ≡ true
header-on units block h =
    rw (map-append Accepted units block) (header-append (as_items units) (as_items block) h)

pub rest-placed : (units block : List (FileUnit Epoch)) → AreInPlace (as_items (units ++ block))
    → AreInPlace (as_items block)
rest-placed units block h =
    rest-in_place (as_items units) (as_items block) (rw (map-append Accepted units block) at h)

-- ---- the place of a reading

-- these lines were read as these items, which leave the same state as these units
pub record WereReadAs (so_far : List ReadLine) (items : List (Item ReadEpoch))
    (before : List (FileUnit Epoch)) : Type 0 where
  pub stops : IsOpen items (reading_from compact_place true [] 3 so_far)
  pub between : IsBetweenUnits items
  pub types : types_in_force items ≡ types_in_force (as_items before)

-- ---- facts about some stretches, and about all units

pub record AreSound (before : List (FileUnit Epoch)) (stretches : List Stretch) : Type 0 where
  pub in_place : AreInPlace (as_items (with_stretches before stretches))
  pub header : header_has_ended (as_items before) ≡ true
  pub closed : records_left (as_items (with_stretches before stretches)) ≡ 0
  pub each : AreStretches before stretches

pub placed-up_to : (before : List (FileUnit Epoch)) (stretches : List Stretch)
    → AreInPlace (as_items (with_stretches before stretches)) → AreInPlace (as_items before)
placed-up_to before [] h = h
placed-up_to before (s ∷ later) h =
    rest-placed s.lost before
    (rest-placed s.kept (up_to_end before s) (placed-up_to (up_to_next before s) later h))

-- the units up to the next stretch, or the end, are whole
pub next-closed : (next : List (FileUnit Epoch)) (later : List Stretch) → AreSound next later
    → records_left (as_items next) ≡ 0
next-closed next [] sound = sound.closed
next-closed next (s ∷ later) sound = IsStretch.begins (sound.each).0

sound-later : (before : List (FileUnit Epoch)) (s : Stretch) (later : List Stretch)
    → AreSound before (s ∷ later)
    → AreSound (up_to_next before s) later
sound-later before s later sound = grind (arith, common_steps, header-on)

-- ---- one stretch

-- the items read from its lines, and then from the kept ones
pub record IsStepRead (before : List (FileUnit Epoch)) (s : Stretch) (so_far : List ReadLine)
    (items : List (Item ReadEpoch))
    : Type 0 where
  pub first : IsStretchRead items (reading_from compact_place true [] 3 (so_far ++ s.instead))
  pub kept : AreKeptRead (up_to_end before s) s.kept (first.news ++ items)
      (reading_from compact_place true [] 3 (so_far ++ s.instead))
      (reading_from compact_place true [] 3 ((so_far ++ s.instead) ++ map Content s.lines))
  pub come : WereReadAs ((so_far ++ s.instead) ++ map Content s.lines)
      ((kept.more ++ with_warnings kept.warnings first.news) ++ items) (up_to_next before s)

pub one-stretch : (before : List (FileUnit Epoch)) (s : Stretch) (later : List Stretch)
    (so_far : List ReadLine)
    (items : List (Item ReadEpoch)) → AreSound before (s ∷ later) → WereReadAs so_far items before
    → IsStepRead before s so_far items
one-stretch before s later so_far items sound come =
    let block : List (FileUnit Epoch) = up_to_end before s in
    let h = (sound.each).0 in
    let next = sound-later before s later sound in
    let first = stretch-more items so_far s.instead come.between come.stops h.allowed in
    let x : List (Item ReadEpoch) = first.news ++ items in
    let header : header_has_ended (as_items block) ≡ true = header-on s.lost before sound.header in
    let k = units-kept block s.kept s.lines h.last x (so_far ++ s.instead) (grind (
      arith,
      common_steps,
      h.ends,
      first.between,
      epochs-types,
      first.news,
      first.epochs,
      come.types,
      h.types,
    )) (placed-up_to
    (up_to_next before s) later next.in_place) h.written first.stops in record {
      first = first;
      kept = k;
      come = grind (arith, common_steps, next, header, k, next-closed (up_to_next before s) later next);
    }

-- ---- its output

-- the printed epochs among the items read from a stretch
news-printed : (news : List (Item ReadEpoch))
    → AreEpochs news → expanded_lines news ≡ flat_map printed_epoch (epochs_of news)
news-printed [] h = refl
news-printed (Accepted (Observation read) ∷ news) h =
    search (news-printed news h, append-nil, flat_map-append)
news-printed (Warned at ∷ news) h = news-printed news h
news-printed (Accepted unit ∷ news) h = absurd h

good-rest : (later items : List (Item ReadEpoch)) → AreGoodEpochs (later ++ items) → AreGoodEpochs items
good-rest [] items h = h
good-rest (item ∷ later) items h = grind (arith, good-rest later items)

news-whole : (news items : List (Item ReadEpoch)) → AreEpochs news → AreGoodEpochs (news ++ items)
    → AllByRecursion (IsWholeEpoch (types_in_force items)) (epochs_of news)
news-whole [] items h good = tt
news-whole (Accepted (Observation read) ∷ news) items h good = all-append _ _ _
    (news-whole news items h good.1) (rw (← epochs-types news items h) (IsGood.whole good.0), tt)
news-whole (Warned at ∷ news) items h good = news-whole news items h good
news-whole (Accepted unit ∷ news) items h good = absurd h

module _ (before : List (FileUnit Epoch)) (s : Stretch) (so_far : List ReadLine)
    (items : List (Item ReadEpoch))
    (one : IsStepRead before s so_far items) where
  pub step-printed : expanded_lines (one.kept.more ++ with_warnings one.kept.warnings one.first.news)
      ≡ flat_map printed_epoch (epochs_of one.first.news) ++ printed_items (as_items s.kept)
  step-printed = grind (arith, common_steps, lines-append, lines-warned, news-printed, printed-read)

  pub step-whole : types_in_force items ≡ types_in_force (as_items before)
      → AreGoodEpochs ((one.kept.more ++ with_warnings one.kept.warnings one.first.news) ++ items)
      → AllByRecursion (IsWholeEpoch (types_in_force (as_items before))) (epochs_of one.first.news)
  step-whole types good = grind (arith, common_steps, news-whole, good-rest, append_assoc)

-- ---- all stretches

pub record AreStretchesRead (before : List (FileUnit Epoch)) (stretches : List Stretch)
    (so_far : List ReadLine)
    (items : List (Item ReadEpoch)) : Type 0 where
  pub more : List (Item ReadEpoch)
  pub come : WereReadAs (so_far ++ stretches_lines stretches) (more ++ items)
      (with_stretches before stretches)
  pub saves : AreGoodEpochs (more ++ items) → Saves before stretches (expanded_lines more)

pub stretches-read : (before : List (FileUnit Epoch)) (stretches : List Stretch) (so_far : List ReadLine)
    (items : List (Item ReadEpoch)) → AreSound before stretches → WereReadAs so_far items before
    → AreStretchesRead before stretches so_far items
stretches-read before [] so_far items sound come = record {
  more = [];
  come = rw (append-nil so_far) come;
  saves = λ good. refl;
}
stretches-read before (s ∷ later) so_far items sound come =
    let one = one-stretch before s later so_far items sound come in
    let own : List (Item ReadEpoch) = one.kept.more ++ with_warnings one.kept.warnings one.first.news in
    let rest = stretches-read (up_to_next before s) later
    ((so_far ++ s.instead) ++ map Content s.lines) (own ++ items)
    (sound-later before s later sound) one.come in
    let lines : ((so_far ++ s.instead) ++ map Content s.lines) ++ stretches_lines later
    ≡ so_far ++ stretches_lines (s ∷ later) =
    simp append_assoc in
    record {
      more = rest.more ++ own;
      come = grind (arith, common_steps, own, rest, lines);
      saves = λ good.
          let again : AreGoodEpochs (rest.more ++ (own ++ items)) = rw append_assoc at good in (
            epochs_of one.first.news,
            expanded_lines rest.more,
            step-whole before s so_far items one come.types (good-rest rest.more (own ++ items) again),
            rw (lines-append rest.more own, step-printed before s so_far items one, append_assoc) refl,
            rest.saves again,
          );
    }
