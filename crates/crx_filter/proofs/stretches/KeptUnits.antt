-- Units kept after a damaged stretch, whoever wrote them: they are read as themselves, whatever was read of the
-- stretch.
use Rattle.crx_filter.proofs
use proofs.Vocabulary.{ℕ, ◌≡◌, ◌+◌, ◌≤◌, At, true, List, [], ◌∷◌, ◌++◌, map, length, Option, None, refl, ◌∙◌}
use proofs.Vocabulary.{arith, append-nil, inl, and_parts, ReadLine, Content, Epoch, FileUnit, common_steps}
use proofs.Vocabulary.{begins_epoch, ReadEpoch, Item, header_has_ended}
use proofs.Vocabulary.{records_left, types_in_force, Reading, AtLines, reading_from, compact_place, raws_kept}
use proofs.Vocabulary.{IsBetweenUnits, AreInPlace}
use proofs.anywriter.AnyText.{none-left, AreReadOn, read-on}
use proofs.{reading.{ForwardCompact.compact-forward, Resuming.resumed}, wayback.UnitsReadAgain.{IsLike, started}}
use proofs.stretches.OpenReading.{IsOpen, open-continued, pending}
use proofs.damage.ResumedEpochs.{with_warnings, warned-between, warned-types}
use Rattle.crx_compact.proofs.Vocabulary.{tail_left}
use Rattle.crx_compact.specs.meaning.AnyWriter.{WrittenEpoch}
use Rattle.crx_filter.specs.meaning.{Stretches.AreLinesOn, UnitsAndText.as_items}
use Rattle.crx_filter.specs.meaning.WrittenStandard.{rinex_items}

-- ---- their first line begins with >

abbrev pub BeginWithMark : List (List ℕ) → Type 0
BeginWithMark [] = ⊥
BeginWithMark (line ∷ others) = begins_epoch line ≡ true

more-begin : (lines more : List (List ℕ)) → BeginWithMark lines → BeginWithMark (lines ++ more)
more-begin [] more h = absurd h
more-begin (line ∷ others) more h = h

pub units-begin : (block units : List (FileUnit Epoch)) (unit : FileUnit Epoch) (lines : List (List ℕ))
    (now : Option WrittenEpoch)
    → AreInPlace (as_items (unit ∷ (units ++ block))) → header_has_ended (as_items block) ≡ true
    → records_left (as_items block) ≡ 0 → AreLinesOn block None (unit ∷ units) lines now → BeginWithMark lines
units-begin block [] unit lines now h header left k = grind (arith, common_steps, and_parts)
units-begin block (next ∷ units) unit lines now h header left k =
    rw k.4 (more-begin k.1 k.2 (units-begin block units next k.1 k.0 h.1 header left k.3))

-- ---- the reading

pub record AreKeptRead (block kept : List (FileUnit Epoch)) (items : List (Item ReadEpoch))
    (before r : Reading ReadEpoch)
    : Type 0 where
  pub warnings : List At
  pub few : length warnings + pending r.stop ≤ pending before.stop
  pub more : List (Item ReadEpoch)
  pub known : rinex_items more ≡ as_items kept
  pub like : IsLike (more ++ with_warnings warnings items) (kept ++ block)
  pub stops : IsOpen (more ++ with_warnings warnings items) r

-- the facts about the units before, and about the items read instead of them
pub record CanGoOnAs (block : List (FileUnit Epoch)) (items : List (Item ReadEpoch)) : Type 0 where
  pub header : header_has_ended (as_items block) ≡ true
  pub left : records_left (as_items block) ≡ 0
  pub between : IsBetweenUnits items
  pub types : types_in_force items ≡ types_in_force (as_items block)

pub like-block : (block : List (FileUnit Epoch)) (items : List (Item ReadEpoch)) → CanGoOnAs block items
    → IsLike items block
like-block block items h = grind (arith, common_steps, started)

pub units-kept : (block kept : List (FileUnit Epoch)) (lines : List (List ℕ)) (last : Option WrittenEpoch)
    (items : List (Item ReadEpoch)) (so_far : List ReadLine) → CanGoOnAs block items
    → AreInPlace (as_items (kept ++ block))
    → AreLinesOn block None kept lines last → IsOpen items (reading_from compact_place true [] 3 so_far)
    → AreKeptRead block kept items (reading_from compact_place true [] 3 so_far)
    (reading_from compact_place true [] 3 (so_far ++ map Content lines))
units-kept block [] lines last items so_far h placed k stops =
    rw (k.0, append-nil so_far) (record {
      warnings = [];
      few = omega arith;
      more = [];
      known = refl;
      like = like-block block items h;
      stops = stops;
    })
units-kept block (unit ∷ kept) lines last items so_far h placed k stops =
    by_first lines k (units-begin block kept unit lines last placed h.header h.left k)
  where
    r : Reading ReadEpoch
    r = reading_from compact_place true [] 3 so_far

    by_first : (ls : List (List ℕ)) → AreLinesOn block None (unit ∷ kept) ls last → BeginWithMark ls
        → AreKeptRead block (unit ∷ kept) items r
        (reading_from compact_place true [] 3 (so_far ++ map Content ls))
    by_first [] k begins = absurd begins
    by_first (line ∷ others) k begins =
        let at = open-continued items r line (map Content others) h.between stops begins in
        let x : List (Item ReadEpoch) = with_warnings at.warnings items in
        let o : AreReadOn true x at.number block (unit ∷ kept) (line ∷ others) last =
        read-on true x at.number block
        (unit ∷ kept) (line ∷ others) None last (like-block block x (record {
          header = h.header;
          left = h.left;
          between = warned-between at.warnings items h.between;
          types = warned-types at.warnings items ∙ h.types;
        })) (none-left (tail_left (raws_kept x))) placed k in
        let reads : reading_from compact_place true [] 3 (so_far ++ map Content (line ∷ others))
        ≡ record { items = o.more ++ x; stop = AtLines (at.number + length (line ∷ others)) [] } =
        resumed compact_place compact-forward true [] 3 so_far (map Content (line ∷ others))
        ∙ at.same ∙ o.reads in
        record {
          warnings = at.warnings;
          few = rw reads (omega (arith, at.few));
          more = o.more;
          known = o.known;
          like = o.like;
          stops =
              inl (at.number + length (line ∷ others), [], refl, compact-forward.wants (o.more ++ x), reads);
        }
