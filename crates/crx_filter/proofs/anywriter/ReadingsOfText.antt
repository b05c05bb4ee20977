-- A reading of compact text without a fault and a warning: its lines are the lines of the units that it shows.
use Rattle.crx_filter.proofs
use proofs.Vocabulary.{arith, common_steps, ℕ, ◌≡◌, Bool, List, [], ◌∷◌, ◌++◌, map, Option, None, refl}
use proofs.Vocabulary.{append_assoc, map-append, ReadLine, Content, FileUnit, Item, ReadEpoch}
use proofs.Vocabulary.{warnings_in, WholeReading, whole_reading, compact_place, Epoch}
use proofs.reading.StepInvariants.{IsKept, whole-kept}
use Rattle.crx_filter.specs.meaning.{CompactText.AreLinesOf, Expanded.rinex_unit}
use Rattle.std.proofs.{Common.{take-append-drop}}
use Rattle.crx_compact.specs.meaning.AnyWriter.{WrittenEpoch}
use proofs.anywriter.UnitsOfLines.{Standing, unit-back}

-- some lines are the lines of units that items show, followed by others
pub record LinesBack (all : List ReadLine) (items : List (Item ReadEpoch))
    (rest : List ReadLine) : Type 0 where
  pub units : List (FileUnit Epoch)
  pub own : List (List ℕ)
  pub last : Option WrittenEpoch
  pub cut : all ≡ map Content own ++ rest
  pub stands : Standing items units last
  pub written : AreLinesOf units own last

abbrev pub Back : List ReadLine → List (Item ReadEpoch) → List ReadLine → Type 0
Back all items rest = warnings_in items ≡ [] → LinesBack all items rest

back-kept : (skip : Bool) (all : List ReadLine) → IsKept compact_place skip (Back all)
back-kept skip all = record {
  here = λ items lines unit count e h none.
      let t = h none in
      let u = unit-back items t.units t.last t.stands lines unit count e in
      record {
        units = rinex_unit unit ∷ t.units;
        own = t.own ++ u.own;
        last = u.now;
        cut = rw (map-append, append_assoc) (cc (t.cut, u.cut, take-append-drop count lines));
        stands = u.stands;
        written = (t.last, t.own, u.own, t.written, refl, u.written);
      };
  passed = λ items lines at n on h none. absurd (cc none);
}

-- a reading that ends without a fault and a warning has read the last line
abbrev pub EndsBack : List ReadLine → WholeReading ReadEpoch → Type 0
EndsBack lines w = w.fault ≡ None → Back lines w.items []

pub reading-back : (skip : Bool) (number : ℕ) (lines : List ReadLine)
    → EndsBack lines (whole_reading compact_place skip number lines)
reading-back skip number lines =
    whole-kept compact_place skip (Back lines) (back-kept skip lines) number lines
    (λ none. grind (arith, common_steps))
