use Rattle.crx_compact.proofs.Vocabulary.{refl, [], ◌∷◌, ◌++◌, Some, inr, pos}
use Rattle.std.specs.Prelude.{codes}
use Rattle.std.specs.Fmt.{digits}
use Rattle.crx_text.specs.meaning.Codes.{coded_number}
use Rattle.crx_compact.specs.meaning.AnyWriter.{Arc, IsRowLine, AreEpochLines}
use Rattle.crx_filter.specs.meaning.CompactText.{IsCompactTextOf}
use Rattle.crx_filter.proofs.anywriter.TextCompactedHere.{whole-file}
use Rattle.crx_laws.specs.WildText.{wild_units, wild_text, body, first_line, second_line}
use Rattle.crx_laws.specs.WildText.{lines_before, second_lines, third_lines, event, comment}
use Rattle.crx_laws.proofs.WildText.{make-file, arc_one, row-is, row_with, epoch_with, lines-before}
use Rattle.crx_laws.proofs.any_writer.premises.Goals as goal

abbrev arc_two : Arc
arc_two = record { order = 9; newest = pos 20000100500; older = pos 20000000000 ∷ [] }

abbrev arc_three : Arc
arc_three = record { order = 9; newest = pos 20000202000; older = pos 20000100500 ∷ pos 20000000000 ∷ [] }

second-row : IsRowLine (Some (row_with arc_one)) (row_with arc_two) (codes "000000000000100500 &&")
unfolding coded_number digits
second-row = row-is (Some (row_with arc_one)) arc_two (codes "000000000000100500") (codes "&&") _ (inr refl)
    refl refl refl refl

third-row : IsRowLine (Some (row_with arc_two)) (row_with arc_three) (codes "1000 ")
unfolding coded_number digits
third-row = row-is (Some (row_with arc_two)) arc_three (codes "1000") [] _ (inr refl) refl refl refl refl

second-epoch : AreEpochLines (Some (epoch_with 0 arc_one)) (epoch_with 1 arc_two) second_lines
second-epoch = (
  epoch_with 0 arc_one,
  refl,
  record { marked = refl; spelled = refl; follows = tt; satellites = (second-row, tt) },
)

third-epoch : AreEpochLines (Some (epoch_with 1 arc_two)) (epoch_with 2 arc_three) third_lines
third-epoch = (
  epoch_with 1 arc_two,
  refl,
  record { marked = refl; spelled = refl; follows = tt; satellites = (third-row, tt) },
)

wild : IsCompactTextOf wild_units wild_text
wild = record {
  version = first_line;
  program = second_line;
  lines = body;
  last = Some (epoch_with 2 arc_three);
  cut = refl;
  first = refl;
  second = refl;
  written = (
    Some (epoch_with 1 arc_two),
    lines_before ++ second_lines ++ event ∷ comment ∷ [],
    third_lines,
    (
      Some (epoch_with 1 arc_two),
      lines_before ++ second_lines ++ event ∷ [],
      comment ∷ [],
      (
        Some (epoch_with 1 arc_two),
        lines_before ++ second_lines,
        event ∷ [],
        (
          Some (epoch_with 0 arc_one),
          lines_before,
          second_lines,
          lines-before,
          refl,
          (epoch_with 1 arc_two, refl, refl, second-epoch),
        ),
        refl,
        (refl, refl),
      ),
      refl,
      (refl, refl),
    ),
    refl,
    (epoch_with 2 arc_three, refl, refl, third-epoch),
  );
}

pub returns : goal.returns
returns c = record { met = whole-file wild_units make-file; text = wild }
