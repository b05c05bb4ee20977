-- by computation
use Rattle.crx_filter.proofs.Vocabulary.{refl, rules, [], ◌∷◌, map, Some, None, Content}
use Rattle.crx_filter.proofs.Vocabulary.{Accepted, Observation, EventLine, EventRecord}
use Rattle.std.specs.Fmt.{digits}
use Rattle.crx_text.specs.meaning.Codes.{coded_number}
use Rattle.crx_filter.proofs.{anywriter.TextCompactedHere.whole-file, stretches.StretchesCompactedHere.units-before}
use Rattle.crx_filter.specs.meaning.CompactText.{AreUnitsInPlace}
use Rattle.crx_laws.proofs.WildText.{make-file, full_arc, epoch_with, header_lines, lines-of_header, kept-lines}
use Rattle.crx_laws.specs.SmallFiles.{epoch_at_second as epoch_of}
use Rattle.crx_laws.specs.WildText.{comment, epoch_at_second, event, first_line}
use Rattle.crx_laws.specs.WildText.{second_line, wild_header, wild_stretch, wild_units}
use Rattle.crx_laws.specs.SmallStretches.{first_epoch, second_block}
use Rattle.crx_text.specs.meaning.Numbers.{size_of, number_of, number_text}
use Rattle.crx_laws.proofs.blocks.premises.Goals as goal

-- the header's units are in their places, as in the whole file
headers : AreUnitsInPlace wild_header
headers = units-before (epoch_at_second 2 20000202000 ∷ EventRecord comment ∷ EventLine event
    ∷ epoch_at_second 1 20000100500 ∷ epoch_at_second 0 20000000000 ∷ []) wild_header
    (whole-file wild_units make-file).in_place

pub returns : goal.returns
unfolding digits coded_number size_of number_of number_text
returns c = record {
  one = record { lines = refl; good = refl };
  other = record { lines = refl; good = refl };
  types = refl;
  more = refl;
  wild = record {
    file = record { in_place = headers; header = refl; complete = refl };
    in_place = (whole-file wild_units make-file).in_place;
    header = refl;
    begins = refl;
    ends = refl;
    types = refl;
    begun = record {
      version = first_line;
      program = second_line;
      lines = header_lines;
      more = map Content wild_stretch.lines;
      last = None;
      cut = refl;
      first = refl;
      second = refl;
      written = lines-of_header;
    };
    lines = wild_stretch.lines;
    last = Some (epoch_with 2 full_arc);
    written = kept-lines;
    rest = refl;
  };
  piece = record {
    file_good = search rules;
    front_good = search rules;
    before = Accepted (Observation (epoch_of 1 20000100500)) ∷ first_epoch;
    piece = second_block;
    later = Accepted (Observation (epoch_of 4 20000408000)) ∷ [];
    parts = refl;
    header = refl;
    whole = (refl, refl);
    types = refl;
    anew = refl;
    text_is = refl;
  };
}
