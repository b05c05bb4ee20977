-- Properties of the wild text's units and of its first epoch, by computation.
use Rattle.crx_compact.proofs.Vocabulary.{refl, ℕ, zero, suc, ◌≡◌, true, List, [], ◌∷◌, ◌++◌, Option, Some, None}
use Rattle.std.specs.{Prelude.{flat_map, drop, map}, List.list_all}
use Rattle.std.proofs.Common.{inl, pos, sym, append-nil}
use Rattle.crx_base.specs.meaning.{AsRead.{ReadLine, Content, as_read}, Lines.lines_of}
use Rattle.crx_text.specs.{Texts.patched, meaning.{Codes.code_of, Columns.{is_blank, without_end_blanks}}}
use Rattle.crx_compact.specs.meaning.{Differences.code_at, AnyWriter.flags_in}
use Rattle.crx_filter.specs.meaning.Stretches.{HasStretches, begins_no_event}
use Rattle.crx_filter.proofs.anywriter.TextCompactedHere.{whole-file}
use Rattle.crx_laws.specs.WildText.{first_line, second_line}
use Rattle.std.specs.Prelude.{codes}
use Rattle.std.specs.Fmt.{digits}
use Rattle.crx_base.specs.meaning.Lines.{lines_text}
use Rattle.crx_text.specs.meaning.Codes.{coded_number}
use Rattle.crx_text.specs.meaning.Numbers.{size_of, number_of, number_text}
use Rattle.crx_filter.specs.meaning.Standard.{IsStandard}
use Rattle.crx_filter.specs.meaning.UnitsAndText.{MakeAFile}
use Rattle.crx_filter.proofs.wayback.Units.{read-units}
use Rattle.crx_compact.specs.meaning.AnyWriter.{Arc, WrittenRow, WrittenEpoch, nothing_written}
use Rattle.crx_compact.specs.meaning.AnyWriter.{IsRowLine, MayFollow, arc_in, AreEpochLines}
use Rattle.crx_filter.specs.meaning.{CompactText.AreLinesOf, Stretches.{AreLinesOn, up_to_end}}
use Rattle.crx_laws.specs.WildText.{wild_stretch, full_lines, event, comment, wild_header}
use Rattle.crx_laws.specs.WildText.{wild_units, wild_before, file, blanks, head_at}
use Rattle.crx_laws.specs.WildText.{lines_before, first_lines_of, version, types_line, end_line}

standard : IsStandard (lines_text file)
unfolding digits size_of number_of number_text
standard = record { good = refl; plain = refl; given_back = refl }

pub make-file : MakeAFile wild_units
unfolding digits size_of number_of number_text
make-file = read-units (lines_text file) standard

abbrev pub arc_one : Arc
arc_one = record { order = 9; newest = pos 20000000000; older = [] }

abbrev pub row_with : Arc → WrittenRow
row_with arc = record { name = codes "G01"; arcs = Some arc ∷ []; flags = codes "  " }

abbrev pub epoch_with : ℕ → Arc → WrittenEpoch
epoch_with s arc = record { head = head_at s ++ blanks 6; clock = None; rows = row_with arc ∷ [] }

-- a satellite's line, by the text of its one code and its marks
pub row-is : (before : Option WrittenRow) (arc : Arc) (text marks line : List ℕ)
    → MayFollow (arc_in before 0) (Some arc)
    → code_of text ≡ Some (code_at arc.order (arc.newest ∷ arc.older)) → without_end_blanks line
    ≡ without_end_blanks (flat_map (λ (t : List ℕ). t ++ 32 ∷ []) (text ∷ []) ++ marks)
    → patched (flags_in before) marks ≡ [] → list_all is_blank (drop 2 marks) ≡ true
    → IsRowLine before (row_with arc) line
row-is before arc text marks line first spelled written marked no_more = record {
  texts = text ∷ [];
  marks = marks;
  spelled = cc (spelled);
  written = written;
  marked = marked;
  no_more = no_more;
  follows = follows;
}
  where
    follows : (place : ℕ) → MayFollow (arc_in before place) (arc_in (Some (row_with arc)) place)
    follows zero = first
    follows (suc place) = tt

first-row : IsRowLine None (row_with arc_one) (codes "9&0020000000000")
unfolding coded_number digits
first-row = row-is None arc_one (codes "9&0020000000000") [] _ (inl refl) refl refl refl refl

pub first-epoch : AreEpochLines None (epoch_with 0 arc_one) first_lines_of
first-epoch = (
  nothing_written,
  refl,
  record { marked = refl; spelled = refl; follows = tt; satellites = (first-row, tt) },
)

abbrev pub header_lines : List (List ℕ)
header_lines = version ∷ types_line ∷ end_line ∷ []

-- the lines of the header, and with the first epoch
pub lines-of_header : AreLinesOf wild_header header_lines None
lines-of_header = (
  None,
  version ∷ types_line ∷ [],
  end_line ∷ [],
  (
    None,
    version ∷ [],
    types_line ∷ [],
    (None, [], version ∷ [], (refl, refl), refl, (refl, refl)),
    refl,
    (refl, refl),
  ),
  refl,
  (refl, refl),
)

pub lines-before : AreLinesOf wild_before lines_before (Some (epoch_with 0 arc_one))
lines-before = (
  None,
  header_lines,
  first_lines_of,
  lines-of_header,
  refl,
  (epoch_with 0 arc_one, refl, refl, first-epoch),
)

-- ---- the lines that are kept

abbrev pub full_arc : Arc
full_arc = record { order = 7; newest = pos 20000202000; older = [] }

full-row : IsRowLine None (row_with full_arc) (codes "7&0020000202000  ")
unfolding coded_number digits
full-row = row-is None full_arc (codes "7&0020000202000") [] _ (inl refl) refl refl refl refl

full-epoch : AreEpochLines None (epoch_with 2 full_arc) full_lines
full-epoch = (
  nothing_written,
  refl,
  record { marked = refl; spelled = refl; follows = tt; satellites = (full-row, tt) },
)

pub kept-lines : AreLinesOn (up_to_end wild_before wild_stretch) None wild_stretch.kept wild_stretch.lines
    (Some (epoch_with 2 full_arc))
kept-lines = (
  None,
  event ∷ comment ∷ [],
  full_lines,
  (
    None,
    event ∷ [],
    comment ∷ [],
    (None, [], event ∷ [], (refl, refl), refl, (refl, refl)),
    refl,
    (refl, refl),
  ),
  refl,
  (epoch_with 2 full_arc, refl, refl, full-epoch),
)

-- ---- damaged texts

-- the lines of the header and the first epoch, other lines, and the lines that are kept
pub stretch-met : (damaged : List ℕ) (instead : List ReadLine)
    → map as_read (lines_of damaged) ≡ map Content (first_line ∷ second_line ∷ lines_before)
    ++ (instead ++ map Content wild_stretch.lines) → list_all begins_no_event instead ≡ true
    → HasStretches wild_before (record wild_stretch { instead = instead } ∷ []) damaged
stretch-met damaged instead cut allowed = record {
  file = whole-file wild_units make-file;
  header = refl;
  text = record {
    version = first_line;
    program = second_line;
    lines = lines_before;
    more = instead ++ map Content wild_stretch.lines;
    last = Some (epoch_with 0 arc_one);
    cut = cut;
    first = refl;
    second = refl;
    written = lines-before;
  };
  each = (
    record {
      begins = refl;
      ends = refl;
      types = refl;
      allowed = allowed;
      last = Some (epoch_with 2 full_arc);
      written = kept-lines;
    },
    tt,
  );
  rest = sym (append-nil (instead ++ map Content wild_stretch.lines));
}
