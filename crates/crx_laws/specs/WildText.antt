-- A small file and a compact text of it that no known writer writes.
use Rattle.std.specs.Prelude.{ℕ, ◌+◌, List, [], ◌∷◌, ◌++◌, codes, replicate, pos}
use Rattle.crx_base.specs.meaning.AsRead.{Content}
use Rattle.crx_base.specs.meaning.Lines.{lines_text}
use Rattle.crx_filter.specs.meaning.Stretches.{Stretch}
use Rattle.crx_rinex.specs.meaning.Observations.{Epoch}
use Rattle.crx_rinex.specs.meaning.Units.{Unit as FileUnit, HeaderLine, EventLine, EventRecord, Observation}
use Rattle.std.specs.Prelude.{Some, None}

abbrev pub blanks : ℕ → List ℕ
blanks count = replicate count 32

abbrev pub version : List ℕ
version = codes "     3.04           OBSERVATION DATA    G                   RINEX VERSION / TYPE"

abbrev pub types_line : List ℕ
types_line = codes "G    1 C1C" ++ blanks 50 ++ codes "SYS / # / OBS TYPES"

abbrev pub end_line : List ℕ
end_line = blanks 60 ++ codes "END OF HEADER"

abbrev pub event : List ℕ
event = codes "> 2024 01 01 00 00  1.5000000  4  1"

abbrev pub comment : List ℕ
comment = codes "a comment" ++ blanks 51 ++ codes "COMMENT"

abbrev pub head_at : ℕ → List ℕ
head_at s = codes "> 2024 01 01 00 00  " ++ (48 + s) ∷ codes ".0000000  0  1"

abbrev pub epoch_at_second : ℕ → ℕ → FileUnit Epoch
epoch_at_second s value = Observation (record {
  head = head_at s ++ blanks 6;
  clock = None;
  rows = record { name = codes "G01"; values = Some (pos value) ∷ []; flags = codes "  " } ∷ [];
})

-- a header, two epochs, an event with a record, and one more epoch
abbrev pub wild_units : List (FileUnit Epoch)
wild_units = epoch_at_second 2 20000202000 ∷ EventRecord comment ∷ EventLine event
    ∷ epoch_at_second 1 20000100500 ∷ epoch_at_second 0 20000000000
    ∷ HeaderLine end_line ∷ HeaderLine types_line ∷ HeaderLine version ∷ []

abbrev pub file : List (List ℕ)
file = version ∷ types_line ∷ end_line ∷ head_at 0 ∷ codes "G01  20000000.000" ∷ head_at 1 ∷ codes "G01  20000100.500"
    ∷ event ∷ comment ∷ head_at 2 ∷ codes "G01  20000202.000" ∷ []

-- the lines of each epoch: order 9 and leading zeros; marks without a change, 18 digits, and & for indicators that stay
-- blank; and an epoch with differences after the event
abbrev pub first_lines_of : List (List ℕ)
first_lines_of = (head_at 0 ++ blanks 6 ++ codes "G01   ") ∷ [] ∷ codes "9&0020000000000" ∷ []

abbrev pub second_lines : List (List ℕ)
second_lines = (blanks 9 ++ codes "&0" ++ blanks 9 ++ codes "1   ") ∷ blanks 2 ∷ codes "000000000000100500 &&" ∷ []

abbrev pub third_lines : List (List ℕ)
third_lines = (blanks 20 ++ codes "2") ∷ [] ∷ codes "1000 " ∷ []

abbrev pub first_line : List ℕ
first_line = codes " 3.0                COMPACT RINEX FORMAT                    CRINEX VERS   / TYPE"

abbrev pub second_line : List ℕ
second_line = codes "ANOTHER PROGRAM     SOMEBODY            ANY DAY             CRINEX PROG / DATE"

abbrev pub body : List (List ℕ)
body = version ∷ types_line ∷ end_line ∷ first_lines_of ++ second_lines ++ event ∷ comment ∷ third_lines

-- its first line ends with CR LF
abbrev pub wild_text : List ℕ
wild_text = first_line ++ 13 ∷ 10 ∷ lines_text (second_line ∷ body)

-- ---- another text of the units, damaged

-- the units of the header, the units before the stretch, and their lines
abbrev pub wild_header : List (FileUnit Epoch)
wild_header = HeaderLine end_line ∷ HeaderLine types_line ∷ HeaderLine version ∷ []

abbrev pub wild_before : List (FileUnit Epoch)
wild_before = epoch_at_second 0 20000000000 ∷ wild_header

abbrev pub lines_before : List (List ℕ)
lines_before = version ∷ types_line ∷ end_line ∷ first_lines_of

-- the second epoch's lines are replaced by two, the first of which begins with >; then follow the event and a full
-- epoch of order 7 with leading zeros
abbrev pub full_lines : List (List ℕ)
full_lines = (head_at 2 ++ blanks 6 ++ codes "G01 ") ∷ [] ∷ codes "7&0020000202000  " ∷ []

abbrev pub wild_stretch : Stretch
wild_stretch = record {
  lost = epoch_at_second 1 20000100500 ∷ [];
  instead = Content (codes ">") ∷ Content (codes "xyz") ∷ [];
  kept = epoch_at_second 2 20000202000 ∷ EventRecord comment ∷ EventLine event ∷ [];
  lines = event ∷ comment ∷ full_lines;
}

abbrev pub wild_damaged : List ℕ
wild_damaged = first_line ++ 13 ∷ 10 ∷ lines_text
    (second_line ∷ lines_before ++ codes ">" ∷ codes "xyz" ∷ event ∷ comment ∷ full_lines)

-- the lines that are kept, after only the header
abbrev pub wild_piece : List ℕ
wild_piece =
    first_line ++ 13 ∷ 10 ∷ lines_text (second_line ∷ version ∷ types_line ∷ end_line ∷ event ∷ comment ∷ full_lines)

-- ---- a block of another text, without its second line

-- the second epoch has differences, and its clock line is lost; then follow the event and a full epoch
abbrev pub wild_block : Stretch
wild_block = record {
  lost = epoch_at_second 1 20000100500 ∷ [];
  instead = Content (blanks 9 ++ codes "&0" ++ blanks 9 ++ codes "1   ") ∷ Content (codes "000000000000100500 &&") ∷ [];
  kept = epoch_at_second 2 20000202000 ∷ EventRecord comment ∷ EventLine event ∷ [];
  lines = event ∷ comment ∷ full_lines;
}

abbrev pub wild_shortened : List ℕ
wild_shortened = first_line ++ 13 ∷ 10 ∷ lines_text (second_line ∷ lines_before
    ++ (blanks 9 ++ codes "&0" ++ blanks 9 ++ codes "1   ") ∷ codes "000000000000100500 &&" ∷ event ∷ comment
    ∷ full_lines)
