-- Small files for the laws' premises and for worked examples: their lines in RINEX and in compact text.
use Rattle.std.specs.Prelude.{ℕ, pos, ◌+◌, false, true, List, [], ◌∷◌, ◌++◌, Some, None, codes, replicate, flat_map}
use Rattle.crx_rinex.specs.meaning.Observations.{Epoch}
use Rattle.crx_rinex.specs.meaning.Units.{Unit as FileUnit, HeaderLine, EventLine, EventRecord, Observation}
use Rattle.crx_base.specs.meaning.Choices.{Choices}
use Rattle.crx_filter.specs.meaning.Items.{Item, Accepted}
use Rattle.crx_base.specs.meaning.Lines.{lines_text}

-- `count` blanks
abbrev pub blanks : ℕ → List ℕ
blanks count = replicate count 32

-- one type of GPS
abbrev pub one_type_line : List ℕ
one_type_line = codes "G    1 C1C" ++ blanks 50 ++ codes "SYS / # / OBS TYPES"

-- a header of one observation type of GPS
abbrev pub header : List (List ℕ)
header =
    codes "     3.04           OBSERVATION DATA    G                   RINEX VERSION / TYPE"
    ∷ one_type_line
    ∷ (blanks 60 ++ codes "END OF HEADER")
    ∷ []

-- the two lines before it in compact text, with the date D
abbrev pub first_two : List (List ℕ)
first_two =
    codes "3.0                 COMPACT RINEX FORMAT                    CRINEX VERS   / TYPE"
    ∷ (codes "RNX2CRX profile 1.0" ++ blanks 21 ++ codes "D" ++ blanks 19 ++ codes "CRINEX PROG / DATE")
    ∷ []

-- the first line of the epoch, or of the event with this flag and count, at second s of a day
abbrev pub line_at : ℕ → ℕ → ℕ → List ℕ
line_at s flag n = codes "> 2024 01 01 00 00  "
    ++ (48 + s) ∷ codes ".0000000  " ++ (48 + flag) ∷ codes "  " ++ (48 + n) ∷ []

abbrev pub epoch_line_at : ℕ → ℕ → List ℕ
epoch_line_at s n = line_at s 0 n

-- the epoch line of a full epoch in compact text
abbrev pub full_line_at : ℕ → ℕ → List ℕ → List ℕ
full_line_at s n names = epoch_line_at s n ++ blanks 6 ++ names

-- the change of an epoch line to second s
abbrev pub second_changed : ℕ → List ℕ
second_changed s = blanks 20 ++ (48 + s) ∷ []

-- one epoch of G01 with this observation: nine characters and the value
abbrev pub observed : List ℕ → List ℕ
observed value = codes "G01         " ++ value

abbrev pub plain_choices : Choices
plain_choices = record { every = None; skip = false; date = codes "D" }

-- every second epoch full
abbrev pub in_full_every_second : Choices
in_full_every_second = record { every = Some 2; skip = false; date = codes "D" }

abbrev pub with_skip : Choices
with_skip = record { every = None; skip = true; date = codes "D" }

-- lines that end with CR LF
abbrev pub returned_text : List (List ℕ) → List ℕ
returned_text lines = flat_map (λ (line : List ℕ). line ++ 13 ∷ 10 ∷ []) lines

-- five epochs of one satellite, with `after_second` after the value in the second satellite line
abbrev pub file_of_five : List ℕ → List (List ℕ)
file_of_five after_second =
    header
    ++ epoch_line_at 0 1 ∷ codes "G01  20000000.000"
    ∷ epoch_line_at 1 1 ∷ (codes "G01  20000100.500" ++ after_second)
    ∷ epoch_line_at 2 1 ∷ codes "G01  20000202.000"
    ∷ epoch_line_at 3 1 ∷ codes "G01  20000304.500"
    ∷ epoch_line_at 4 1 ∷ codes "G01  20000408.000"
    ∷ []

-- ---- a file of five epochs, every second one full in its compact text, with damage to its second block

-- the epoch of one satellite at second s with this observation
abbrev pub epoch_at_second : ℕ → ℕ → Epoch
epoch_at_second s value = record {
  head = epoch_line_at s 1 ++ blanks 6;
  clock = None;
  rows = record { name = codes "G01"; values = Some (pos value) ∷ []; flags = codes "  " } ∷ [];
}

-- the header
abbrev pub header_items : List (Item Epoch)
header_items =
    Accepted (HeaderLine (blanks 60 ++ codes "END OF HEADER"))
    ∷ Accepted (HeaderLine one_type_line)
    ∷ Accepted (HeaderLine (codes "     3.04           OBSERVATION DATA    G                   RINEX VERSION / TYPE"))
    ∷ []

-- the header and the first two epochs, which are the first block
abbrev pub first_block : List (Item Epoch)
first_block =
    Accepted (Observation (epoch_at_second 1 20000100500))
    ∷ Accepted (Observation (epoch_at_second 0 20000000000))
    ∷ header_items

-- the compact text, with these lines instead of the second block's lines after its first
abbrev pub damaged_by : List (List ℕ) → List ℕ
damaged_by lines =
    lines_text (first_two ++ header ++ full_line_at 0 1 (codes "G01")
    ∷ [] ∷ codes "3&20000000000" ∷ second_changed 1 ∷ [] ∷ codes "100500" ∷ full_line_at 2 1 (codes "G01") ∷ [])
    ++ lines_text lines
    ++ lines_text (full_line_at 4 1 (codes "G01") ∷ [] ∷ codes "3&20000408000" ∷ [])

-- lines instead of the second block's that read as two other epochs
abbrev pub other_block : List (List ℕ)
other_block = [] ∷ codes "3&20000202001" ∷ second_changed 3 ∷ [] ∷ codes "102500" ∷ []

-- the same with the second block undamaged, and this text instead of the bytes after the first line of the third block,
-- which is the last
abbrev pub last_damaged_by : List ℕ → List ℕ
last_damaged_by text =
    lines_text (first_two ++ header
    ++ full_line_at 0 1 (codes "G01") ∷ [] ∷ codes "3&20000000000" ∷ second_changed 1 ∷ [] ∷ codes "100500"
    ∷ full_line_at 2 1 (codes "G01")
    ∷ [] ∷ codes "3&20000202000" ∷ second_changed 3 ∷ [] ∷ codes "102500" ∷ full_line_at 4 1 (codes "G01") ∷ [])
    ++ text

-- ---- a file with an event after its first block

-- the event's first line and its record
abbrev pub comment_event : List (List ℕ)
comment_event = line_at 2 4 1 ∷ (blanks 60 ++ codes "COMMENT") ∷ []

-- two epochs, the event, and one more epoch
abbrev pub with_event : List (List ℕ)
with_event =
    header
    ++ epoch_line_at 0 1 ∷ codes "G01  20000000.000"
    ∷ epoch_line_at 1 1 ∷ codes "G01  20000100.500"
    ∷ (comment_event ++ epoch_line_at 2 1 ∷ codes "G01  20000202.000" ∷ [])

-- its compact text, with these lines instead of the first block's lines after its first
abbrev pub damaged_before_event : List (List ℕ) → List ℕ
damaged_before_event lines =
    lines_text (first_two ++ header ++ full_line_at 0 1 (codes "G01") ∷ [])
    ++ lines_text lines
    ++ lines_text (comment_event ++ full_line_at 2 1 (codes "G01") ∷ [] ∷ codes "3&20000202000" ∷ [])

-- its units, newest first
abbrev pub units_with_event : List (FileUnit Epoch)
units_with_event =
    Observation (epoch_at_second 2 20000202000)
    ∷ EventRecord (blanks 60 ++ codes "COMMENT")
    ∷ EventLine (line_at 2 4 1)
    ∷ Observation (epoch_at_second 1 20000100500)
    ∷ Observation (epoch_at_second 0 20000000000)
    ∷ HeaderLine (blanks 60 ++ codes "END OF HEADER")
    ∷ HeaderLine one_type_line
    ∷ HeaderLine (codes "     3.04           OBSERVATION DATA    G                   RINEX VERSION / TYPE")
    ∷ []

-- ---- compact text that the program doesn't write

-- an arc of order 1, followed by one of order 0 in the next epoch
abbrev pub of_other_orders : List ℕ
of_other_orders = lines_text (first_two ++ header
    ++ full_line_at 0 1 (codes "G01") ∷ [] ∷ codes "1&20000000000"
    ∷ second_changed 1 ∷ [] ∷ codes "0&20000100500" ∷ second_changed 2 ∷ [] ∷ codes "20000202000" ∷ [])

-- a header line whose content ends in CR
abbrev pub with_returns : List ℕ
with_returns = lines_text (first_two)
    ++ lines_text (codes "     3.04           OBSERVATION DATA    G                   RINEX VERSION / TYPE"
    ∷ codes "twice\r\r" ∷ one_type_line ∷ (blanks 60 ++ codes "END OF HEADER") ∷ [])
