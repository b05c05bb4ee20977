-- Small files that are damaged in stretches, and one that is cut off, for the laws' premises.
use Rattle.std.specs.Prelude.{ℕ, List, [], ◌∷◌, ◌++◌, codes}
use Rattle.crx_base.specs.meaning.Lines.{lines_text}
use Rattle.crx_rinex.specs.meaning.Observations.{Epoch}
use Rattle.crx_rinex.specs.meaning.Units.{EventLine, EventRecord, Observation}
use Rattle.crx_filter.specs.meaning.Items.{Item, Accepted}
use Rattle.crx_filter.specs.OwnStretches.{OwnStretch}
use Rattle.crx_laws.specs.SmallFiles.{blanks, header, first_two, line_at, full_line_at, second_changed}
use Rattle.crx_laws.specs.SmallFiles.{epoch_at_second}
use Rattle.crx_laws.specs.SmallFiles.{header_items}

-- ---- a file of five epochs, every second one full in its compact text

-- the header and the first epoch
abbrev pub first_epoch : List (Item Epoch)
first_epoch = Accepted (Observation (epoch_at_second 0 20000000000)) ∷ header_items

abbrev pub first_epoch_text : List ℕ
first_epoch_text =
    lines_text (first_two ++ header ++ full_line_at 0 1 (codes "G01") ∷ [] ∷ codes "3&20000000000" ∷ [])

-- the second block
abbrev pub second_block : List (Item Epoch)
second_block = Accepted (Observation (epoch_at_second 3 20000304500))
    ∷ Accepted (Observation (epoch_at_second 2 20000202000)) ∷ []

abbrev pub second_block_text : List ℕ
second_block_text =
    lines_text (full_line_at 2 1 (codes "G01") ∷ [] ∷ codes "3&20000202000" ∷ second_changed 3 ∷ []
    ∷ codes "102500" ∷ [])

-- all five epochs, and their text if only the first is full
abbrev pub five_epochs : List (Item Epoch)
five_epochs = (Accepted (Observation (epoch_at_second 4 20000408000)) ∷ second_block)
    ++ Accepted (Observation (epoch_at_second 1 20000100500))
    ∷ Accepted (Observation (epoch_at_second 0 20000000000)) ∷ []

abbrev pub five_epochs_text : List ℕ
five_epochs_text =
    lines_text (full_line_at 0 1 (codes "G01") ∷ [] ∷ codes "3&20000000000" ∷ second_changed 1 ∷ [] ∷ codes "100500"
    ∷ second_changed 2 ∷ [] ∷ codes "1000" ∷ second_changed 3 ∷ [] ∷ codes "0"
    ∷ second_changed 4 ∷ [] ∷ codes "0" ∷ [])

-- the second epoch's lines are replaced by two others, of which the first begins with >; and the whole third block,
-- with its first line, by a part of that line without LF
abbrev pub two_stretches : List OwnStretch
two_stretches =
    record {
      lost = Accepted (Observation (epoch_at_second 1 20000100500)) ∷ [];
      instead = codes ">\nxyz\n";
      kept = second_block;
    }
    ∷ record {
      lost = Accepted (Observation (epoch_at_second 4 20000408000)) ∷ [];
      instead = codes "> 2024 01";
      kept = [];
    }
    ∷ []

abbrev pub damaged_twice : List ℕ
damaged_twice = first_epoch_text ++ codes ">\nxyz\n" ++ second_block_text ++ codes "> 2024 01"

-- the same text, cut off inside its third block
abbrev pub cut_off : List ℕ
cut_off = first_epoch_text ++ lines_text (second_changed 1 ∷ [] ∷ codes "100500" ∷ [])
    ++ second_block_text ++ codes "> 2024 01"

-- ---- a file with an event after its first block

-- the first two epochs and the event are lost, with their lines
abbrev pub event_lost : List OwnStretch
event_lost =
    record {
      lost = Accepted (EventRecord (blanks 60 ++ codes "COMMENT")) ∷ Accepted (EventLine (line_at 2 4 1))
          ∷ Accepted (Observation (epoch_at_second 1 20000100500))
          ∷ Accepted (Observation (epoch_at_second 0 20000000000)) ∷ [];
      instead = [];
      kept = Accepted (Observation (epoch_at_second 2 20000202000)) ∷ [];
    }
    ∷ []

abbrev pub without_event : List ℕ
without_event =
    lines_text (first_two ++ header ++ full_line_at 2 1 (codes "G01") ∷ [] ∷ codes "3&20000202000" ∷ [])

-- the event's first line has another character instead of its count, so that the event is lost with its record
abbrev pub without_count : List ℕ
without_count = lines_text (codes "> 2024 01 01 00 00  2.0000000  4  x" ∷ (blanks 60 ++ codes "COMMENT") ∷ [])

abbrev pub count_lost : List OwnStretch
count_lost =
    record {
      lost = Accepted (EventRecord (blanks 60 ++ codes "COMMENT")) ∷ Accepted (EventLine (line_at 2 4 1)) ∷ [];
      instead = without_count;
      kept = Accepted (Observation (epoch_at_second 2 20000202000)) ∷ [];
    }
    ∷ []

abbrev pub with_lost_count : List ℕ
with_lost_count =
    lines_text (first_two ++ header ++ full_line_at 0 1 (codes "G01") ∷ [] ∷ codes "3&20000000000"
    ∷ second_changed 1 ∷ [] ∷ codes "100500" ∷ [])
    ++ without_count
    ++ lines_text (full_line_at 2 1 (codes "G01") ∷ [] ∷ codes "3&20000202000" ∷ [])
