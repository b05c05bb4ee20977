-- Compacting or expanding again changes nothing; and hours make a day. Lists of items have the newest first.
use Rattle.std.specs.Prelude.{◌≡◌, ℕ, List, [], ◌∷◌, ◌++◌, true, None}
use Rattle.crx_base.specs.meaning.Choices.{Choices, is_date}
use Rattle.crx_base.specs.meaning.Lines.{lines_text}
use Rattle.crx_rinex.specs.meaning.Observations.{Epoch}
use Rattle.crx_filter.specs.meaning.Compacted.{compact_lines, compacted}
use Rattle.crx_filter.specs.meaning.Expanded.{expanded}
use Rattle.crx_filter.specs.meaning.Items.{Item, ends_header, types_in_force}
use Rattle.crx_filter.specs.meaning.Standard.{normal_form, printed_items, whole_of}
use Rattle.crx_filter.specs.meaning.WayBack.{HasNormalForm, written_well}
use Rattle.crx_filter.specs.meaning.WrittenStandard.{has_plain_lines}

-- compacting the expansion of a file's compact text with the same options writes the same compact text again
abbrev pub IsTheSameAgain : List ℕ → Choices → Choices → Type 0
IsTheSameAgain file compacting expanding = is_date compacting.date ≡ true → HasNormalForm file
    → compacted (expanded (compacted file compacting).output expanding).output compacting
    ≡ compacted file compacting

-- the expansion of a text is expanded again from its own compact text
abbrev pub ExpandsTheSameAgain : List ℕ → Choices → Choices → Choices → Type 0
ExpandsTheSameAgain text choices compacting expanding = is_date compacting.date ≡ true
    → (expanded text choices).fault ≡ None → has_plain_lines (expanded text choices).output ≡ true
    → expanded (compacted (expanded text choices).output compacting).output expanding
    ≡ written_well (expanded text choices).output

-- ---- hours and days

-- some items end with the header's last line
abbrev pub EndWithHeader : List (Item Epoch) → Type 0
EndWithHeader [] = ⊥
EndWithHeader (item ∷ before) = ends_header item ≡ true

-- a file follows another: both have a normal form; the second has a header and later units; and the first ends with the
-- types of that header
pub record Follows (first second : List ℕ) (header later : List (Item Epoch)) : Type 0 where
  pub first_good : HasNormalForm first
  pub second_good : HasNormalForm second
  pub parts : (whole_of second).items ≡ later ++ header
  pub ended : EndWithHeader header
  pub types : types_in_force (whole_of first).items ≡ types_in_force header

-- the compact text of the first, followed by the compact text of the second without the lines of its header, expands to
-- the first and the later units
abbrev pub MakeADay : List ℕ → List ℕ → List (Item Epoch) → List (Item Epoch) → List ℕ → Choices → Choices → Type 0
MakeADay first second header later rest compacting expanding = is_date compacting.date ≡ true
    → Follows first second header later
    → (compacted second compacting).output ≡ lines_text (compact_lines compacting header) ++ rest
    → expanded ((compacted first compacting).output ++ rest) expanding
    ≡ written_well (normal_form first ++ lines_text (printed_items later))
