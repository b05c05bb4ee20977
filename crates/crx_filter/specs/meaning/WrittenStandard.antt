-- The output of an expansion is a standard file, whoever wrote the compact text, and however it was damaged.
use Rattle.std.specs.Prelude.{◌≡◌, ◌↔◌, ℕ, Bool, List, [], ◌∷◌, None, true, map}
use Rattle.std.specs.List.{list_all}
use Rattle.crx_base.specs.meaning.Lines.{InputLine, lines_of}
use Rattle.crx_base.specs.meaning.AsRead.{as_read}
use Rattle.crx_rinex.specs.meaning.Observations.{Epoch}
use Rattle.crx_compact.specs.meaning.CompactPlaces.{ReadEpoch}
use Rattle.crx_base.specs.meaning.Choices.{Choices}
use Rattle.crx_filter.specs.meaning.Expanded.{expanded, rinex_unit, whole_compact}
use Rattle.crx_filter.specs.meaning.Items.{Item, Accepted, Warned}
use Rattle.crx_filter.specs.meaning.Standard.{IsStandard}
use Rattle.crx_filter.specs.meaning.WayBack.{HaveNoReturns}
use Rattle.crx_runs.specs.meaning.Spans.{Device}

-- whether each line of a text ends with LF and no CR before it
abbrev pub has_plain_lines : List ℕ → Bool
has_plain_lines text = list_all (λ (line : InputLine). line.is_plain) (lines_of text)

-- a standard file was written, unless a line of it ends in CR
abbrev pub WroteStandard : Device → Type 0
WroteStandard writer =
    (output : List ℕ) × writer.took output × (has_plain_lines output ≡ true → IsStandard output)

-- ---- the law

-- the units that were read from compact text, with the warnings between them, as the units of RINEX that they encode
abbrev pub rinex_items : List (Item ReadEpoch) → List (Item Epoch)
rinex_items [] = []
rinex_items (Accepted unit ∷ before) = Accepted (rinex_unit unit) ∷ rinex_items before
rinex_items (Warned at ∷ before) = Warned at ∷ rinex_items before

-- the output of the expansion of a text that no fault ends
pub record IsWrittenStandard (text : List ℕ) (choices : Choices) : Type 0 where
  -- is standard, unless a line of it ends in CR
  pub standard : has_plain_lines (expanded text choices).output ≡ true
      → IsStandard (expanded text choices).output
  -- and its lines don't end in CR if and only if no copied line has a content that ends in CR
  pub copied : has_plain_lines (expanded text choices).output ≡ true
      ↔ HaveNoReturns (rinex_items (whole_compact choices.skip (map as_read (lines_of text))).items)

-- if no fault ends the expansion of a text, its output is standard in this sense
abbrev pub WhatIsExpandedIsStandard : List ℕ → Choices → Type 0
WhatIsExpandedIsStandard text choices = (expanded text choices).fault ≡ None → IsWrittenStandard text choices
