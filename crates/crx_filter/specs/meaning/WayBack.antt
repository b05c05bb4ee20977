-- The way back: the expansion of the compact text that a compaction wrote. Lists of items have the newest first.
use Rattle.std.specs.Prelude.{◌≡◌, ℕ, false, List, [], ◌∷◌, None, ⊤}
use Rattle.crx_base.specs.meaning.Lines.{ends_with_return}
use Rattle.crx_rinex.specs.meaning.Observations.{Epoch}
use Rattle.crx_rinex.specs.meaning.Units.{Unit as FileUnit, HeaderLine, EventLine, EventRecord, Observation}
use Rattle.crx_filter.specs.meaning.Items.{Item, Accepted, Warned}
use Rattle.crx_runs.specs.meaning.Results.{FilterResult}
use Rattle.crx_filter.specs.meaning.Standard.{whole_of}

-- `P` holds of each line that is copied: a header line, an event's first line, or a record
abbrev pub OfCopiedLine : (List ℕ → Type 0) → FileUnit Epoch → Type 0
OfCopiedLine P (HeaderLine line) = P line
OfCopiedLine P (EventLine line) = P line
OfCopiedLine P (EventRecord line) = P line
OfCopiedLine P (Observation epoch) = ⊤

abbrev pub OfCopiedLines : (List ℕ → Type 0) → List (Item Epoch) → Type 0
OfCopiedLines P [] = ⊤
OfCopiedLines P (Accepted unit ∷ before) = OfCopiedLine P unit × OfCopiedLines P before
OfCopiedLines P (Warned at ∷ before) = OfCopiedLines P before

-- no line that is copied ends in CR. Each reading takes one CR off a line's end, so a second one would be lost
abbrev pub HaveNoReturns : List (Item Epoch) → Type 0
HaveNoReturns items = OfCopiedLines (λ (line : List ℕ). ends_with_return line ≡ false) items

-- the result of a run that wrote this text, reported nothing, and ended without a fault
abbrev pub written_well : List ℕ → FilterResult
written_well text = record { output = text; messages = []; status = 0; fault = None }

-- a file that is read to its end without a fault, and has no header line, event line or record whose content ends in
-- CR
pub record HasNormalForm (input : List ℕ) : Type 0 where
  pub good : (whole_of input).fault ≡ None
  pub no_returns : HaveNoReturns (whole_of input).items
