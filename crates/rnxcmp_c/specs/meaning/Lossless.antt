-- A file that passes a check is restored, in the caller's memory. `holds result` says that a call returned this result,
-- and copied its texts into the caller's buffers.
use Rattle.std.specs.Prelude.{◌≡◌, ℕ, List, true}
use Rattle.crx_base.specs.meaning.Choices.{Choices, is_date}
use Rattle.crx_filter.specs.meaning.Compacted.{compacted}
use Rattle.crx_filter.specs.meaning.Standard.{checked}
use Rattle.crx_filter.specs.meaning.WayBack.{written_well}
use Rattle.crx_runs.specs.meaning.Results.{FilterResult}

-- the expansion of the compact text of a file that passes a check is the file, with no message and status 0
abbrev pub CallBringsBackWhatPasses : (FilterResult → Type 0) → List ℕ → Type 0
CallBringsBackWhatPasses holds text =
    (file : List ℕ) (compacting : Choices)
    → is_date compacting.date ≡ true → (checked file).status ≡ 0 → text ≡ (compacted file compacting).output
    → holds (written_well file)
