-- Additions to meaning/WayBack for code and proofs.
use Rattle.std.specs.Prelude.{◌≡◌, ℕ, true, List, None, map}
use Rattle.crx_base.specs.meaning.Lines.{lines_of}
use Rattle.crx_base.specs.meaning.AsRead.{as_read}
use Rattle.crx_rinex.specs.meaning.Observations.{Epoch}
use Rattle.crx_base.specs.meaning.Choices.{Choices, is_date}
use Rattle.crx_filter.specs.meaning.Reading.{WholeReading}
use Rattle.crx_base.specs.meaning.Lines.{lines_text}
use Rattle.crx_filter.specs.meaning.Compacted.{whole_rinex, compacted}
use Rattle.crx_filter.specs.meaning.Expanded.{expanded}
use Rattle.crx_filter.specs.meaning.Standard.{printed_items, whole_of, normal_form, IsStandard}
use Rattle.crx_filter.specs.meaning.WayBack.{HaveNoReturns, written_well}

-- if no fault ends the compaction of an input, the expansion of its compact text writes all accepted units, as RINEX
-- prints them, and reports nothing, with any options
abbrev pub ComesBack : List ℕ → Choices → Choices → Type 0
ComesBack input compacting expanding =
    let whole : WholeReading Epoch = whole_rinex compacting.skip (map as_read (lines_of input)) in
    is_date compacting.date ≡ true → whole.fault ≡ None → HaveNoReturns whole.items
    → expanded (compacted input compacting).output expanding ≡ written_well (lines_text (printed_items whole.items))

-- a file that is read to its end without a fault is restored in its normal form
abbrev pub NormalFormComesBack : List ℕ → Choices → Choices → Type 0
NormalFormComesBack input compacting expanding =
    is_date compacting.date ≡ true → (whole_of input).fault ≡ None → HaveNoReturns (whole_of input).items
    → expanded (compacted input compacting).output expanding ≡ written_well (normal_form input)

-- a standard file is restored byte for byte
abbrev pub StandardComesBack : List ℕ → Choices → Choices → Type 0
StandardComesBack input compacting expanding =
    is_date compacting.date ≡ true
    → IsStandard input → expanded (compacted input compacting).output expanding ≡ written_well input

-- a file that is read to its end without a fault is standard if it is restored byte for byte, with any options
abbrev pub IsStandardWhereSame : List ℕ → Choices → Choices → Type 0
IsStandardWhereSame input compacting expanding =
    is_date compacting.date ≡ true → (whole_of input).fault ≡ None
    → (expanded (compacted input compacting).output expanding).output ≡ input → IsStandard input
