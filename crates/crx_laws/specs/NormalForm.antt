-- The normal form of a file that is read to its good end and has no copied line that ends in CR.
use Rattle.std.specs.Prelude.{◌≡◌, ℕ, List}
use Rattle.crx_filter.specs.meaning.Standard.{whole_of, normal_form, IsStandard}
use Rattle.crx_filter.specs.meaning.WayBack.{HasNormalForm}

-- its normal form is read as the same units
abbrev pub IsReadAsNormal : List ℕ → Type 0
IsReadAsNormal input = HasNormalForm input → whole_of (normal_form input) ≡ whole_of input

-- its normal form is a standard file
abbrev pub IsStandardAsNormal : List ℕ → Type 0
IsStandardAsNormal input = HasNormalForm input → IsStandard (normal_form input)

-- its normal form is its own normal form
abbrev pub IsNormalForGood : List ℕ → Type 0
IsNormalForGood input = HasNormalForm input → normal_form (normal_form input) ≡ normal_form input
