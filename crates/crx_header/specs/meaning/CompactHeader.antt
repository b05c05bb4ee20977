-- The lines before the header in compact text: Hatanaka's Compact RINEX 3.0, the two lines of CRINEX.
use Rattle.std.specs.Prelude.{ℕ, Bool, true, false, List, [], ◌∷◌, ◌++◌, take, replicate}
use Rattle.crx_header.specs.declared.crinex.TheConstants.{CRINEX_VERSION_LINE, CRINEX_PROGRAM, CRINEX_PROGRAM_LABEL}

-- a text in `width` columns, with blanks after it
abbrev pub left_justified : ℕ → List ℕ → List ℕ
left_justified width text = take width (text ++ replicate width 32)

-- the two lines before the header in compact text
abbrev pub version_line : List ℕ
version_line = CRINEX_VERSION_LINE

abbrev pub program_line : List ℕ → List ℕ
program_line date = CRINEX_PROGRAM ++ left_justified 20 date ++ CRINEX_PROGRAM_LABEL

-- the lines written before a header line: these two before the first one, otherwise none
abbrev pub lines_before_header : List ℕ → Bool → List (List ℕ)
lines_before_header date true = version_line ∷ program_line date ∷ []
lines_before_header date false = []
