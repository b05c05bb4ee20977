-- The line that a user reads if arguments are refused.
use Rattle.std.specs.Prelude.{◌≡◌, ⊤, ℕ, List, [], ◌++◌, codes}
use Rattle.crx_command.specs.meaning.Planning.{Refusal, Parse, DashTwice, TwoFiles, BadDate, NoName}

-- the words of an error, and a name or nothing
abbrev pub error_line : List ℕ → List ℕ → List ℕ
error_line words name = codes "ERROR: " ++ words ++ name ++ codes "\n"

-- the line of a refusal; if the parser refuses the arguments, no clause says which line it is
abbrev pub IsLineOf : Refusal → List ℕ → Type 0
IsLineOf Parse line = ⊤
IsLineOf DashTwice line = line ≡ error_line (codes "- given twice") []
IsLineOf TwoFiles line = line ≡ error_line (codes "more than one file name") []
IsLineOf BadDate line = line ≡ error_line (codes "bad date") []
IsLineOf (NoName name) line = line ≡ error_line (codes "no output name for ") name
