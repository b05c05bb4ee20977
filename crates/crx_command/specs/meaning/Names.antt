-- The names of files: an observation file and its compact form have the same name except for its ending. The
-- endings are those of RINEX 3.05's section on the names of files, and those that Hatanaka's programs RNX2CRX
-- and CRX2RNX give.
use Rattle.std.specs.Prelude.{ℕ, Bool, true, false, not, ◌&&◌, ◌==◌, ◌-◌, List, [], ◌∷◌, ◌++◌, map, length, take, drop}
use Rattle.std.specs.Prelude.{Option, Some, None, if◌then◌else◌, codes, option_map, option_and_then}
use Rattle.std.specs.Char.{is_ascii_digit}
use Rattle.std.specs.Str.{bytes_eq}
use Rattle.std.specs.Option.{option_or}
use Rattle.crx_command.specs.declared.job.Tool.{Tool}
use Rattle.crx_command.specs.declared.job.Tool.TheVariants.{Compact, Expand, Check}

-- a name without this ending, if it has it
abbrev pub without_ending : List ℕ → List ℕ → Option (List ℕ)
without_ending ending name =
    if bytes_eq (drop (length name - length ending) name) ending
    then Some (take (length name - length ending) name) else None

abbrev pub is_year : List ℕ → Bool
is_year (point ∷ tens ∷ units ∷ []) = point == 46 && is_ascii_digit tens && is_ascii_digit units
is_year _ = false

-- the last three characters are a point and two digits
abbrev pub ends_in_year : List ℕ → Bool
ends_in_year stem = is_year (drop (length stem - 3) stem)

-- an ending of an input file, and the one that replaces it; after a year only the last letter changes
pub record Renaming : Type 0 where
  pub old : List ℕ
  pub new : List ℕ
  pub after_year : Bool

abbrev pub turned : Renaming → Renaming
turned r = record { old = r.new; new = r.old; after_year = r.after_year }

-- from an observation file to its compact form
abbrev pub compacting : List Renaming
compacting = record { old = codes ".rnx"; new = codes ".crx"; after_year = false }
    ∷ record { old = codes ".RNX"; new = codes ".CRX"; after_year = false }
    ∷ record { old = codes "o"; new = codes "d"; after_year = true }
    ∷ record { old = codes "O"; new = codes "D"; after_year = true } ∷ []

-- `check` writes no file
abbrev pub renamings : Tool → List Renaming
renamings Compact = compacting
renamings Expand = map turned compacting
renamings Check = []

abbrev pub kept_stem : Renaming → List ℕ → Option (List ℕ)
kept_stem r stem = if r.after_year && not (ends_in_year stem) then None else Some stem

-- the rest of a name that has the ending
abbrev pub stem_of : Renaming → List ℕ → Option (List ℕ)
stem_of r name = option_and_then (kept_stem r) (without_ending r.old name)

-- the name with the first ending that fits replaced
abbrev pub first_renamed : List Renaming → List ℕ → Option (List ℕ)
first_renamed [] name = None
first_renamed (r ∷ rest) name =
    option_or (option_map (λ stem. stem ++ r.new) (stem_of r name)) (first_renamed rest name)

-- the name of the output file, if the input file's name has an ending that can be changed
abbrev pub output_name : Tool → List ℕ → Option (List ℕ)
output_name tool name = first_renamed (renamings tool) name
