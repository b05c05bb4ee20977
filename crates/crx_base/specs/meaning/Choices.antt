-- The user's choices for a run, and the dates that are allowed.
use Rattle.std.specs.Prelude.{ℕ, Bool, ◌&&◌, ◌==◌, List, Option, Some, None, if◌then◌else◌, nat_le, length}
use Rattle.std.specs.List.{list_all}
use Rattle.crx_base.specs.meaning.Lines.{is_printable}
use Rattle.crx_base.specs.declared.limits.TheConstants.{DATE_LIMIT}

-- the user's choices: N if every N-th epoch is full, whether faults are skipped, and the date in the second
-- line of compact text; expansion uses only the second choice
pub record Choices : Type 0 where
  pub every : Option ℕ
  pub skip : Bool
  pub date : List ℕ

-- whether a date fits its columns of the second line of Compact RINEX 3.0 and is printable
abbrev pub is_date : List ℕ → Bool
is_date date = nat_le (length date) DATE_LIMIT && list_all is_printable date

-- an N of 0 is the same as no choice
abbrev pub kept_every : Option ℕ → Option ℕ
kept_every None = None
kept_every (Some count) = if count == 0 then None else Some count

-- the choices that some arguments make
abbrev pub choices_of : Option ℕ → Bool → List ℕ → Choices
choices_of every skip date = record { every = kept_every every; skip = skip; date = date }
