-- The plans that arguments lead to.
use Rattle.std.specs.Prelude.{ℕ, Bool, true, false, not, ◌&&◌, ◌==◌, ◌^◌, List, [], ◌∷◌, Option, Some, None}
use Rattle.std.specs.Prelude.{if◌then◌else◌, nat_lt, codes, count_by, find, unwrap_or, option_and_then}
use Rattle.std.specs.Option.{option_map_or}
use Rattle.std.specs.Str.{bytes_eq}
use Rattle.std.specs.Str.Parse.{digits_value, without_leading_plus}
use Rattle.clap.specs.ValueTests.{is_numeral}
use Rattle.clap.specs.Walk.{Row, all_of, first_of, one_of}
use Rattle.clap.specs.Simple.{subcommand_of}
use Rattle.clap.specs.Kinds.{Kinds}
use Rattle.clap.specs.Faults.{fault_of}
use Rattle.clap.specs.declared.error.ErrorKind.{ErrorKind}
use Rattle.clap.specs.declared.error.ErrorKind.TheVariants.{DisplayHelp}
use Rattle.crx_base.specs.meaning.Choices.{is_date}
use Rattle.crx_command.specs.meaning.Commands.{program}
use Rattle.crx_command.specs.meaning.Names.{output_name}
use Rattle.crx_command.specs.declared.job.Tool.{Tool}
use Rattle.crx_command.specs.declared.job.Tool.TheVariants.{Compact, Expand, Check}
use Rattle.crx_command.specs.declared.job.Job.{Job}

-- why arguments are refused
pub data Refusal : Type 0 where
  Parse : Refusal
  DashTwice : Refusal
  TwoFiles : Refusal
  BadDate : Refusal
  NoName : List ℕ → Refusal

-- the plan of some arguments: a help text, a run, or a refusal
pub data Plan : Type 0 where
  Help : Plan
  Run : Job → Plan
  Refused : Refusal → Plan

-- the arguments after a subcommand
pub record Given : Type 0 where
  pub dashes : ℕ
  pub files : ℕ
  pub file : Option (List ℕ)
  pub every : Option ℕ
  pub skip : Bool
  pub force : Bool
  pub date : Option (List ℕ)

abbrev pub is_dash : List ℕ → Bool
is_dash name = bytes_eq name (codes "-")

abbrev pub is_file : List ℕ → Bool
is_file name = not (is_dash name)

-- a number below 2^32 in decimal digits, after a plus or nothing
abbrev pub counted_argument : List ℕ → Option ℕ
counted_argument text =
    if is_numeral (without_leading_plus text) && nat_lt (digits_value 10 (without_leading_plus text)) (2 ^ 32)
    then Some (digits_value 10 (without_leading_plus text)) else None

abbrev pub is_set : List ℕ → List Row → Bool
is_set flag rows = option_map_or (λ text. bytes_eq text (codes "true")) (first_of flag rows) false

-- `-` and the names of files
abbrev pub file_names_in : List Row → List (List ℕ)
file_names_in rows = unwrap_or (all_of (codes "names") rows) []

abbrev pub given_in : List Row → Given
given_in rows = record {
  dashes = count_by is_dash (file_names_in rows);
  files = count_by is_file (file_names_in rows);
  file = find is_file (file_names_in rows);
  every = option_and_then counted_argument (one_of (codes "every") rows);
  skip = is_set (codes "skip") rows;
  force = is_set (codes "force") rows;
  date = first_of (codes "date") rows;
}

abbrev pub job_of : Tool → Given → Option (List ℕ) → Option (List ℕ) → Job
job_of tool given source target = record {
  tool = tool;
  source = source;
  target = target;
  force = given.force;
  every = given.every;
  skip = given.skip;
  date = given.date;
}

abbrev pub writes_file : Tool → ℕ → Bool
writes_file Check dashes = false
writes_file _ dashes = dashes == 0

abbrev pub with_target : Tool → Given → List ℕ → Option (List ℕ) → Plan
with_target tool given source None = Refused (NoName source)
with_target tool given source (Some target) = Run (job_of tool given (Some source) (Some target))

-- without a file's name standard input is read; `check`, and the others without a file's name or with `-`, write to
-- standard output
abbrev pub with_source : Tool → Given → Option (List ℕ) → Plan
with_source tool given None = Run (job_of tool given None None)
with_source tool given (Some source) =
    if writes_file tool given.dashes then with_target tool given source (output_name tool source)
    else Run (job_of tool given (Some source) None)

-- the first refusal that fits, otherwise the run
abbrev pub decide : Tool → Given → Plan
decide tool given =
    if nat_lt 1 given.dashes then Refused DashTwice
    else if nat_lt 1 given.files then Refused TwoFiles
    else if not (option_map_or is_date given.date true) then Refused BadDate
    else with_source tool given given.file

abbrev pub tool_named : List ℕ → Tool
tool_named name = if bytes_eq name (codes "rnx2crx") then Compact
    else if bytes_eq name (codes "crx2rnx") then Expand else Check

abbrev pub of_subcommand : Option (List ℕ × List Row) → Plan
of_subcommand None = Refused Parse
of_subcommand (Some found) = decide (tool_named found.0) (given_in found.1)

-- the plan if the parser returns an error of this kind: help, or a refusal
abbrev pub by_kind : ErrorKind → Plan
by_kind DisplayHelp = Help
by_kind _ = Refused Parse

-- the plan of the first of these kinds, if there is one, otherwise `plan`
abbrev pub by_kinds : Kinds → Plan → Plan
by_kinds [] plan = plan
by_kinds (kind ∷ more) plan = by_kind kind

-- the plan of the arguments, which don't include the program's name
abbrev pub plan_of : List (List ℕ) → Plan
plan_of words = by_kinds (fault_of program words) (of_subcommand (subcommand_of program words))
