-- The command line, as the parser of command lines sees it: the program's subcommands and their arguments.
use Rattle.std.specs.Prelude.{ℕ, true, List, [], ◌∷◌, Some, codes, pos}
use Rattle.clap.specs.Lexer.{usize_max}
use Rattle.clap.specs.Simple.{App, Shape, new_app, new_rule, new_shape, on_top, with_subcommand}
use Rattle.clap.specs.Walk.{Rule}
use Rattle.clap.specs.declared.builder.ArgAction.TheVariants.{Append, SetTrue}
use Rattle.clap.specs.declared.builder.value_parser.ValueParser.TheVariants.{Signed}

-- `-e N`, N from 1 to 1000000
abbrev pub every_rule : Rule
every_rule = record (new_rule (codes "every")) {
  short = Some 101;
  value_names = 1;
  parser = Some (Signed (pos 1) (pos 1_000_000));
}

-- `--date TEXT`
abbrev pub date_rule : Rule
date_rule = record (new_rule (codes "date")) { long = Some (codes "date"); value_names = 1 }

-- a flag of one letter
abbrev pub flag_rule : List ℕ → ℕ → Rule
flag_rule id letter = record (new_rule id) { short = Some letter; action = Some SetTrue }

-- `-` and names of files, any number of them
abbrev pub names_rule : Rule
names_rule = record (new_rule (codes "names")) {
  action = Some Append;
  range = Some (record { start_inclusive = 0; end_inclusive = usize_max });
  value_names = 1;
}

abbrev pub with_rules : List Rule → Shape → Shape
with_rules rules s = record s { rules = rules }

abbrev pub rnx2crx : Shape
rnx2crx = with_rules (every_rule ∷ flag_rule (codes "skip") 115
    ∷ flag_rule (codes "force") 102 ∷ date_rule ∷ names_rule ∷ []) (new_shape (codes "rnx2crx"))

abbrev pub crx2rnx : Shape
crx2rnx = with_rules (flag_rule (codes "skip") 115 ∷ flag_rule (codes "force") 102 ∷ names_rule ∷ [])
    (new_shape (codes "crx2rnx"))

abbrev pub checker : Shape
checker = with_rules (names_rule ∷ []) (new_shape (codes "check"))

-- the arguments don't include the program's name, one of the three subcommands is required, and none is called
-- `help`
abbrev pub top : App
top = on_top (λ s. record s { no_binary_name = true; disable_help_subcommand = true; subcommand_required = true })
    (new_app (codes "rnxcmp"))

abbrev pub program : App
program = with_subcommand (with_subcommand (with_subcommand top rnx2crx) crx2rnx) checker
