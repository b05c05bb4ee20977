-- An argument of a subcommand, as the parser of command lines has it.
use Rattle.std.specs.Prelude.{◌≡◌, false}
use Rattle.clap.specs.Walk.{Rule, rule_of}
use Rattle.clap.specs.declared.builder.arg.Arg.{Arg}

-- it has this rule, and doesn't exist for subcommands below its own
pub record HasRule (argument : Arg) (its : Rule) : Type 0 where
  pub rule : rule_of argument ≡ its
  pub local : argument.global ≡ false
