-- A command with one more subcommand.
use Rattle.std.proofs.Common.{arith, ◌≡◌, true}
use Rattle.clap.specs.{Built.AddsSubcommand, Simple.{App, Shape, app_of, shape_of}}
use Rattle.clap.specs.Simple.{with_subcommand}
use Rattle.clap.specs.declared.builder.command.Command.{Command}

pub subcommand_more : (old sub new : Command) (app : App) (shape : Shape)
    → AddsSubcommand old sub new → app_of old ≡ app → shape_of sub ≡ shape → shape.is_plain ≡ true
    → app_of new ≡ with_subcommand app shape
subcommand_more old sub new app shape h is shaped plain = grind arith
