use Rattle.std.proofs.{Common.{rules, ◌≡◌, refl}, lemmas.Result.IfOk-weaker}
use Rattle.clap.specs.Simple.{app_of}
use Rattle.crx_command.{proofs.CommandSteps.subcommand_more, specs.meaning.Commands.top}
use Rattle.crx_command.proofs.command.command.Goals as goal

pub returns : goal.returns
returns c =
    let start : app_of _ ≡ top = search rules in
    let one = subcommand_more _ _ _ _ _ c.in_ok-one.ensures start c.in_ok-rnx2crx.ensures refl in
    let two = subcommand_more _ _ _ _ _ c.in_ok-two.ensures one c.in_ok-crx2rnx.ensures refl in
    IfOk-weaker _ _ _
    (λ r h. subcommand_more _ _ r _ _ h two c.in_ok-checker.ensures refl) c.subcommand-3.ensures
