use Rattle.std.proofs.Common.{rules, ◌≡◌, Some}
use Rattle.crx_command.specs.{Planning.given_of, meaning.Planning.{Run, with_source}}
use Rattle.crx_command.proofs.plan.decide_for.Goals as goal

pub returns-in_ok-job-in-Some-2 : goal.returns-in_ok-job-in-Some-2
returns-in_ok-job-in-Some-2 c =
    let run : Run c.in_ok-job-in-Some-2.field-0
    ≡ with_source c.args.tool (given_of c.args.given.now) (Some c.in-Some.source.now) = search rules in
    search rules
