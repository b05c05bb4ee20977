use Rattle.std.proofs.Common.{arith}
use Rattle.std.proofs.lemmas.Grind.{common_steps}
use Rattle.std.proofs.Common.{rules, ◌≡◌, ◌≢◌, ◌∙◌, ap, ap₂, map, sym, subst, string_bytes, true, List, [], ℕ}
use Rattle.clap.specs.{Faults.{fault_of, is_simple_and_free}, Kinds.HasKind, Values.kind_of}
use Rattle.clap.specs.Simple.{App, HasMatchesOf, subcommand_rows_of}
use Rattle.clap.specs.declared.{error.Error.Error, parser.matches.ArgMatches.ArgMatches}
use Rattle.clap.specs.declared.error.ErrorKind.TheVariants.{DisplayHelp, OutOfMemory}
use Rattle.crx_command.proofs.{AlikeKinds.program_alike, PlanSteps.{program_is_free, program_is_simple}}
use Rattle.crx_command.proofs.PlanSteps.{both_halves, not_run_plan}
use Rattle.crx_command.specs.meaning.{Commands.program, Planning.{Plan, Help, Refused, Parse}}
use Rattle.crx_command.specs.meaning.Planning.{by_kind, decide, of_subcommand, plan_of}
use Rattle.crx_command.proofs.plan.plan.Goals as goal

module _ (app : App) (texts words : List (List ℕ)) (is : app ≡ program) (same : texts ≡ words) where
  free : is_simple_and_free app ≡ true
  free = ap is_simple_and_free is ∙ program_is_free

  -- if the words fit the command line
  accepted : (m : ArgMatches) → (is_simple_and_free app ≡ true → fault_of app texts ≡ [])
      → HasMatchesOf app texts m → of_subcommand (subcommand_rows_of m) ≡ plan_of words
  accepted = grind (arith, common_steps, program_is_simple, free)

  -- if the parser returns an error
  answered : (e : Error) (p : Plan) → (is_simple_and_free app ≡ true → HasKind (fault_of app texts) e)
      → p ≡ by_kind (kind_of e) → kind_of e ≢ OutOfMemory → p ≡ plan_of words
  answered e p kinds shown other = not_run_plan p e _ _ (program_alike words)
      (subst (λ kinds. HasKind kinds e) (ap₂ fault_of is same) (kinds free)) shown other

pub returns-in-DisplayHelp : goal.returns-in-DisplayHelp
returns-in-DisplayHelp c =
    let kind : kind_of c.in-Err.error ≡ DisplayHelp = search rules in
    record {
      value = answered _ _ _ c.in_ok-command.ensures (ap (map string_bytes) c.as_slice.ensures.value)
          c.in-Err.error Help c.in-Err.ensures.kinds (ap by_kind (sym kind)) (λ e. cc);
    }

pub returns-in_default : goal.returns-in_default
returns-in_default c = record {
  value = answered _ _ _ c.in_ok-command.ensures (ap (map string_bytes) c.as_slice.ensures.value)
      c.in-Err.error (Refused Parse) c.in-Err.ensures.kinds (search rules) (search rules);
}

pub returns-in_default-subcommand : goal.returns-in_default-subcommand
returns-in_default-subcommand c =
    let plan : Refused Parse ≡ of_subcommand (subcommand_rows_of c.in-Ok.matches) = search rules in
    record {
      value = plan ∙ accepted _ _ _ c.in_ok-command.ensures (ap (map string_bytes) c.as_slice.ensures.value)
          c.in-Ok.matches c.in-Ok.ensures.kinds c.in-Ok.ensures.matches;
    }

pub returns : goal.returns
returns c =
    let whole = both_halves _ _ _ _ _ c.in-Some.ensures.name c.in-Some.ensures.rows in
    let is = accepted _ _ _ c.in_ok-command.ensures (ap (map string_bytes) c.as_slice.ensures.value)
    c.in-Ok.matches c.in-Ok.ensures.kinds c.in-Ok.ensures.matches in
    record {
      value = rw (ap₂ decide c.tool_named.ensures c.arguments_of.ensures ∙ (ap of_subcommand whole ∙ is))
          at c.decide_for.ensures;
    }
