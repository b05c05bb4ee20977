-- The message of a refusal.
use Rattle.std.proofs.Common.{◌≡◌, ◌∙◌, List, [], ℕ, Err, Some, inr, ap, refl}
use Rattle.std.{specs.Option.IfSome}
use Rattle.crx_runs.specs.meaning.Spans.{Device}
use Rattle.crx_base.specs.declared.fault.Fault.TheVariants.{OutOfMemory}
use Rattle.crx_command.specs.{Planning.plan_in, declared.job.UsageFault.UsageFault}
use Rattle.crx_command.specs.meaning.{ErrorLines.IsLineOf, Planning.{Plan, Refused, Refusal}}
use Rattle.crx_command.specs.meaning.Planning.{Parse, DashTwice, TwoFiles, BadDate, NoName}
use Rattle.crx_program.specs.meaning.Program.{IsRefused, IsShown, at_start}
use Rattle.crx_command.specs.declared.job.UsageFault.TheVariants as usage_fault

-- each refusal has a line
pub some_line : (refusal : Refusal) → (line : List ℕ) × IsLineOf refusal line
some_line Parse = ([], tt)
some_line DashTwice = (_, refl)
some_line TwoFiles = (_, refl)
some_line BadDate = (_, refl)
some_line (NoName name) = (_, refl)

module _ (p : Plan) (refusal : Refusal) (messages : Device) (status : ℕ) where
  -- arguments are refused with the line of their fault, or of the refused memory
  pub refused_by : (fault : UsageFault) → p ≡ Refused refusal → status ≡ 1
      → (fault ≡ usage_fault.Memory → IsShown messages (at_start OutOfMemory))
      → (plan_in (Err fault) ≡ Some (Refused refusal) → IsRefused messages refusal status)
      → IfSome (plan_in (Err fault)) (λ plan. plan ≡ p) → IsRefused messages refusal status
  refused_by (usage_fault.Parse text) e one memory by h = by (ap Some (h ∙ e))
  refused_by usage_fault.DashTwice e one memory by h = by (ap Some (h ∙ e))
  refused_by usage_fault.TwoFiles e one memory by h = by (ap Some (h ∙ e))
  refused_by usage_fault.BadDate e one memory by h = by (ap Some (h ∙ e))
  refused_by (usage_fault.NoName name) e one memory by h = by (ap Some (h ∙ e))
  refused_by usage_fault.Memory e one memory by h =
      (one, ((some_line refusal).0, (some_line refusal).1, inr (memory refl)))
