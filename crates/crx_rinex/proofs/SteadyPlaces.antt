-- Steady places: one after another, and their parts.
use Rattle.std.proofs.Common.{ℕ, List, Result, refl, arith}
use Rattle.std.proofs.lemmas.Grind.{common_steps}
use Rattle.crx_base.specs.{declared.fault.Fault.Fault, meaning.AsRead.ReadLine}
use Rattle.crx_rinex.specs.{Steady.{IsSteady}, meaning.Places.{Place, Done}}
use Rattle.crx_rinex.specs.meaning.Places.{then_place, first_line}

-- a thing of no lines
pub steady-here : {X : Type 0} (x : X) → IsSteady (λ lines. Done x 0)
steady-here x lines more = (omega arith, refl)

pub steady-first_line : {X : Type 0} (read : List ℕ → Result X Fault)
    → IsSteady (λ lines. first_line lines read)
steady-first_line = grind (arith, common_steps)

pub steady-then : {X Y : Type 0} (first : List ReadLine → Place X) (next : X → List ReadLine → Place Y)
    → IsSteady first → ((x : X) → IsSteady (next x)) → IsSteady (λ lines. then_place (first lines) lines next)
steady-then first next h steady lines more = grind (arith, common_steps)
