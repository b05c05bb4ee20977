use Rattle.rnxcmp_c.proofs.Vocabulary.{◌≡◌, refl, ap, AnyEngine, Compacting, Expanding, Checking}
use Rattle.rnxcmp_c.specs.Holdings.{engine_with}
use Rattle.rnxcmp_c.proofs.laws.handle_holds.Goals as goal

-- an engine with all parts of another is the other
engine-is : (one other : AnyEngine) → engine_with one other ≡ other
engine-is (Compacting one) (Compacting other) = refl
engine-is (Expanding one) (Expanding other) = refl
engine-is (Checking one) (Checking other) = refl
engine-is one other = refl

pub returns-clause-parts : goal.returns-clause-parts
returns-clause-parts c = λ one other. ap (λ e. let r = record other { engine = e } in r) (engine-is _ _)
