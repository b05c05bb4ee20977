-- From the parser's answer to a plan.
use Rattle.std.proofs.Common.{arith, ◌≡◌, ◌≢◌, refl, Option, Some, option_map, true}
use Rattle.std.{proofs.lemmas.Option.none-some}
use Rattle.clap.{proofs.OnLiterals.clap_on_literals, specs.{Faults.is_simple_and_free, Kinds.HasKind}}
use Rattle.clap.specs.{Kinds.Kinds, Simple.is_simple, Values.kind_of, declared.error.Error.Error}
use Rattle.clap.specs.declared.error.ErrorKind.TheVariants.{OutOfMemory}
use Rattle.crx_command.{proofs.AlikeKinds.Alike, specs.meaning.{Commands.program, Planning.{Plan, by_kind}}}
use Rattle.crx_command.specs.meaning.Planning.{by_kinds}

pub program_is_simple : is_simple program ≡ true
unfolding clap_on_literals
program_is_simple = refl

pub program_is_free : is_simple_and_free program ≡ true
unfolding clap_on_literals
program_is_free = refl

-- an option of pairs, from its halves
module _ {X A B : Type 0} (f : X → A) (g : X → B) where
  abbrev pair : X → A × B
  pair x = (f x, g x)

  pub both_halves : (o : Option X) (a : A) (b : B)
      → Some a ≡ option_map f o → Some b ≡ option_map (λ (p : A × B). p.1) (option_map pair o)
      → ◌≡◌ {A = Option (A × B)} (Some (a, b)) (option_map pair o)
  both_halves = grind (arith, none-some)

-- the plan of an error of the parser, whose kind is among those that it may have
pub not_run_plan : (p : Plan) (e : Error) (kinds : Kinds) (rest : Plan) → Alike kinds → HasKind kinds e
    → p ≡ by_kind (kind_of e) → kind_of e ≢ OutOfMemory → p ≡ by_kinds kinds rest
not_run_plan p e kinds rest alike has shown other = grind arith
