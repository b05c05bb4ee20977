use Rattle.std.proofs.lemmas.Grind.{common_steps}
use Rattle.std.proofs.Common.{arith, ◌≡◌, ◌≢◌, ◌++◌, ◌+◌, option_map, ℕ, ◌-◌, length}
use Rattle.std.proofs.Common.{take, drop, List, Bor, Option, Some, None, MatchOption}
use Rattle.std.proofs.{Common.take-append-drop, lemmas.{List.drop_at, Slice.Eq.bytes_eq-Decides}}
use Rattle.std.specs.Str.Pattern.{FindsTextSuffix, StripsSuffix}
use Rattle.crx_command.specs.meaning.Names.{without_ending}
use Rattle.crx_command.proofs.names.output_name.Goals as goal

no_ending : (name ending : List ℕ) → ((front : List ℕ) → name ≢ front ++ ending)
    → None ≡ without_ending ending name
no_ending name ending never = grind (
  arith,
  common_steps,
  bytes_eq-Decides (drop (length name - length ending) name) ending,
  take-append-drop (length name - length ending) name,
  never (take (length name - length ending) name),
)

its_stem : (name ending x : List ℕ) (k : ℕ)
    → k ≡ length ending → name ≡ take (length name - k) name ++ ending → x ≡ take (length name - k) name
    → length x + k ≡ length name → Some x ≡ without_ending ending name
its_stem = grind (arith, common_steps, drop_at, bytes_eq-Decides)

either : (name ending : List ℕ) (r : Option (Bor (List ℕ)))
    → MatchOption r ((front : List ℕ) → name ≢ front ++ ending)
    (λ x. StripsSuffix (FindsTextSuffix ending) name x.now)
    → option_map {T = Bor (List ℕ)} {U = List ℕ} (λ stem. stem.now) r ≡ without_ending ending name
either = grind (arith, common_steps, no_ending, its_stem)

pub returns-then-not-ending : goal.returns-then-not-ending
returns-then-not-ending c =
    let stem = either _ _ _ c.strip_suffix.ensures.cases in
    grind (arith, common_steps)

pub loop-ending-preserved : goal.loop-ending-preserved
loop-ending-preserved c =
    let stem = either _ _ _ c.strip_suffix.ensures.cases in
    grind (arith, common_steps)
