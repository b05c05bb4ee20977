-- A number that `u32` reads from a text.
use Rattle.std.proofs.Common.{arith}
use Rattle.std.proofs.lemmas.Grind.{common_steps}
use Rattle.std.proofs.Common.{◌≡◌, ℕ, true, refl, List, [], ◌∷◌, nat_lt}
use Rattle.std.{proofs.Common.{Option, Result, lt-ltb, ltb-true}, specs.Char.digit_value}
use Rattle.std.specs.{List.list_all, Str.Parse.{AllDigits, ParsesUnsigned}}
use Rattle.clap.{proofs.WalkLemmas.both, specs.Matches.ReadsOne}
use Rattle.crx_command.specs.meaning.Planning.{counted_argument}

digits_pass : (ds : List ℕ) → AllDigits 10 ds → list_all (λ d. nat_lt (digit_value d) 10) ds ≡ true
digits_pass [] h = refl
digits_pass (d ∷ ds) h = grind (arith, common_steps, lt-ltb, digits_pass ds)

digits_from : (ds : List ℕ) → list_all (λ d. nat_lt (digit_value d) 10) ds ≡ true → AllDigits 10 ds
digits_from [] e = tt
digits_from (d ∷ ds) e =
    grind (arith, common_steps, both, ltb-true, digits_from ds)

module _ {E : Type 0} (G : List ℕ
    → Result ℕ E → Type 0)
    (parses : (text : List ℕ) (r : Result ℕ E) → G text r → ParsesUnsigned 32 10 text r) where
  pub number_read : (text : List ℕ) (o : Option ℕ) → ReadsOne G text o → o ≡ counted_argument text
  number_read = grind (arith, common_steps, lt-ltb, digits_pass, both, ltb-true, digits_from)
