use Rattle.std.proofs.lemmas.Grind.{common_steps}
use Rattle.std.proofs.Common.{◌≡◌, ◌∙◌, ◌+◌, ◌-◌, ap, codes, count_by, find, map, List, ℕ, Option, Some, None}
use Rattle.std.proofs.Common.{arith, length, unwrap_or, [], ◌∷◌, Bor, option_and_then, option_map, refl, cond}
use Rattle.std.proofs.{Common.{Bool, not}, lemmas.List.Sums.sum_by-cons}
use Rattle.std.specs.Str.Parse.{ExplainsUnsignedError, HasUnsignedDigitsIfOk, ParsesUnsigned}
use Rattle.clap.{proofs.WalkLemmas.{first_value-rows, one_text-rows, raw_values-rows}, specs.Matches.found_of}
use Rattle.clap.specs.Matches.{one_text}
use Rattle.crx_command.{proofs.NumberRead.number_read, specs.meaning.Planning.{counted_argument, is_dash}}
use Rattle.crx_command.specs.meaning.Planning.{is_file}
use Rattle.crx_command.proofs.plan.arguments_of.Goals as goal

abbrev texts : List (Bor (List ℕ)) → List (List ℕ)
texts names = map (λ name. name.now) names

-- the names that were given, otherwise none
given : (names : Option (Bor (List (Bor (List ℕ))))) (none : Bor (List (Bor (List ℕ)))) → none.now ≡ []
    → texts (unwrap_or names none).now ≡ unwrap_or (option_map (λ given. texts given.now) names) []
given = grind arith

-- each name is a file's or `-`
either : (b : Bool) → cond b 1 0 + cond (not b) 1 0 ≡ 1
either = grind arith

all-counted : (names : List (Bor (List ℕ)))
    → count_by is_dash (texts names) + count_by is_file (texts names) ≡ length names
all-counted [] = refl
all-counted (name ∷ rest) = omega (
  arith,
  sum_by-cons (λ x. cond (is_dash x) 1 0) name.now (texts rest),
  sum_by-cons (λ x. cond (is_file x) 1 0) name.now (texts rest),
  either (is_dash name.now),
  all-counted rest,
)

pub returns : goal.returns
returns c =
    let names =
    ap (λ given. texts given.now) c.unwrap_or-names.ensures ∙ given _ _ refl ∙ ap (λ o. unwrap_or o [])
    (c.get_strs.ensures ∙ raw_values-rows (found_of _) (codes "names")) in
    let dashes : c.count-dashes.result ≡ count_by is_dash (texts c.unwrap_or-names.result.now) =
    grind (arith, common_steps) in
    let files : length c.unwrap_or-names.result.now - c.count-dashes.result
    ≡ count_by is_file (texts c.unwrap_or-names.result.now) =
    omega (arith, all-counted c.unwrap_or-names.result.now, dashes) in
    let file = c.file_among.ensures ∙ ap (find is_file) names in
    let every = go (one_text (found_of c.args.found.now) (codes "every")) refl
    ∙ ap (option_and_then counted_argument) (one_text-rows (found_of c.args.found.now) (codes "every")) in
    let date = c.get_str.ensures ∙ first_value-rows (found_of _) (codes "date") in
    grind (arith, common_steps)
  where
    go : (o : Option (List ℕ)) → one_text (found_of c.args.found.now) (codes "every") ≡ o
        → c.get_one.result ≡ option_and_then counted_argument o
    go None e = c.get_one.ensures.none e
    go (Some text) e =
        number_read (λ bs r. ParsesUnsigned 32 10 bs r × ExplainsUnsignedError 10 bs r × HasUnsignedDigitsIfOk
        bs r) (λ t r h. h.0) text c.get_one.result (c.get_one.ensures.value text e)
