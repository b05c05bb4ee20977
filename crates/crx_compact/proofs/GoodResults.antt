-- Good results follow from good results.
use Rattle.crx_compact.proofs.Vocabulary.{◌≡◌, refl, Bool, true, not, List, [], ◌∷◌, ◌++◌, Result, Ok, Err}
use Rattle.crx_compact.proofs.Vocabulary.{Option, Some, IfSome, if◌then◌else◌, is_ok, sym, ap, subst}
use Rattle.crx_compact.proofs.Vocabulary.{true≢false, Fault, and_then, before_all, arith}
use Rattle.std.specs.{Prelude.{OnOk}}

pub no-err : {X : Type 0} (f : Fault) (x : X) → Err f ≡ Ok x → ⊥
no-err f x e = true≢false (sym (ap is_ok e))

-- a good result that follows from another
pub record Follows {X Y : Type 0} (r : Result X Fault) (f : X → Result Y Fault) (y : Y) : Type 0 where
  pub from : X
  pub first : r ≡ Ok from
  pub next : f from ≡ Ok y

pub and_then-ok : {X Y : Type 0} (r : Result X Fault) (f : X → Result Y Fault) (y : Y)
    → and_then r f ≡ Ok y → Follows r f y
and_then-ok r f y e = grind arith

pub if-err : {X : Type 0} (b : Bool) (q : Fault) (r : Result X Fault) (x : X)
    → (if b then Err q else r) ≡ Ok x → r ≡ Ok x
if-err b q r x e = grind arith

pub if-true : {X : Type 0} (b : Bool) (q : Fault) (r : Result X Fault) (x : X)
    → (if not b then Err q else r) ≡ Ok x → b ≡ true
if-true b q r x e = grind arith

-- some items before those of a good result
abbrev pub onto : {X : Type 0} → List X → Result (List X) Fault → Result (List X) Fault
onto [] r = r
onto (x ∷ xs) r = before_all x (onto xs r)

pub onto-ok : {X : Type 0} (xs ys : List X) → onto xs (Ok ys) ≡ Ok (xs ++ ys)
onto-ok [] ys = refl
onto-ok (x ∷ xs) ys = cc (onto-ok xs ys)

pub onto-err : {X : Type 0} (xs : List X) (fault : Fault) → onto xs (Err fault) ≡ Err fault
onto-err [] fault = refl
onto-err (x ∷ xs) fault = cc (onto-err xs fault)

pub onto-more : {X : Type 0} (xs : List X) (x : X) (r : Result (List X) Fault)
    → onto (xs ++ x ∷ []) r ≡ onto xs (before_all x r)
onto-more [] x r = refl
onto-more (y ∷ ys) x r = cc (onto-more ys x r)

-- a statement about good results holds if the result is good
pub by_ok : {T E X : Type 0} (r : Result T E) → is_ok r ≡ true → OnOk r X → X
by_ok r good x = grind arith

-- ---- the same for options

pub from_some : {T : Type 0} (P : T → Type 0) (o : Option T) (x : T) → o ≡ Some x → IfSome o P → P x
from_some P o x is h = subst (λ q. IfSome q P) is h
