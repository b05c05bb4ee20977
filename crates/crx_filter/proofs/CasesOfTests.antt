-- Cases by the value of a test.
use Rattle.std.proofs.Common.{◌≡◌, true, false, Bool, refl, Result, Ok, Err}

pub false-true : {X : Type 0} → false ≡ true → X
false-true e = absurd (cc)

pub by_bool : {X : Type 0} (b : Bool) → (b ≡ true → X) → (b ≡ false → X) → X
by_bool true on off = on refl
by_bool false on off = off refl

pub by_result : {A B X : Type 0} (r : Result A B) → ((x : A) → r ≡ Ok x → X) → ((e : B) → r ≡ Err e → X) → X
by_result (Ok x) ok err = ok x refl
by_result (Err e) ok err = err e refl
