use Rattle.std.proofs.lemmas.Grind.{common_steps}
use Rattle.std.proofs.Common.{◌≡◌, ◌≤◌, ◌-◌, ◌+◌, ℕ, ℤ, pos, zero, suc}
use Rattle.std.proofs.Common.{Bool, true, false, if◌then◌else◌, Some}
use Rattle.std.proofs.Common.{List, ◌∷◌, ◌++◌, length, replicate, w64, arith}
use Rattle.std.proofs.{Common.{rules, ap, sym, refl, ◌∙◌}, lemmas.{Int.to_z-of_z}}
use Rattle.std.proofs.lemmas.List.{drop_at, length-replicate, length-take-le, take-append-le, take-replicate}
use Rattle.std.proofs.lemmas.List.{take_all, take_at}
use Rattle.std.specs.Int.Signed.{lt_z}
use lib.IntN.{nat_abs}
use Rattle.crx_text.proofs.Spellings.{abs_within, printed_number}
use Rattle.crx_text.specs.meaning.Numbers.{number_text, size_text}
use Rattle.crx_text.proofs.number.obs_print_row.Goals as goal

pub overflow_cast-size : goal.overflow_cast-size
overflow_cast-size c =
    let size_is = c.unsigned_abs-size.ensures.value ∙ ap nat_abs
    (to_z-of_z w64 c.in-Some.number (search rules)) in
    let small = abs_within 14 c.in-Some.number (c.requires.in_range c.in-Some.number c.in-Some.is) in
    omega (arith, size_is, small)

pub returns-then-size-ge1000000 : goal.returns-then-size-ge1000000
returns-then-size-ge1000000 c =
    let field = c.number_print.new.field in
    let cut = length-take-le 14 c.args.cell.now (omega (arith, c.requires.width)) in
    let same = c.number_print.auto.field in
    let long : 14 ≤ length field = omega (arith, same, cut) in
    grind (arith, common_steps, field, cut, same, long, take-append-le 14 field, take_all 14 field)

-- a blank after some blanks is one more blank
blank_more : (n : ℕ) (text : List ℕ) → replicate n 32 ++ 32 ∷ text ≡ replicate (suc n) 32 ++ text
blank_more zero text = refl
blank_more (suc n) text = ap (λ t. 32 ∷ t) (blank_more n text)

spelled : (is_below : Bool) (n size : ℕ) (held number : ℤ) → held ≡ number → lt_z held (pos 0) ≡ is_below
    → size ≡ nat_abs held → suc n + length (size_text 3 size) ≡ 14
    → replicate n 32 ++ (if is_below then 45 else 32) ∷ size_text 3 size ≡ number_text 14 3 (Some number)
unfolding number_text
spelled true n size held number is below abs sum = grind (arith, common_steps, nat_abs)
spelled false n size held number is positive abs sum =
    let text = size_text 3 size in
    let blanks = replicate (suc n) 32 in
    let long = length-replicate (suc n) 32 in
    blank_more n text ∙ printed_number 14 3 (suc n) size held number (blanks ++ text) is positive abs sum
    (drop_at blanks text (suc n) long)
    (take_at blanks text (suc n) long ∙ sym (take-replicate (suc n) 14 32 (omega (arith, sum))))

pub returns : goal.returns
returns c =
    let printed = c.size_print in
    let held = to_z-of_z w64 c.in-Some.number (search rules) in
    rw c.in-Some.is (printed.ensures.written ∙ spelled _ (printed.result - 1) _ _ c.in-Some.number held refl
    c.unsigned_abs-size.ensures.value (omega (arith, printed.ensures.start, printed.ensures.room)))
