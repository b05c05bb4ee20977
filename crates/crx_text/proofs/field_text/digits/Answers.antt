use Rattle.std.proofs.Common.{◌≡◌, ℕ, ◌-◌, ◌*◌, ◌/◌, ◌%◌, ◌^◌, [], ◌∷◌, refl, ap, ◌∙◌, arith}
use lib.Lanes.{digits_l, number_l}
use Rattle.crx_text.proofs.GroupHalves.{groups_are, halves_are, halves_of, lanes_of, wide_are}
use Rattle.crx_text.proofs.PrintedLanes.{digits_of_words, words_of}
use Rattle.crx_text.proofs.field_text.digits.Goals as goal

pub returns : goal.returns
returns c =
    let size = c.args.size in
    let high : ℕ = size / 10 ^ 6 in
    let low : ℕ = size - c.from.result * 10 ^ 6 in
    let rest : low ≡ size % 10 ^ 6 = omega (arith, c.from.ensures) in
    ap (λ g. digits_l 256 16 (number_l (2 ^ 32) (words_of g))) (ap (λ v. lanes_of (halves_of v))
    (wide_are high low (omega (arith, c.requires)) (omega (arith, rest))) ∙ ap lanes_of
    (halves_are (high ∷ low ∷ []) refl (omega (arith, c.requires), (omega (arith, rest), tt))) ∙ groups_are
    size high low c.requires refl rest) ∙ digits_of_words
    (size / 10 ^ 6 % 1000 ∷ size / 10 ^ 9 ∷ size % 1000 ∷ size / 1000 % 1000 ∷ []) refl
    (omega arith, (omega (arith, c.requires), (omega arith, (omega arith, tt))))
