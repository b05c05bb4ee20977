use Rattle.std.proofs.Common.{ℕ, List, [], ◌∷◌, ◌++◌, refl, map, take, drop, length, arith}
use Rattle.std.specs.Prelude.{codes}
use Rattle.crx_base.specs.meaning.AsRead.{ReadLine, Content}
use Rattle.crx_text.specs.meaning.Numbers.{number_of, size_of}
use Rattle.crx_laws.specs.SmallFiles.{epoch_line_at, header, observed}
use Rattle.crx_laws.proofs.silence.premises.Goals as goal

abbrev of : List (List ℕ) → List ReadLine
of lines = map (λ (line : List ℕ). Content line) lines

abbrev dropped : List ReadLine
dropped = of (epoch_line_at 0 2 ∷ observed (codes "1.000") ∷ observed (codes "1.000") ∷ [])

abbrev epoch : List ReadLine
epoch = of (epoch_line_at 1 1 ∷ observed (codes "2.000") ∷ [])

abbrev front : ℕ → List ReadLine
front n = take n (of header)

abbrev one : ℕ → List ReadLine
one n = take 1 (drop n (of header))

pub returns-clause-left_out : goal.returns-clause-left_out
unfolding size_of number_of
returns-clause-left_out c = (
  of header ++ dropped,
  epoch,
  of header,
  refl,
  refl,
  refl,
  (
    of header,
    dropped,
    of header,
    refl,
    refl,
    (omega arith, omega arith, refl),
    (
      front 2,
      one 2,
      front 2,
      refl,
      refl,
      refl,
      (
        front 1,
        one 1,
        front 1,
        refl,
        refl,
        refl,
        ([], one 0, [], refl, refl, refl, (refl, refl)),
      ),
    ),
  ),
)
