-- Cells that are written or printed place by place.
use Rattle.crx_compact.proofs.Vocabulary.{◌≡◌, ◌<◌, ℕ, suc, ◌+◌, ℤ, List, [], ◌∷◌, ◌++◌, length, slice_index_or}
use Rattle.crx_compact.proofs.Vocabulary.{Option, None, refl, ◌*◌, drop, replicate, take, ◌∙◌, arith, columns, at}
use Rattle.crx_compact.proofs.Vocabulary.{length-columns}
use Rattle.std.proofs.{Common.{add-one, append_assoc, drop-cons}, lemmas.List.get_or-take}
use Rattle.crx_text.specs.{meaning.PrintedCells.printed_cells, meaning.Numbers.observation_text}

pub from-place : {X : Type 0} (d : X) (k : ℕ) (xs : List X)
    → k < length xs → drop k xs ≡ slice_index_or xs k d ∷ drop (k + 1) xs
from-place d k xs h = rw add-one (drop-cons xs k d h)

pub at-take : (n : ℕ) (text : List ℕ) (p : ℕ) → p < n → at (take n text) p ≡ at text p
at-take n text p h = get_or-take n text p 32 h

pub at-padded : (k : ℕ) (text : List ℕ) (p : ℕ) → at (text ++ replicate k 32) p ≡ at text p
at-padded (suc k) [] (suc p) = at-padded k [] p
at-padded k (c ∷ cs) (suc p) = at-padded k cs p
at-padded k text p = refl

at-columns : (flags : List ℕ) (count p : ℕ) → p < count → at (columns flags 1 count) p ≡ at flags p
at-columns flags count p h = at-take count (flags ++ replicate count 32) p h ∙ at-padded count flags p

pub print-next : (values : List (Option ℤ)) (flags : List ℕ) (n k : ℕ) → length values ≡ n → k < n
    → printed_cells (drop k values) (drop (2 * k) (columns flags 1 (2 * n)))
    ≡ (observation_text (slice_index_or values k None) ++ at flags (2 * k) ∷ at flags (2 * k + 1) ∷ [])
    ++ printed_cells (drop (k + 1) values) (drop (2 * (k + 1)) (columns flags 1 (2 * n)))
print-next values flags n k count h =
    let all = columns flags 1 (2 * n) in
    let long = length-columns flags 1 (2 * n) in
    let third : 2 * k + 1 + 1 ≡ 2 * (k + 1) = omega arith in
    cc (
      from-place None k values (omega (arith, count, h)),
      from-place 32 (2 * k) all (omega (arith, long, h)),
      from-place 32 (2 * k + 1) all (omega (arith, long, h)),
      at-columns flags (2 * n) (2 * k) (omega (arith, h)),
      at-columns flags (2 * n) (2 * k + 1) (omega (arith, h)),
    )

-- the remaining cells complete a text, and still do after the next one
pub print-on : (values : List (Option ℤ)) (flags before text whole : List ℕ) (n k : ℕ) → length values ≡ n
    → k < n
    → text ≡ before ++ (observation_text (slice_index_or values k None)
    ++ at flags (2 * k) ∷ at flags (2 * k + 1) ∷ [])
    → before ++ printed_cells (drop k values) (drop (2 * k) (columns flags 1 (2 * n))) ≡ whole
    → text ++ printed_cells (drop (k + 1) values) (drop (2 * (k + 1)) (columns flags 1 (2 * n))) ≡ whole
print-on values flags before text whole n k count h made left = grind (arith, append_assoc, print-next)
