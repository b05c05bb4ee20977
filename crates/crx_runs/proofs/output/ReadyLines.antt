-- Lines that are written one after another, each with LF.
use Rattle.std.proofs.Common.{◌≡◌, ℕ, List, [], ◌∷◌, ◌++◌, take, drop, Some, sym, ap, ◌∙◌}
use Rattle.std.proofs.{Common.{arith, append_assoc, length-append}, Math.Seq.take-append-add}
use Rattle.std.{proofs.lemmas.List.take-append-le, specs.Prelude.slice_get}
use Rattle.crx_base.specs.meaning.Lines.{lines_text}
use Rattle.crx_runs.{proofs.DeviceSpans.Joins, specs.meaning.Spans.{Device, TookAll, TookPart}}
use Rattle.std.proofs.lemmas.Grind.{common_steps}

-- the first of some lines, and the rest
pub first-and-rest : (lines : List (List ℕ)) (line : List ℕ)
    → Some line ≡ slice_get lines 0 → lines ≡ line ∷ drop 1 lines
first-and-rest = grind arith

-- the text that is left after a line and its LF
pub one-written : (all written line : List ℕ) (lines : List (List ℕ)) → all ≡ written ++ lines_text lines
    → lines ≡ line ∷ drop 1 lines → all ≡ (written ++ line ++ 10 ∷ []) ++ lines_text (drop 1 lines)
one-written all written line lines whole is = whole ∙ ap (λ ls. written ++ lines_text ls) is ∙ sym
    (append_assoc written _ _) ∙ ap (λ t. t ++ lines_text (drop 1 lines)) (sym (append_assoc written line _))

-- a part of a text, after the text written before it
pub part-after : {first second both : Device} → Joins first second both → (written text rest all : List ℕ)
    → all ≡ written ++ (text ++ rest) → TookAll first written → TookPart second text → TookPart both all
part-after {both = both} j written text rest all whole a b =
    let n = b.0.0 in
    let front = ap (take _) whole ∙ take-append-add written _ n ∙ ap (λ (t : List ℕ). written ++ t)
    (take-append-le n text rest (omega (arith, b.0.1))) in grind (arith, common_steps, n, length-append)
