-- Texts that are written into bytes after others.
use Rattle.std.proofs.{Common.{sym, ◌∙◌, ap, arith, append_assoc}, Math.Seq.take-append-add}
use Rattle.std.proofs.lemmas.{Grind.common_steps, List.{drop-take, take-take, take_more_set}}
use Rattle.std.{proofs.lemmas.List.{length-append, length-take-le}, specs.Prelude.{◌≡◌, ◌≤◌, ◌<◌, ℕ, ◌+◌}}
use Rattle.std.specs.Prelude.{◌-◌, List, [], ◌∷◌, ◌++◌, length, set, take, drop}
use Rattle.crx_text.{proofs.EndBlanks.{few_kept, take_kept}, specs.meaning.Columns.without_end_blanks}

-- ---- a line of cells and marks

-- the bytes written from an index on, and the line that they make
pub record LineWritten (bytes old cells marks : List ℕ) (at end : ℕ) : Type 0 where
  pub state : take (end - at) (drop at bytes) ≡ cells ++ marks
  pub is : take (at + length (without_end_blanks (cells ++ marks))) bytes
      ≡ take at old ++ without_end_blanks (cells ++ marks)
  pub within : at + length (without_end_blanks (cells ++ marks)) ≤ end

pub line-written : (bytes old cells marks : List ℕ) (at end : ℕ)
    → take end bytes ≡ (take at old ++ cells) ++ marks → end ≤ length bytes → at ≤ length old
    → LineWritten bytes old cells marks at end
line-written bytes old cells marks at end written long room =
    let whole = cells ++ marks in
    let kept = without_end_blanks whole in
    let together = written ∙ append_assoc _ cells marks in
    let before = length-take-le at old room in
    let all =
    sym (length-take-le end bytes long) ∙ ap length together ∙ length-append (take at old) whole ∙ ap
    (λ n. n + length whole) before in
    let few : length kept ≤ length whole = few_kept whole in
    record {
      state =
          grind (arith, common_steps, whole, together, before, all, drop-take at (end - at) bytes);
      is =
          sym (take-take (at + length kept) end bytes (omega (arith, all, few))) ∙ ap
          (take (at + length kept)) together ∙ ap (λ n. take (n + length kept) (take at old ++ whole))
          (sym before) ∙ take-append-add (take at old) whole (length kept) ∙ ap (λ t. take at old ++ t)
          (take_kept whole);
      within = omega (arith, all, few);
    }

-- ---- a line that was written after others

pub line-ended : (new old line : List ℕ) (at count : ℕ)
    → take (at + count) new ≡ take at old ++ line → at + count < length new
    → take (at + count + 1) (set new (at + count) 10) ≡ take at old ++ (line ++ 10 ∷ [])
line-ended new old line at count written room = grind (arith, common_steps, take_more_set, append_assoc)

pub counted-line : (new old line : List ℕ) (at count : ℕ)
    → take (at + count) new ≡ take at old ++ line → at + count < length new → at ≤ length old
    → count ≡ length line
counted-line new old line at count written room within =
    omega (
      arith,
      (sym (length-take-le _ new (omega (arith, room))) ∙ ap length written ∙ length-append _ line),
      length-take-le at old within,
    )
