-- The two ends of a text, which together are all of it if they meet, and a rule on them.
use Rattle.std.proofs.Common.{ℕ, ◌≡◌, ◌+◌, ◌-◌, ◌≤◌, List, ◌++◌, length, drop, take, arith, ap, ◌∙◌}
use Rattle.std.proofs.lemmas.{Grind.common_steps, List.{length-drop, length-take-le, take_all}}
use Rattle.std.proofs.lemmas.Simd.{length-chunk, length-zip2, pick_l_whole, pick_l-range_with_len}
use Rattle.std.specs.{List.range_with_len, Simd.Lanes.{zip2, chunk, pick_l, put_chunk}}
use Rattle.crx_text.proofs.{CopiedTexts.copied_ends, LaneTexts.{zip2-append, zip2-take, zip2-drop}}

abbrev pub ends : ℕ → List ℕ → List ℕ
ends n text = take n text ++ drop (length text - n) text

pub eight_ends : (text : List ℕ) → 8 ≤ length text
    → pick_l 0 (take 8 text ++ chunk (length text - 8) 8 text) (range_with_len 0 16) ≡ ends 8 text
eight_ends text long =
    let m : ℕ = length text - 8 in
    let loaded : length _ ≡ 16 = grind (arith, common_steps, length-take-le, length-chunk) in
    pick_l_whole 0 _ 16 loaded
    ∙ ap (λ t. take 8 text ++ t) (take_all 8 (drop m text) (omega (arith, length-drop m text)))

-- ---- a rule

-- the lanes of the ends: the first ones stored at the beginning, and then the other ones at the end
pub stored_ends : (f : ℕ → ℕ → ℕ) (n : ℕ) (old other out : List ℕ) → n ≤ length old → length old ≤ n + n
    → length other ≡ length old → length out ≡ length old → (made : List ℕ)
    → made ≡ zip2 f (ends n old) (ends n other)
    → put_chunk (length old - n) (put_chunk 0 out (pick_l 0 (made ++ made) (range_with_len 0 n)))
    (pick_l 0 (made ++ made) (range_with_len n n)) ≡ zip2 f old other
stored_ends f n old other out some few same room made made_is =
    grind (
      arith,
      common_steps,
      length-zip2,
      zip2-append,
      zip2-take,
      zip2-drop,
      pick_l-range_with_len,
      copied_ends,
    )
