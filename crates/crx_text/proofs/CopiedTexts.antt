-- A text copied by its two ends, which may overlap.
use Rattle.std.proofs.{Common.{ℕ, ◌≡◌, ◌+◌, ◌-◌, ◌≤◌, List, length, take, arith}, lemmas.Grind.common_steps}
use Rattle.std.{proofs.lemmas.{List.length-take-le, Simd.put_chunk_is}, specs.Simd.Lanes.{chunk, put_chunk}}

pub copied_ends : (n : ℕ) (from out : List ℕ) → n ≤ length from → length from ≤ n + n
    → length out ≡ length from
    → put_chunk (length from - n) (put_chunk 0 out (take n from)) (chunk (length from - n) n from) ≡ from
copied_ends = grind (arith, common_steps, length-take-le, put_chunk_is)
