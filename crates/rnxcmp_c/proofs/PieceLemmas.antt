-- The bytes kept of a line show whether the whole line is too long, and otherwise are all its bytes.
use Rattle.std.proofs.{Common.min, Math.Nat.min_comm, lemmas.{Bool.cases_lt, List.take_min}}
use Rattle.rnxcmp_c.proofs.Vocabulary.{◌≡◌, ◌⊎◌, ⊎_elim, ℕ, ◌<◌, ◌≤◌, List, length, take}
use Rattle.rnxcmp_c.proofs.Vocabulary.{ap, ◌∙◌, arith, length-take, take_all, LINE_LIMIT, without_return}
use Rattle.rnxcmp_c.proofs.Vocabulary.{LINE_ROOM}
use Rattle.crx_lines.proofs.ReturnLemmas.{length-without_return}

pub none-or : (n : ℕ) → (n ≡ 0) ⊎ (0 < n)
none-or n = grind arith

-- the first of some bytes, as far as there is room
pub first-allowed : (bytes : List ℕ) (room count : ℕ) → count ≡ min (length bytes) room
    → take count bytes ≡ take room bytes
first-allowed bytes room count is = ap (λ n. take n bytes) (is ∙ min_comm _ room) ∙ take_min room bytes

-- if the bytes kept are too long, so is the line
pub long-where_long : (bytes whole : List ℕ) → bytes ≡ take LINE_ROOM whole
    → LINE_LIMIT < length (without_return bytes) → LINE_LIMIT < length (without_return whole)
long-where_long bytes whole kept long =
    ⊎_elim (λ past. omega (arith, past, (length-without_return whole).1))
    (λ within. rw (← (kept ∙ take_all LINE_ROOM whole within)) long) (cases_lt LINE_ROOM (length whole))

-- otherwise they are the whole line
pub whole-where_not_long : (bytes whole : List ℕ) → bytes ≡ take LINE_ROOM whole
    → length (without_return bytes) ≤ LINE_LIMIT → bytes ≡ whole
whole-where_not_long bytes whole kept short =
    let same = ap length kept in
    let most = (length-without_return bytes).1 in
    kept ∙ take_all LINE_ROOM whole (omega (arith, length-take LINE_ROOM whole))
