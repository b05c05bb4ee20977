use Rattle.std.proofs.Common.{◌≡◌, ◌≤◌, ℕ, ◌+◌, List, [], ◌∷◌, ◌++◌, length, take, set, get_or, arith}
use Rattle.std.proofs.lemmas.{Grind.common_steps, List.{length-take-le, length-drop}}
use Rattle.std.proofs.lemmas.Slice.{drop-put_mid}
use lib.Seq.{take-append-add}
use borrow.Rule.Slice.PartMut.{put_mid}
use Rattle.crx_text.proofs.number.obs_print_cell.Goals as goal

-- the first 14 bytes of a part of some bytes
field_written : (bytes part : List ℕ) (at k : ℕ) → length part ≡ 16 → k ≡ 16 → at + 16 ≤ length bytes
    → take (at + 14) (put_mid at k bytes part) ≡ take at bytes ++ take 14 part
field_written bytes part at k long sixteen room = grind (arith, common_steps, take-append-add)

-- that field, and the two bytes after it
cell_written : (bytes part : List ℕ) (at k one two : ℕ) → length part ≡ 16 → k ≡ 16 → at + 16 ≤ length bytes
    → take (at + 14 + 2) (set (set (put_mid at k bytes part) (at + 14) one) (at + 14 + 1) two)
    ≡ take at bytes ++ (take 14 part ++ one ∷ two ∷ [])
cell_written = grind (arith, common_steps, length-take-le, field_written)

pub returns-clause-written : goal.returns-clause-written
returns-clause-written c = grind (arith, common_steps, length-take-le, length-drop, get_or, set, cell_written)

pub returns-clause-rest : goal.returns-clause-rest
returns-clause-rest c = grind (arith, common_steps, drop-put_mid)
