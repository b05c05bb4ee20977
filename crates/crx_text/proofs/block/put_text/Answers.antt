use Rattle.std.proofs.{Common.{◌≡◌, ◌≤◌, ℕ, ◌+◌, ◌-◌, List, length, drop, arith}, lemmas.Grind.common_steps}
use Rattle.std.proofs.lemmas.Slice.{drop-put_mid}
use borrow.Rule.Slice.PartMut.{put_mid}
use Rattle.crx_text.proofs.block.put_text.Goals as goal

rest : (bytes part text : List ℕ) (start : ℕ) → part ≡ text → start + length text ≤ length bytes
    → drop (start + length text) (put_mid start (start + length text - start) bytes part)
    ≡ drop (start + length text) bytes
rest bytes part text start is room = grind (arith, common_steps, drop-put_mid)

pub returns-clause-rest : goal.returns-clause-rest
returns-clause-rest c = grind (arith, common_steps, rest)
