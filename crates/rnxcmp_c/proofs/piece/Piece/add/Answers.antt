use Rattle.rnxcmp_c.proofs.Vocabulary.{ℕ, ◌≡◌, ◌+◌, ◌-◌, ◌++◌, List, length, take, sym, ap, ◌∙◌, arith}
use Rattle.rnxcmp_c.proofs.{PieceLemmas.first-allowed, Vocabulary.{take-append-add, LINE_ROOM}}
use Rattle.std.proofs.Common.{vec_len}
use Rattle.rnxcmp_c.proofs.piece.Piece.add.Goals as goal

pub returns : goal.returns
returns c =
    let kept = c.args.self.now.bytes.items in
    let bytes = c.args.bytes.now in
    let room : ℕ = LINE_ROOM - vec_len c.args.self.now.bytes in
    let whole : length kept + room ≡ LINE_ROOM = omega (arith, c.args.self.now.within) in
    c.in-Ok.ensures.items ∙ ap (λ (l : List ℕ). kept ++ l) (first-allowed bytes room _
    (rw c.len.ensures at c.min-count.ensures)) ∙ sym (take-append-add kept bytes room)
    ∙ ap (λ n. take n (kept ++ bytes)) whole
