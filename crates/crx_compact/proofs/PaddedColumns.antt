-- Texts in columns, with blanks after them.
use Rattle.crx_compact.proofs.Vocabulary.{ℕ, ◌≡◌, ◌+◌, ◌-◌, ◌≤◌, List, ◌++◌, length, replicate, arith}
use Rattle.crx_compact.proofs.Vocabulary.{left_justified, take-append-add}
use Rattle.std.proofs.lemmas.List.{take-replicate}

pub left_justified-is : (width : ℕ) (text : List ℕ)
    → length text ≤ width → text ++ replicate (width - length text) 32 ≡ left_justified width text
left_justified-is width text fits =
    let all : width ≡ length text + (width - length text) = omega arith in
    let blanks = take-replicate {X = ℕ} (width - length text) width 32 (omega arith) in
    cc (take-append-add text (replicate width 32) (width - length text))
