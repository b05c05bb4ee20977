use Rattle.std.proofs.Common.{◌≡◌, ◌≤◌, ℕ, List, [], length, drop}
use Rattle.crx_text.specs.meaning.Columns.{without_end_blanks}
use Rattle.crx_text.proofs.text.trim_many.Given as goal

-- only blanks were passed
abbrev pub passed : List ℕ → ℕ → Type 0
passed text end = (end ≤ length text) × (without_end_blanks (drop end text) ≡ [])

abbrev pub invariant-loop-end : goal.invariant-loop-end
invariant-loop-end l = passed l.text l.end

abbrev pub decreases-loop-end : goal.decreases-loop-end
decreases-loop-end l = l.end

abbrev pub invariant-loop-end-2 : goal.invariant-loop-end-2
invariant-loop-end-2 l = passed l.text l.end

abbrev pub decreases-loop-end-2 : goal.decreases-loop-end-2
decreases-loop-end-2 l = l.end
