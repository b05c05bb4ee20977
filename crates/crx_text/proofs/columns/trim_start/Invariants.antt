use Rattle.std.proofs.Common.{◌≡◌, ◌≤◌, length}
use Rattle.crx_text.specs.meaning.Columns.{without_first_blanks}
use Rattle.crx_text.proofs.columns.trim_start.Given as goal

-- the blanks that were passed over are no loss
abbrev pub invariant-loop-rest : goal.invariant-loop-rest
invariant-loop-rest l = (without_first_blanks l.rest ≡ without_first_blanks l.text)
    × (length l.rest ≤ length l.text)

abbrev pub decreases-loop-rest : goal.decreases-loop-rest
decreases-loop-rest l = length l.rest
