-- The largest output of an expansion.
use Rattle.std.specs.Prelude.{ℕ, ◌≤◌, ◌+◌, ◌*◌, List, length}
use Rattle.crx_base.specs.declared.limits.TheConstants.{NAME_WIDTH, CELL_WIDTH, TYPES_LIMIT}
use Rattle.crx_base.specs.meaning.Choices.{Choices}
use Rattle.crx_filter.specs.meaning.Expanded.{expanded}

-- the longest line of an epoch in RINEX with its LF: an identifier, and a cell for each type that a system may have. In
-- compact text a line of one byte, its LF, can stand for it
abbrev pub most_for_a_byte : ℕ
most_for_a_byte = NAME_WIDTH + CELL_WIDTH * TYPES_LIMIT + 1

-- an expansion is at most `most_for_a_byte` times as long as the compact text
abbrev pub IsWithinSize : List ℕ → Choices → Type 0
IsWithinSize text choices = length (expanded text choices).output ≤ most_for_a_byte * length text
