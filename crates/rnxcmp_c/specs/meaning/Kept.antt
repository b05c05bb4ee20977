-- The promises of a task for its input, by the results for which `holds` is true.
use Rattle.std.specs.Prelude.{ℕ, List, ⊤}
use Rattle.crx_filter.specs.meaning.ByResults.{CompactionKeeps, ExpansionKeeps}
use Rattle.crx_runs.specs.meaning.Results.{FilterResult}
use Rattle.rnxcmp_c.specs.meaning.Handles.{Task, Compact, Expand, Check}

-- a compaction and an expansion; a check has its own promises
abbrev pub TaskKeeps : Task → (FilterResult → Type 0) → List ℕ → Type 0
TaskKeeps (Compact choices limit) holds input = CompactionKeeps holds choices input
TaskKeeps (Expand choices limit) holds input = ExpansionKeeps holds choices.skip input
TaskKeeps Check holds input = ⊤
