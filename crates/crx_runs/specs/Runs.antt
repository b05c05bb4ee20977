-- The result of a whole run, for code and proofs.
use Rattle.std.specs.Prelude.{ℕ, List}
use Rattle.crx_base.specs.meaning.Lines.{lines_of}
use Rattle.crx_runs.specs.meaning.Filters.{Filter}
use Rattle.crx_runs.specs.meaning.Results.{FilterResult, result_of_course}

-- ---- the whole run

-- the result of a filter for an input
abbrev pub result_by : Filter → List ℕ → FilterResult
result_by filter input = result_of_course (filter.whole (lines_of input))
