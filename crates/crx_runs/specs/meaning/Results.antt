-- The output of a run, and how the run ends.
use Rattle.std.specs.Prelude.{ℕ, Bool, true, false, List, [], ◌∷◌, ◌++◌, Option, Some, None, if◌then◌else◌}
use Rattle.std.specs.Prelude.{◌≡◌}
use Rattle.crx_base.specs.declared.fault.At.{At}
use Rattle.crx_runs.specs.meaning.Messages.{notices_text, error_text}
pub use Rattle.crx_base.specs.meaning.Lines.{lines_text}

-- the output and warnings for some lines, and the fault that ends the run, if there is one; the oldest
-- warning is first
pub record Course : Type 0 where
  pub output : List ℕ
  pub warnings : List At
  pub fault : Option At

-- whether there are any warnings
abbrev pub are_some : List At → Bool
are_some [] = false
are_some (at ∷ more) = true

-- 2 if there were warnings, otherwise 0
abbrev pub good_status : Bool → ℕ
good_status warned = if warned then 2 else 0

-- 1 if a fault ended the run, otherwise by the warnings
abbrev pub status_after : List At → Option At → ℕ
status_after warnings None = good_status (are_some warnings)
status_after warnings (Some at) = 1

-- the output and the messages of a run, its status, and the fault that ended it
pub record FilterResult : Type 0 where
  pub output : List ℕ
  pub messages : List ℕ
  pub status : ℕ
  pub fault : Option At

-- the result of a whole course
abbrev pub result_of_course : Course → FilterResult
result_of_course course = record {
  output = course.output;
  messages = notices_text course.warnings ++ error_text course.fault;
  status = status_after course.warnings course.fault;
  fault = course.fault;
}

-- a text begins with another
pub record Begins (text first : List ℕ) : Type 0 where
  pub rest : List ℕ
  pub same : text ≡ first ++ rest
