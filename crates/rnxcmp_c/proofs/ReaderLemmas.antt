-- A reader's run has ended like the whole run of its input.
use Rattle.std.proofs.{lemmas.Grind.common_steps}
use Rattle.rnxcmp_c.proofs.Vocabulary.{◌≡◌, ◌⊎◌, inl, inr, ⊎_elim, ℕ, List, ◌++◌, Some, None, refl, ◌≤◌, ◌+◌}
use Rattle.rnxcmp_c.proofs.Vocabulary.{◌∷◌, []}
use Rattle.rnxcmp_c.proofs.Vocabulary.{ap, arith, length, append-nil, append_assoc, length-append, InputLine}
use Rattle.rnxcmp_c.proofs.{GoingLemmas.early-weaker, Vocabulary.lines_of}
use Rattle.rnxcmp_c.proofs.Vocabulary.{INPUT_LIMIT, At, InputTooLong, IsLawful, Filter, with_next, Begins}
use Rattle.rnxcmp_c.proofs.Vocabulary.{with_one_more}
use Rattle.rnxcmp_c.proofs.Vocabulary.{Course, check-lawful, compaction-lawful, expansion-lawful, Outcome, IsAll}
use Rattle.rnxcmp_c.proofs.Vocabulary.{Stop, Fault, Limit, result_of_course, FilterResult, BothTexts}
use Rattle.rnxcmp_c.proofs.Vocabulary.{StopsWhenFull}
use Rattle.rnxcmp_c.proofs.Vocabulary.{engine_filter, has_ended_of, run_for, limit_for, result_for, Task, Compact}
use Rattle.rnxcmp_c.proofs.Vocabulary.{Expand, Check, filter_for, AnyEngine, HandleState, ended_lines_of}
use Rattle.rnxcmp_c.specs.Going.{IsSoFar, FailsIn, IsLastLine, RunIsStopped, StopsAs, StopsEarly}
use Rattle.rnxcmp_c.specs.Handles.{EndsRunBy, EndsWithin, IsOf, IsPut, status_at_end}

pub filter-is : (task : Task) (engine : AnyEngine) → IsOf task engine → engine_filter engine ≡ filter_for task
filter-is = grind arith

pub lawful-for : (task : Task) → IsLawful (filter_for task)
lawful-for (Compact choices limit) = compaction-lawful choices
lawful-for (Expand choices limit) = expansion-lawful choices
lawful-for Check = check-lawful

-- the output of a result is the filter's
pub output-for : (task : Task) (input : List ℕ) → (result_for task input).output ≡ ((filter_for task).whole
    (lines_of input)).output
output-for = grind arith

-- the result of an input with a fault
failed-for : (task : Task) (input : List ℕ) (at : At) → ((filter_for task).whole
    (lines_of input)).fault ≡ Some at
    → result_of_course ((filter_for task).whole (lines_of input)) ≡ result_for task input
failed-for = grind (arith, common_steps)

-- a run that has ended with one of some results has ended with one of more results
pub ended-as : {P Q : FilterResult
    → Type 0} {limit : ℕ} {held : HandleState} {taken : BothTexts} {outcome : Outcome}
    → EndsWithin limit P held taken outcome → ((result : FilterResult) → P result → Q result)
    → EndsWithin limit Q held taken outcome
ended-as = grind arith

same-failures : (mid held : HandleState) (outcome : Outcome) (stop : Stop) → EndsRunBy mid held outcome stop
    → (held.output.failures ≡ mid.output.failures) × (held.messages.failures ≡ mid.messages.failures)
same-failures = grind arith

module _ {mid held : HandleState} {taken : BothTexts} {outcome : Outcome} where
  -- the reason of a run's end gives its outcome, after the message of a fault was added
  pub put-ends : {P : FilterResult → Type 0} {limit : ℕ} (stop : Stop) → StopsAs limit P mid taken stop
      → EndsRunBy mid held outcome stop → EndsWithin limit P held taken outcome
  put-ends (Fault at) stopped put = grind (arith, common_steps, append_assoc, put, stopped)
  put-ends Limit stopped (said, same) = grind (arith, common_steps, append-nil, stopped)

  -- it has the result of the input, or stopped early
  pub stops-over : (task : Task) (is_line : ℕ → Type 0) (input : List ℕ) (stop : Stop)
      → RunIsStopped is_line (run_for task) input mid taken stop → EndsRunBy mid held outcome stop
      → EndsWithin (limit_for task) (λ result. ((result ≡ result_for task input) × (result.status ≡ 1))
      ⊎ StopsEarly is_line (run_for task) input held result) held taken outcome
  stops-over task is_line input stop stopped put = ended-as (put-ends stop stopped put) (λ result is.
      ⊎_elim (λ (fails : FailsIn (filter_for task) input result). inl (grind (
        arith,
        failed-for task input fails.at fails.fault,
        fails.result_is,
        fails.fault,
      )))
      (λ early. let same = same-failures mid held outcome stop put in
      inr (early-weaker (λ n at. at) same.0 same.1 early))
      is)

  -- a byte above the input's limit ended it
  pub passed-over : (task : Task) (fed : List ℕ) → IsSoFar (run_for task) mid taken (ended_lines_of fed)
      → length fed ≡ INPUT_LIMIT → IsPut mid held (record { line = mid.number + 1; fault = InputTooLong })
      outcome
      → EndsWithin (limit_for task) (StopsWhenFull (run_for task) fed) held taken outcome
  passed-over task fed is full put =
      let course : Course = (filter_for task).so_far (ended_lines_of fed) in
      put-ends (Fault (record { line = mid.number + 1; fault = InputTooLong })) (record {
        result = result_of_course (record {
          output = course.output;
          warnings = course.warnings;
          fault = Some (record { line = mid.number + 1; fault = InputTooLong });
        });
        is = record { full = full; good = is.good; result_is = rw is.number refl };
        status = refl;
        fault = refl;
        output = is.text.wrote;
        messages = rw is.text.reported refl;
        within = λ limited. omega (arith, is.left limited);
      }) put

-- the good end of an input
pub all-over : (task : Task) (held : HandleState) (fed : List ℕ) (taken : BothTexts) (outcome : Outcome)
    (then : AnyEngine)
    → IsOf task then → has_ended_of then (lines_of fed) → IsAll (run_for task) held fed taken
    → outcome ≡ record { status = status_at_end then held.warned; fault = None }
    → EndsWithin (limit_for task) (λ result. (result ≡ result_for task fed)
    ⊎ StopsEarly (IsLastLine fed) (run_for task) fed held result) held taken outcome
all-over task held fed taken outcome then is_of ended all status = record {
  ended = record {
    result = result_for task fed;
    is = inl refl;
    ends = inl (grind (arith, common_steps, append-nil));
  };
  few = grind (arith, all.within, all.text);
}

-- ---- prefixes

pub length-begins : (text first : List ℕ) → Begins text first → length first ≤ length text
length-begins text first begins = omega (arith, ap length begins.same, length-append first begins.rest)

-- the output of some lines and the next one, or the end, is a prefix of the output of all lines
pub one_more-first : (filter : Filter) → IsLawful filter → (lines others : List InputLine)
    → Begins (filter.whole (lines ++ others)).output (with_one_more filter lines others).output
one_more-first filter lawful lines [] = grind (arith, common_steps, append-nil)
one_more-first filter lawful lines (line ∷ others) =
    rw (← (append_assoc lines (line ∷ []) others)) (lawful.goes_on (with_next lines line) others)
