-- A check as a filter: a fault of the lines so far is the fault of all lines.
use Rattle.crx_filter.proofs.Vocabulary.{◌≡◌, false, [], map, Some, refl, map-append, as_read, IsLawful}
use Rattle.crx_filter.proofs.Vocabulary.{findings_of, check_filter, common_steps, arith, ℕ, List}
use Rattle.crx_filter.proofs.Vocabulary.{Option, None, At, Device, append-nil, lines_of, checked, whole_of}
use Rattle.crx_filter.proofs.reading.{ReadingFaults.{rinex-found, rinex-found-at-end}, StaysEnded.rinex-stays}
use Rattle.crx_filter.specs.meaning.{Standard.report_status}
use Rattle.crx_runs.specs.{Runs.result_by, meaning.{Runs.RunsAs, Spans.Input}}

pub check-lawful : IsLawful check_filter
check-lawful = record {
  nothing = refl;
  decided = λ lines more at e. grind (
    arith,
    map-append as_read lines more,
    rinex-stays false (map as_read lines) (map as_read more) at e,
  );
  grows = λ lines more. record { rest = []; same = refl };
  goes_on = grind (arith, common_steps);
  found = λ lines at e. rinex-found false (map as_read lines) at e;
  found_at_end = λ lines at e. rinex-found-at-end false (map as_read lines) at e;
}

-- a run of the filter is a check once its status is judged: by its findings without a fault; otherwise the status is
-- unchanged
module _ (writer messages : Device) (status judged : ℕ) (fault : Option At)
    (bad : (at : At) → fault ≡ Some at → judged ≡ status) where
  pub run-judged : (input : Input) (given : List ℕ) → (fault ≡ None → judged ≡ report_status
      (findings_of (lines_of given)).not_standard) → RunsAs (result_by check_filter) check_filter input given
      writer messages status fault → RunsAs checked check_filter input given writer messages judged fault
  run-judged input given good ran =
      grind (arith, common_steps, whole_of, findings_of, lines_of, report_status, append-nil)
