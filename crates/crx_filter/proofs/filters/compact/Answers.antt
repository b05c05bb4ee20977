use Rattle.crx_filter.proofs.Vocabulary.{◌≡◌, [], ap, OpenEpoch, RunState, Written, compaction_state, compacted}
use Rattle.crx_filter.proofs.{Vocabulary.{compaction_filter, Device, ℕ, List, IsResult}, PromisesOfRuns.kept}
use Rattle.crx_filter.proofs.{following.Lawful.compaction-lawful, accounts.ByResults.compaction-keeps}
use Rattle.crx_filter.specs.{CompactionParts.CompactionState, CompactorState.compacting_state}
use Rattle.crx_filter.specs.DirectionParts.{EngineParts}
use Rattle.crx_runs.specs.meaning.{Runs.Runs, Spans.{Input, reader_span, span}}
use Rattle.std.proofs.lemmas.Result.{IfOk-weaker}
use Rattle.crx_filter.proofs.filters.compact.Goals as goal

pub returns : goal.returns
returns g c =
    let choices = c.args.options in
    let input : Input = reader_span g.R.Source c.args.reader.now c.start.new.reader in
    let writer : Device = span g.W.Sink c.args.writer.now c.start.new.writer in
    let messages : Device = span g.M.Sink c.args.messages.now c.start.new.messages in
    let status = c.start.result.status in
    let fault = c.start.result.fault in
    let same : (e : EngineParts CompactionState) → compacting_state e ≡ compaction_state choices []
    → e.options ≡ choices = λ e is. ap (λ (s : RunState OpenEpoch Written). s.choices) is in
    let ran : Runs (λ bytes. compacted bytes choices) (compaction_filter choices) input writer messages status
    fault = c.start.ensures.runs (compaction_filter choices) (compaction-lawful choices)
    (IfOk-weaker c.new.result _ (λ (e : EngineParts CompactionState). compaction_filter e.options ≡
    compaction_filter choices) (λ e is. ap compaction_filter (same e is)) c.new.ensures.state) in
    let keeps = λ (file : List ℕ) (is : IsResult (compacted file choices) writer messages status fault).
    compaction-keeps (λ whole. IsResult whole writer messages status fault) choices file is in
    record {
      runs = ran;
      units = kept ran (λ file is. (keeps file is).units);
      canonical = kept ran (λ file is. (keeps file is).canonical);
      written = kept ran (λ file is. is.output);
      accounted = kept ran (λ file is. (keeps file is).accounted);
      left_out = kept ran (λ file is. (keeps file is).left_out);
      blocks = kept ran (λ file is. (keeps file is).blocks);
    }

pub start-requires-clause-lawful : goal.start-requires-clause-lawful
start-requires-clause-lawful g c =
    IfOk-weaker c.new.result _ _ (λ e is. compaction-lawful (compacting_state e).choices) c.new.ensures.state
