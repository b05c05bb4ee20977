use Rattle.crx_filter.proofs.Vocabulary.{◌≡◌, common_steps, arith, check_filter}
use Rattle.crx_filter.proofs.Vocabulary.{checked, Device, At, None, Some, ap}
use Rattle.crx_filter.proofs.Vocabulary.{◌∙◌, true≢false}
use Rattle.crx_filter.proofs.{PromisesOfRuns.{kept, judges-standard}, following.CheckLawful.{check-lawful, run-judged}}
use Rattle.crx_filter.{proofs.standard.Lossless.says-so, specs.meaning.Standard.report_status}
use Rattle.crx_runs.specs.meaning.{Runs.{Runs}, Spans.{Input, reader_span, span}}
use Rattle.crx_filter.proofs.checks.check.Goals.{in-None-None, in-None-Some, in-Some-default}
use Rattle.std.proofs.Common.{Option, is_some, refl, sym, ℕ, true, false, []}
use Rattle.std.specs.Prelude.{⊤}
use Rattle.crx_base.specs.declared.fault.Fault.TheVariants.{OutOfMemory}
use Rattle.crx_runs.proofs.{Conclusions.runs-nothing, DeviceSpans.{Joins, span-joins}}
use Rattle.crx_runs.specs.{Endings.Finishes, meaning.Spans.TookAll}
use Rattle.crx_runs.specs.declared.one_line.Halt.TheVariants as halts
use Rattle.crx_filter.proofs.checks.check.Goals as goal

pub run-status-requires-clause-lawful : goal.run-status-requires-clause-lawful
run-status-requires-clause-lawful g c = check-lawful

pub returns-after-fault : goal.returns-after-fault
returns-after-fault g c =
    let ran = c.run-status.ensures.runs in
    let input : Input = reader_span g.R.Source c.args.reader.now c.run-status.new.reader in
    let writer : Device = span g.W.Sink c.args.writer.now c.run-status.new.writer in
    let messages : Device = span g.M.Sink c.args.messages.now c.run-status.new.messages in
    let fault = c.run-status.result.fault in
    let status = c.match-fault.status in
    let judged : (fault ≡ None → status ≡ report_status c.not_standard.result)
    × ((at : At) → fault ≡ Some at → status ≡ c.run-status.result.status) = elim c.match-fault.branch [
      | in-None-None w ↦ grind (arith, common_steps)
      | in-None-Some w ↦ grind (arith, common_steps)
      | in-Some-default w ↦ grind (arith, common_steps)
    ] in
    let is : Runs checked check_filter input writer messages status fault = (
      ran.0,
      ran.1,
      run-judged writer messages c.run-status.result.status status fault judged.1 input ran.0
          (λ none. judged.0 none ∙ ap report_status (c.not_standard.ensures.value ∙ (rw (c.engine.ensures.engine) (ran.3 none)))) ran.2,
    ) in
    record {
      runs = is;
      lossless = kept is (says-so writer messages status fault);
      standard = kept is (judges-standard writer messages status fault);
      written = kept is (λ file result. result.output);
    }

pub run-status-requires-clause-drained : goal.run-status-requires-clause-drained
run-status-requires-clause-drained g c = rw (c.over-begun.ensures.value) c.in-Ok.ensures.drained

-- a run to which memory was refused reads and writes nothing, and is judged like any run that a fault ended
refused-runs : {input : Input} {writer1 writer2 writer messages1 messages2 messages : Device} (w : Joins writer1 writer2 writer)
    (m : Joins messages1 messages2 messages) (status : ℕ) (fault : Option At) → input.gave [] → input.counted ≡ input.start
    → TookAll writer1 [] → TookAll messages1 [] → Finishes writer2 messages2 0 false
    (Some (halts.Fault (record { line = 0; fault = OutOfMemory }))) status fault
    → Runs checked check_filter input writer messages status fault
refused-runs {input} {writer = writer} {messages = messages} w m status fault gave counts wrote reported finished =
    let ran = runs-nothing check_filter check-lawful input w m (λ lines. ⊤) status fault gave counts wrote reported finished in
    let some : is_some fault ≡ true = grind arith in (
      ran.0,
      ran.1,
      run-judged writer messages status status fault (λ at is. refl) input ran.0
          (λ none. absurd (true≢false (sym some ∙ ap is_some none))) ran.2,
    )

pub returns-in-Err-open : goal.returns-in-Err-open
returns-in-Err-open g c =
    let r = c.args.reader.now in
    let input : Input = reader_span g.R.Source r r in
    let writer : Device = span g.W.Sink c.args.writer.now c.finish_without_memory.new.writer in
    let messages : Device = span g.M.Sink c.args.messages.now c.finish_without_memory.new.messages in
    let status = c.finish_without_memory.result.status in
    let fault = c.finish_without_memory.result.fault in
    let is : Runs checked check_filter input writer messages status fault = refused-runs
    (span-joins g.W.Sink g.met.W.Sink.took_both) (span-joins g.M.Sink g.met.M.Sink.took_both) status fault
    (g.met.R.Source.gave_none r) refl (g.met.W.Sink.took_none _, refl) (g.met.M.Sink.took_none _, refl)
    c.finish_without_memory.ensures.finished in
    record {
      runs = is;
      lossless = kept is (says-so writer messages status fault);
      standard = kept is (judges-standard writer messages status fault);
      written = kept is (λ file result. result.output);
    }

pub returns-in-Err : goal.returns-in-Err
returns-in-Err g c = grind (arith, common_steps, true≢false)
