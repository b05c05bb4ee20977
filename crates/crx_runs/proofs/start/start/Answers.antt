use Rattle.std.proofs.Common.{arith, refl, ◌≡◌, ℕ, false, true, Option, Some, is_some, Result}
use Rattle.std.{proofs.Common.{Ok, Err, OnErr}, specs.Prelude.⊤}
use Rattle.crx_base.specs.declared.fault.{At.At}
use Rattle.crx_runs.specs.Endings.{Finishes}
use Rattle.crx_runs.specs.declared.one_line.Halt.{TheVariants.Fault as Stopped}
use Rattle.crx_runs.specs.meaning.Spans.{Device}
use Rattle.crx_runs.proofs.{Conclusions.runs-nothing, DeviceSpans.span-joins}
use Rattle.crx_runs.specs.meaning.{Filters.Filter, Spans.{reader_span}}
use Rattle.crx_runs.proofs.start.start.Goals as goal
use Rattle.std.proofs.lemmas.Grind.{common_steps}

-- A statement about every result holds for an error.
after-error : {A B P : Type 0} (result : Result A B) → P → OnErr result P
after-error (Ok answer) is = tt
after-error (Err error) is = is

-- The fault at which a run stopped is the fault of its outcome.
stays-fault : (writer messages : Device) (status : ℕ) (fault : Option At) (at : At)
    → Finishes writer messages 0 false (Some (Stopped at)) status fault → is_some fault ≡ true
stays-fault writer messages status fault at h = grind arith

pub returns-in-Err-open-clause-runs : goal.returns-in-Err-open-clause-runs
returns-in-Err-open-clause-runs g c =
    λ (filter : Filter) lawful same.
    let r = c.args.reader.now in
    let ran = runs-nothing filter lawful (reader_span g.R.Source r r)
    (span-joins g.W.Sink g.met.W.Sink.took_both) (span-joins g.M.Sink g.met.M.Sink.took_both) (λ lines. ⊤)
    c.finish_without_memory.result.status c.finish_without_memory.result.fault (g.met.R.Source.gave_none r) refl
    (g.met.W.Sink.took_none _, refl) (g.met.M.Sink.took_none _, refl) c.finish_without_memory.ensures.finished in
    (ran.0, ran.1, ran.2)

pub returns-in-Err : goal.returns-in-Err
returns-in-Err g c = record {
  runs = λ (filter : Filter) lawful same.
      let r = c.args.reader.now in
      let ran = runs-nothing filter lawful (reader_span g.R.Source r r)
      (span-joins g.W.Sink g.met.W.Sink.took_both) (span-joins g.M.Sink g.met.M.Sink.took_both) (λ lines. ⊤)
      c.finish_without_memory-in-Err.result.status c.finish_without_memory-in-Err.result.fault (g.met.R.Source.gave_none r) refl
      (g.met.W.Sink.took_none _, refl) (g.met.M.Sink.took_none _, refl) c.finish_without_memory-in-Err.ensures.finished in
      (ran.0, ran.1, ran.2);
  memory = grind (arith, common_steps, after-error, stays-fault);
}
