use Rattle.crx_filter.proofs.Vocabulary.{◌≡◌, ℕ, List, [], Option, ap, sym, ◌∙◌, OpenRawEpoch, Tail, RunState}
use Rattle.crx_filter.proofs.Vocabulary.{expansion_state, expanded, expansion_filter, Device, IsResult}
use Rattle.crx_filter.proofs.{PromisesOfRuns.{kept, brings-back}, following.Lawful.expansion-lawful}
use Rattle.crx_filter.proofs.{accounts.ByResults.{expansion-keeps, gives-back}, damage.DamageStays.all-saved}
use Rattle.crx_filter.proofs.anywriter.{AnyText.first-units, AcceptedTexts.only-text}
use Rattle.crx_filter.proofs.{stretches.StretchesSaved.rest-kept, wayback.ExpandedStandard.expanded-standard}
use Rattle.crx_filter.specs.{DirectionParts.EngineParts, ExpanderState.expanding_state}
use Rattle.crx_filter.specs.{ExpansionParts.ExpansionState as Expansion}
use Rattle.crx_runs.specs.meaning.{Runs.Runs, Spans.{Input, reader_span, span}}
use Rattle.std.proofs.lemmas.Result.{IfOk-weaker}
use Rattle.crx_filter.proofs.filters.expand.Goals as goal

pub returns : goal.returns
returns g c =
    let choices = c.args.options in
    let input : Input = reader_span g.R.Source c.args.reader.now c.start.new.reader in
    let writer : Device = span g.W.Sink c.args.writer.now c.start.new.writer in
    let messages : Device = span g.M.Sink c.args.messages.now c.start.new.messages in
    let status = c.start.result.status in
    let fault = c.start.result.fault in
    let same : (e : EngineParts Expansion) → expanding_state e ≡ expansion_state choices []
    → e.options ≡ choices = λ e is. ap (λ (s : RunState OpenRawEpoch (Option Tail)). s.choices) is in
    let ran : Runs (λ bytes. expanded bytes choices) (expansion_filter choices) input writer messages status
    fault = c.start.ensures.runs (expansion_filter choices) (expansion-lawful choices)
    (IfOk-weaker c.new.result (λ (e : EngineParts Expansion). expanding_state e ≡ expansion_state choices [])
    (λ (e : EngineParts Expansion). expansion_filter e.options ≡ expansion_filter choices)
    (λ e is. ap expansion_filter (same e is)) c.new.ensures.state) in
    let keeps = λ (text : List ℕ) (is : IsResult (expanded text choices) writer messages status fault).
    expansion-keeps (λ whole. IsResult whole writer messages status fault) choices text is in
    record {
      runs = ran;
      lossless = kept ran (gives-back (λ whole. IsResult whole writer messages status fault) choices);
      units = kept ran (λ text is. (keeps text is).units);
      any_writer = kept ran (λ text is. (keeps text is).any_writer);
      no_other = kept ran (λ text is zero. only-text text choices (sym is.status_is ∙ zero));
      standard = λ good.
          let is = (ran.2.good good).5 in
          (_, is.output, (expanded-standard ran.0 choices (sym is.fault_is ∙ good)).standard);
      way_back = kept ran (brings-back choices writer messages status fault);
      salvage = kept ran (λ text is before s skips damage.
          (_, all-saved before s text choices skips damage, is));
      damage = kept ran (λ text is before stretches skips damage.
          (_, rest-kept before stretches text choices skips damage, is));
      whole_units = kept ran (λ text is units placed begun.
          let begins = first-units units text choices placed begun in
          (begins.rest, rw (← begins.same) is.output));
      written = kept ran (λ text is. is.output);
      accounted = kept ran (λ text is. (keeps text is).accounted);
    }

pub start-requires-clause-lawful : goal.start-requires-clause-lawful
start-requires-clause-lawful g c =
    IfOk-weaker c.new.result _ _ (λ e is. expansion-lawful (expanding_state e).choices) c.new.ensures.state
