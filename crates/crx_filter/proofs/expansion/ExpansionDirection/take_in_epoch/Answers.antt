use Rattle.crx_filter.proofs.steps.ExpansionKnows.{reader-takes}
use Rattle.crx_lines.specs.Reading.{line_shown}
use Rattle.crx_filter.proofs.expansion.ExpansionDirection.take_in_epoch.Goals as goal

pub returns : goal.returns
returns c =
    let read = rw c.padded.ensures.content at c.continue_epoch.ensures.reads in
    rw (← c.self.view_is) (record {
      takes = reader-takes c.self.inside.reader c.continue_epoch.new.self _
          (line_shown c.args.line) c.continue_epoch.result _ read;
    })
