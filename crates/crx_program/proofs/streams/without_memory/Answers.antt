use Rattle.crx_program.proofs.StreamLemmas.{fresh}
use Rattle.crx_program.proofs.streams.without_memory.Goals as goal

pub returns-clause-shown : goal.returns-clause-shown
returns-clause-shown g c = (
  c.new-messages.result,
  fresh c.args.stderr c.new.result c.new-messages.result c.new-messages.ensures.inner
      c.new-messages.ensures.log
      c.new.ensures.inner c.new.ensures.failures c.new.ensures.ends c.new.ensures.flushes
      c.new.ensures.broken,
  c.report_no_memory-status.ensures.shown,
)
