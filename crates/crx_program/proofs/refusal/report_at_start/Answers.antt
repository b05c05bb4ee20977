use Rattle.crx_program.proofs.refusal.report_at_start.Goals as goal

pub returns-clause-shown : goal.returns-clause-shown
returns-clause-shown g c = rw (c.bytes.ensures.value, c.message.ensures.value) at c.show.ensures
