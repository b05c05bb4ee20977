use Rattle.crx_runs.proofs.finish.finish_without_memory.Goals as goal

pub returns : goal.returns
returns g c = record { finished = rw (c.from.ensures) at c.finish.ensures }
