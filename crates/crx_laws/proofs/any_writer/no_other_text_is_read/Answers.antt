use Rattle.crx_laws.proofs.any_writer.no_other_text_is_read.Goals as goal
use Rattle.crx_filter.proofs.anywriter.AcceptedTexts.{accepts-exactly}

pub returns : goal.returns
returns c = record { law = accepts-exactly }
