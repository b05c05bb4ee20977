use Rattle.crx_laws.proofs.any_writer.our_text_is_one.Goals as goal
use Rattle.crx_filter.proofs.anywriter.TextCompactedHere.{own-text}

pub returns : goal.returns
returns c = record { law = own-text }
