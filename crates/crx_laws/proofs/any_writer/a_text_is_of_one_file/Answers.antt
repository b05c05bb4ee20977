use Rattle.crx_laws.proofs.any_writer.a_text_is_of_one_file.Goals as goal
use Rattle.crx_filter.proofs.anywriter.AnyText.{one-file}

pub returns : goal.returns
returns c = record { law = one-file }
