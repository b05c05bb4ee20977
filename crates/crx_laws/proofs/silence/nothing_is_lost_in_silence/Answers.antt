use Rattle.crx_filter.proofs.accounts.ByResults.{accounts-for_file, accounts-for_text}
use Rattle.crx_laws.proofs.silence.nothing_is_lost_in_silence.Goals as goal

pub returns : goal.returns
returns c = record { compaction = accounts-for_file; expansion = accounts-for_text }
