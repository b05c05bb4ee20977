use Rattle.crx_laws.proofs.Cuts.{file-noticed, text-noticed}
use Rattle.crx_laws.proofs.fate.a_cut_is_noticed.Goals as goal

pub returns : goal.returns
returns c = record { file = file-noticed; text = text-noticed }
