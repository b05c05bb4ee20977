use Rattle.crx_text.proofs.PlainLanes.{plain_from_fold}
use Rattle.crx_text.proofs.field.is_plain.Goals as goal

pub returns : goal.returns
returns c = plain_from_fold c.args.columns c.fits-columns.0 c.fits-columns.1
