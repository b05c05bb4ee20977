use Rattle.crx_compact.proofs.wayback.Rows.{are-printable}
use Rattle.crx_laws.proofs.compact_laws.printable_codes.Goals as goal

pub returns : goal.returns
returns c = record { law = λ types m older h. are-printable types m older h }
