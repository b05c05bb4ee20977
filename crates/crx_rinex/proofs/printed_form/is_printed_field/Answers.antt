use Rattle.crx_rinex.proofs.PrintedForms.{form_from_lanes}
use Rattle.crx_rinex.proofs.printed_form.is_printed_field.Goals as goal

pub returns : goal.returns
returns c = record { form = form_from_lanes c.args.columns c.fits-columns.0 }
