use Rattle.crx_filter.proofs.wayback.NormalForm.{standard-as_normal}
use Rattle.crx_laws.proofs.normal_form.the_normal_form_is_standard.Goals as goal

pub returns : goal.returns
returns c = record { law = standard-as_normal }
