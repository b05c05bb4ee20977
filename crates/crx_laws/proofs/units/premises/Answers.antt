-- by computation
use Rattle.crx_filter.proofs.Vocabulary.{rules, lines_text}
use Rattle.{std.specs.Fmt.digits, crx_text.specs.meaning.Numbers.{size_of, number_of, number_text}}
use Rattle.crx_filter.proofs.wayback.Units.{read-units}
use Rattle.crx_laws.specs.SmallFiles.{with_event}
use Rattle.crx_laws.proofs.units.premises.Goals as goal

pub returns-clause-met : goal.returns-clause-met
unfolding digits size_of number_of number_text
returns-clause-met c = read-units (lines_text with_event) (search rules)
