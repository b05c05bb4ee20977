use Rattle.crx_lines.proofs.ProgressLemmas.{HasRead-next}
use Rattle.crx_laws.proofs.line_laws.reading_goes_on.Goals as goal

pub returns : goal.returns
returns g c = record {
  law = λ start before after more old new answer lines h is_open lead answers.
      HasRead-next (λ given. g.R.Source.gave start given before)
      (λ given. g.R.Source.gave start given after) (λ given. g.R.Source.gave before given after)
      _ _ _ _ _ old new lines h (λ given more a b. g.met.R.Source.gave_both start before after given more a b)
      is_open more lead answer answers;
}
