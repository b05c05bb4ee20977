-- by computation
use Rattle.std.proofs.Common.{refl, rules, [], ◌∷◌, ◌++◌, codes}
use Rattle.std.specs.Fmt.{digits}
use Rattle.crx_text.specs.meaning.Codes.{coded_number}
use Rattle.crx_text.specs.meaning.Numbers.{size_of, number_of, number_text}
use Rattle.crx_base.specs.declared.fault.Fault.TheVariants.{Truncated}
use Rattle.crx_laws.specs.SmallFiles.{header, header_items, first_two, epoch_at_second, epoch_line_at}
use Rattle.crx_laws.specs.SmallFiles.{full_line_at, observed, plain_choices}
use Rattle.crx_base.specs.meaning.Lines.{lines_text}
use Rattle.crx_filter.specs.Damage.{IsOwnDamaged}
use Rattle.crx_runs.specs.meaning.Messages.{warning_text}
use Rattle.crx_laws.proofs.filter_examples.a_block_cut_off.Goals as goal

cut : IsOwnDamaged (lines_text (header ++ epoch_line_at 0 1 ∷ observed (codes "1.000") ∷ [])) plain_choices
    (lines_text (first_two ++ header ++ full_line_at 0 1 (codes "G01") ∷ []))
unfolding digits coded_number size_of number_of number_text
cut = record {
  standard = search rules;
  before = header_items;
  first = epoch_at_second 0 1000;
  others = [];
  after = [];
  instead = [];
  parts = refl;
  starts = refl;
  continued = tt;
  anew = tt;
  allowed = refl;
  ended = search rules;
  text = refl;
}

pub returns : goal.returns
unfolding warning_text digits coded_number size_of number_of number_text cut
returns c = record {
  salvaged = (
    cut,
    record {
      epochs = [];
      whole = tt;
      warnings = record { line = 7; fault = Truncated } ∷ [];
      few = search rules;
      output = refl;
      messages = refl;
      status = refl;
      fault = refl;
      own = λ count rest e. absurd (cc);
    },
  );
}
