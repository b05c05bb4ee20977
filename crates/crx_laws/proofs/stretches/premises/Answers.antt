-- by computation
use Rattle.crx_filter.proofs.Vocabulary.{refl, rules, [], ◌∷◌, ◌++◌, lines_text, Accepted, Observation}
use Rattle.std.proofs.Common.{codes}
use Rattle.std.specs.Fmt.{digits}
use Rattle.crx_text.specs.meaning.Codes.{coded_number}
use Rattle.crx_filter.specs.OwnStretches.{HasOwnStretches, BeginsWithOwn}
use Rattle.crx_laws.{proofs.WildText.stretch-met, specs.WildText.{wild_damaged, wild_stretch}}
use Rattle.crx_laws.specs.SmallFiles.{file_of_five, with_event, plain_choices, in_full_every_second}
use Rattle.crx_laws.specs.SmallFiles.{header_items, epoch_at_second}
use Rattle.crx_laws.specs.SmallStretches.{first_epoch, second_block, two_stretches, event_lost, damaged_twice}
use Rattle.crx_laws.specs.SmallStretches.{cut_off, count_lost, with_lost_count, without_event}
use Rattle.crx_text.specs.meaning.Numbers.{size_of, number_of, number_text}
use Rattle.crx_laws.proofs.stretches.premises.Goals as goal

twice : HasOwnStretches (lines_text (file_of_five [])) in_full_every_second damaged_twice
unfolding digits coded_number size_of number_of number_text
twice = record {
  file_good = search rules;
  before = first_epoch;
  stretches = two_stretches;
  parts = refl;
  header = refl;
  each = search rules;
  text = refl;
}

event : HasOwnStretches (lines_text with_event) plain_choices without_event
unfolding digits coded_number size_of number_of number_text
event = record {
  file_good = search rules;
  before = header_items;
  stretches = event_lost;
  parts = refl;
  header = refl;
  each = search rules;
  text = refl;
}

count : HasOwnStretches (lines_text with_event) plain_choices with_lost_count
unfolding digits coded_number size_of number_of number_text
count = record {
  file_good = search rules;
  before = Accepted (Observation (epoch_at_second 1 20000100500)) ∷ first_epoch;
  stretches = count_lost;
  parts = refl;
  header = refl;
  each = search rules;
  text = refl;
}

cut : BeginsWithOwn (lines_text (file_of_five [])) in_full_every_second cut_off
unfolding digits coded_number size_of number_of number_text
cut = record {
  file_good = search rules;
  before = second_block ++ (Accepted (Observation (epoch_at_second 1 20000100500)) ∷ first_epoch);
  after = Accepted (Observation (epoch_at_second 4 20000408000)) ∷ [];
  more = codes "> 2024 01";
  parts = refl;
  text_is = refl;
}

pub returns : goal.returns
returns c =
    let wild = stretch-met wild_damaged wild_stretch.instead refl refl in
    record { wild = wild; twice = twice; event = event; count = count; cut = cut }
