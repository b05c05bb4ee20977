-- by computation
use Rattle.crx_filter.proofs.Vocabulary.{ℕ, refl, rules, List, [], ◌∷◌, ◌++◌, inr, ◌≡◌, true, list_all, Piece}
use Rattle.crx_filter.proofs.Vocabulary.{lines_of, pieces_of, EventLine, EventRecord, Observation, Accepted}
use Rattle.crx_filter.proofs.Vocabulary.{lines_text}
use Rattle.std.proofs.Common.{codes}
use Rattle.std.specs.Fmt.{digits}
use Rattle.crx_text.specs.meaning.Codes.{coded_number}
use Rattle.crx_text.specs.meaning.Numbers.{size_of, number_of, number_text}
use Rattle.crx_filter.specs.Damage.{IsOwnDamaged, may_replace}
use Rattle.crx_laws.{proofs.WildText.stretch-met, specs.WildText.{wild_block, wild_shortened}}
use Rattle.crx_laws.specs.SmallFiles.{blanks, line_at, file_of_five, with_event, plain_choices}
use Rattle.crx_laws.specs.SmallFiles.{in_full_every_second, epoch_at_second, header_items, first_block}
use Rattle.crx_laws.specs.SmallFiles.{damaged_by, other_block, last_damaged_by, damaged_before_event}
use Rattle.crx_laws.proofs.salvage.premises.Goals as goal

-- the second block, with other lines instead of its lines after the first
damaged : (lines : List (List ℕ)) → list_all may_replace (lines_of (lines_text lines)) ≡ true
    → list_all (λ (piece : Piece). piece.is_ended) (pieces_of (lines_text lines)) ≡ true
    → IsOwnDamaged (lines_text (file_of_five [])) in_full_every_second (damaged_by lines)
unfolding digits coded_number size_of number_of number_text
damaged lines allowed ended = record {
  standard = search rules;
  before = first_block;
  first = epoch_at_second 2 20000202000;
  others = epoch_at_second 3 20000304500 ∷ [];
  after = Accepted (Observation (epoch_at_second 4 20000408000)) ∷ [];
  instead = lines_text lines;
  parts = refl;
  starts = refl;
  continued = search rules;
  anew = refl;
  allowed = allowed;
  ended = inr ended;
  text = refl;
}

-- the first block of a file, followed by an event
before-event : IsOwnDamaged (lines_text with_event) plain_choices (damaged_before_event (codes "xyz" ∷ []))
unfolding digits coded_number size_of number_of number_text
before-event = record {
  standard = search rules;
  before = header_items;
  first = epoch_at_second 0 20000000000;
  others = epoch_at_second 1 20000100500 ∷ [];
  after = Accepted (Observation (epoch_at_second 2 20000202000))
      ∷ Accepted (EventRecord (blanks 60 ++ codes "COMMENT")) ∷ Accepted (EventLine (line_at 2 4 1)) ∷ [];
  instead = lines_text (codes "xyz" ∷ []);
  parts = refl;
  starts = refl;
  continued = search rules;
  anew = tt;
  allowed = refl;
  ended = search rules;
  text = refl;
}

-- the last block, without LF at the end
last-damaged : IsOwnDamaged (lines_text (file_of_five [])) in_full_every_second
    (last_damaged_by (codes "\n3&2000"))
unfolding digits coded_number size_of number_of number_text
last-damaged = record {
  standard = search rules;
  before = Accepted (Observation (epoch_at_second 3 20000304500))
      ∷ Accepted (Observation (epoch_at_second 2 20000202000)) ∷ first_block;
  first = epoch_at_second 4 20000408000;
  others = [];
  after = [];
  instead = codes "\n3&2000";
  parts = refl;
  starts = refl;
  continued = tt;
  anew = tt;
  allowed = refl;
  ended = search rules;
  text = refl;
}

pub returns : goal.returns
unfolding digits coded_number size_of number_of number_text
returns c = record {
  wild = record { stretch = stretch-met wild_shortened wild_block.instead refl refl; block = (refl, refl) };
  date = refl;
  skips = refl;
  replaced = damaged (codes "xyz" ∷ []) refl refl;
  removed = damaged [] refl refl;
  shortened = damaged ([] ∷ codes "3&20000202000" ∷ []) refl refl;
  other_epochs = damaged other_block refl refl;
  before_event = before-event;
  last = last-damaged;
  own = refl;
}
