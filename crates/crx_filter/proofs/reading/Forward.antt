-- The unit at a line is certain as soon as its last line has been read, in both directions.
use Rattle.crx_filter.proofs.Vocabulary
use Vocabulary.{common_steps, arith, ◌≡◌, Bool, cond, List, [], refl, ReadLine, Place, NeedsMore, IsSteady}
use Vocabulary.{FileUnit, Epoch, epoch_place, Item, types_in_force, unit_place, rinex_place, IsReadForward}
use Rattle.crx_rinex.proofs.{OpenEpochs.steady-epoch_place, SteadyPlaces.steady-first_line}

-- the beginning of an epoch or an event in RINEX
abbrev pub rinex_beginning : List (Item Epoch) → List ReadLine → Place (FileUnit Epoch)
rinex_beginning items = epoch_place (types_in_force items)

chosen_steady : {X : Type 0} (b : Bool) (one two : List ReadLine → Place X)
    → IsSteady one → IsSteady two → IsSteady (λ lines. cond b (one lines) (two lines))
chosen_steady b one two h k = grind (arith, common_steps)

chosen_wanted : {X : Type 0} (b : Bool) (one two : Place X) → one ≡ NeedsMore → two ≡ NeedsMore → cond b one
    two ≡ NeedsMore
chosen_wanted b one two h k = grind (arith, common_steps)

pub unit_place-forward : {E : Type 0} (beginning : List (Item E) → List ReadLine → Place (FileUnit E))
    → ((items : List (Item E)) → IsSteady (beginning items))
    → ((items : List (Item E)) → beginning items [] ≡ NeedsMore) → IsReadForward (unit_place beginning)
unit_place-forward beginning steady wants = search (chosen_steady, steady-first_line, chosen_wanted)

pub rinex-forward : IsReadForward rinex_place
rinex-forward = unit_place-forward _ (λ items. steady-epoch_place (types_in_force items)) (λ items. refl)
