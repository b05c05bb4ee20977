-- The unit at a line of compact text is certain as soon as its last line has been read.
use Rattle.crx_filter.proofs.Vocabulary.{ℕ, List, [], ◌∷◌, refl, arith, ReadLine}
use Rattle.crx_filter.proofs.Vocabulary.{Content, Overlong, FileUnit, Place, IsSteady}
use Rattle.crx_filter.proofs.Vocabulary.{IsDecidedAfter, is_event_line, Count, RawEpoch, ReadEpoch, epoch_at, Item}
use Rattle.crx_filter.proofs.Vocabulary.{types_in_force, raws_kept, as_observation}
use Rattle.crx_filter.proofs.Vocabulary.{compact_epoch_place, compact_place, first_lines, IsReadForward, by_bool}
use Rattle.crx_compact.proofs.reading.SteadyEpochs.{steady-after_line}
use Rattle.crx_filter.proofs.reading.Forward.{unit_place-forward}
use Rattle.crx_rinex.proofs.SteadyPlaces.{steady-here, steady-first_line, steady-then}

-- the beginning of an epoch or an event in compact text
abbrev pub compact_beginning : List (Item ReadEpoch) → List ReadLine → Place (FileUnit ReadEpoch)
compact_beginning items = compact_epoch_place (types_in_force items) (raws_kept items)

pub steady-epoch_at : (types : List Count) (older : List RawEpoch) → IsSteady (epoch_at types older)
steady-epoch_at types older = search (steady-then, steady-first_line, steady-after_line)

-- ---- the beginning of an epoch or an event

observation-decided : {E : Type 0} (count : ℕ) (p : Place E)
    → IsDecidedAfter count p → IsDecidedAfter count (as_observation p)
observation-decided count v1 h = grind (arith)

steady-compact : (types : List Count) (older : List RawEpoch) → IsSteady (compact_epoch_place types older)
steady-compact types older [] [] = tt
steady-compact types older [] (Overlong ∷ more) = grind arith
steady-compact types older [] (Content line ∷ more) = by_bool (is_event_line line)
    (λ on. rw on (grind arith)) (λ off. rw off (observation-decided 0
    (epoch_at types older (Content line ∷ more)) (steady-epoch_at types older [] (Content line ∷ more))))
steady-compact types older (Overlong ∷ lines) more = grind arith
steady-compact types older (Content line ∷ lines) more = by_bool (is_event_line line)
    (λ on. rw on (grind arith)) (λ off.
    let there = steady-epoch_at types older (Content line ∷ lines) more in
    rw off (grind (arith, observation-decided, there)))

pub compact-forward : IsReadForward compact_place
compact-forward = unit_place-forward _ (λ items. steady-compact _ _) (λ items. refl)

-- ---- the first two lines

pub steady-first_lines : IsSteady first_lines
steady-first_lines = search (steady-then, steady-first_line, steady-here)
