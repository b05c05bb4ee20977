-- The unit at some lines of compact text of which none announces an event's records: an epoch, or a fault that can be
-- skipped; and the next line that begins with > cuts an epoch off.
use Rattle.crx_filter.proofs
use proofs.Vocabulary.{ℕ, suc, ◌≡◌, true, false, List, [], ◌∷◌, ◌++◌, length, ap, sym, ◌∙◌, subst, arith}
use proofs.Vocabulary.{refl, append_assoc, and_parts, not-true, list_all, ReadLine, Content, Overlong, Fault}
use proofs.Vocabulary.{Truncated, begins_epoch}
use proofs.Vocabulary.{is_event_line, Place, Done, Fails, NeedsMore, FileUnit, Observation, ReadEpoch, epoch_at}
use proofs.Vocabulary.{Item}
use proofs.Vocabulary.{types_in_force, is_skipped, is_skippable, raws_kept, as_observation, compact_epoch_place}
use proofs.Vocabulary.{compact_place}
use proofs.Vocabulary.{IsBetweenUnits, BadEpoch, Option, None, is_some, by_bool, ⊤}
use proofs.{damage.CutOffEpochs.epoch-cut, following.Expansion.observation-wanted}
use proofs.reading.{EpochFaults.{IsSkippableAt, epoch-skippable}}
use proofs.reading.{ForwardCompact.compact-forward, Resuming.wrong-stays}
use Rattle.crx_filter.specs.meaning.Stretches.{begins_no_event}

pub place-between : (items : List (Item ReadEpoch)) (lines : List ReadLine) → IsBetweenUnits items
    → compact_place items lines ≡ compact_epoch_place (types_in_force items) (raws_kept items) lines
place-between items lines h = grind arith

pub place-inside : (items : List (Item ReadEpoch)) (line : List ℕ) (lines : List ReadLine)
    → IsBetweenUnits items → is_event_line line ≡ false → compact_place items (Content line ∷ lines)
    ≡ as_observation (epoch_at (types_in_force items) (raws_kept items) (Content line ∷ lines))
place-inside items line lines h e = cc (place-between items (Content line ∷ lines) h, e)

no-records : (count : Option ℕ) → is_some count ≡ false → count ≡ None
no-records v1 e = grind (arith)

-- an event's line without a count is a bad epoch line
pub bad-event : (items : List (Item ReadEpoch)) (line : List ℕ) (lines : List ReadLine) → IsBetweenUnits items
    → begins_no_event (Content line) ≡ true → is_event_line line ≡ true
    → compact_place items (Content line ∷ lines) ≡ Fails 0 BadEpoch
bad-event items line lines h text event = grind (arith, place-between, no-records, not-true)

-- an epoch, or a fault that can be skipped
abbrev pub IsEpochOrSkipped : Place (FileUnit ReadEpoch) → Type 0
IsEpochOrSkipped (Done unit count) = (read : ReadEpoch) × (unit ≡ Observation read)
IsEpochOrSkipped (Fails offset fault) = is_skippable fault ≡ true
IsEpochOrSkipped NeedsMore = ⊤

observed : (p : Place ReadEpoch) → IsSkippableAt p → IsEpochOrSkipped (as_observation p)
observed p h = grind (arith)

-- such a unit is read if no line announces an event's records
pub block-here : (items : List (Item ReadEpoch)) (lines : List ReadLine) → IsBetweenUnits items
    → list_all begins_no_event lines ≡ true → IsEpochOrSkipped (compact_place items lines)
block-here items [] h text = subst IsEpochOrSkipped (sym (place-between items [] h)) tt
block-here items (Overlong ∷ lines) h text = grind arith
block-here items (Content line ∷ lines) h text = by_bool (is_event_line line)
    (λ event. subst IsEpochOrSkipped (sym (bad-event items line lines h (and_parts _ _ text).0 event)) refl)
    (λ other. subst IsEpochOrSkipped (sym (place-inside items line lines h other)) (observed
    (epoch_at (types_in_force items) (raws_kept items) (Content line ∷ lines))
    (epoch-skippable (types_in_force items) (raws_kept items) (Content line ∷ lines))))

pub skipped-here : (items : List (Item ReadEpoch)) (fault : Fault)
    → IsBetweenUnits items → is_skippable fault ≡ true → is_skipped true items fault ≡ true
skipped-here items fault h may = cc

pub place-cut : (items : List (Item ReadEpoch)) (first : List ℕ) (lines : List ReadLine)
    (line : List ℕ) (rest : List ReadLine) → IsBetweenUnits items → is_event_line first ≡ false
    → begins_epoch line ≡ true → compact_place items (Content first ∷ lines) ≡ NeedsMore → compact_place items
    (Content first ∷ (lines ++ Content line ∷ rest)) ≡ Fails (suc (length lines)) Truncated
place-cut items first lines line rest h none begins e = ap (λ ls. compact_place items (Content first ∷ ls))
    (sym (append_assoc lines (Content line ∷ []) rest)) ∙ wrong-stays compact_place compact-forward items
    (Content first ∷ (lines ++ Content line ∷ [])) rest _ _ (place-inside items first
    (lines ++ Content line ∷ []) h none ∙ ap as_observation (epoch-cut (types_in_force items) (raws_kept
    items) first lines line begins (observation-wanted _ (sym (place-inside items first lines h none) ∙ e))))
