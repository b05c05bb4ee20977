-- Lines of a RINEX file one by one: the outcome of the last of some lines is the unit at them, in every direction
-- that reads RINEX.
use Rattle.crx_filter.proofs.Vocabulary
use Vocabulary.{common_steps, arith, ℕ, zero, suc, ◌≡◌, ◌⊎◌, List, [], ◌∷◌, ◌++◌, length, Some, None, Result, Ok}
use Vocabulary.{Err, refl, ReadLine, Content, Fault, Epoch, Count, Done}
use Vocabulary.{NeedsMore, after_lines, then_place, FileUnit, Observation, OpenEpoch, Beginning, EventBegins}
use Vocabulary.{EpochBegins, beginning_of, opened, rows_wanted, rows_at, epoch_place, EpochStep, Going}
use Vocabulary.{Whole, Faulty, when_wanted, epoch_step, Choices, Item, types_in_force, Made, Direction}
use Vocabulary.{made_of_epoch_step, made_of_beginning, rinex_begins, rinex_open}
use Rattle.crx_rinex.proofs.OpenEpochs.{wanted-open, next-by_open, open_none}
use Rattle.crx_rinex.specs.EpochPlaces.{whole_or_going, still_open, open_with, place_after}
use Rattle.crx_filter.proofs.{following.Agreement.{Meaning, IsSameEpoch, AgreeOn}}
use Rattle.crx_filter.proofs.{reading.Forward.rinex_beginning}

-- ---- the conditions of a direction

-- the definitions for a direction that reads RINEX, and keeps and writes this
abbrev pub rinex_meaning : {K : Type 0} → Direction Epoch OpenEpoch K → (List (Item Epoch) → K)
    → (List (Item Epoch) → FileUnit Epoch → List (List ℕ)) → Choices → Meaning Epoch Epoch OpenEpoch K
rinex_meaning direction kept_of unit_lines choices = record {
  direction = direction;
  choices = choices;
  beginning = rinex_beginning;
  open_with = rinex_open;
  kept_of = kept_of;
  unit_lines = unit_lines;
}

-- an epoch is kept and written as it is read
abbrev pub AreSame : {K : Type 0} → Direction Epoch OpenEpoch K → (List (Item Epoch) → K)
    → (List (Item Epoch) → FileUnit Epoch → List (List ℕ)) → Choices → Type 0
AreSame direction kept_of unit_lines choices = (items : List (Item Epoch)) (lines : List ReadLine)
    (epoch : Epoch) (count : ℕ) → epoch_place (types_in_force items) lines ≡ Done (Observation epoch) count
    → IsSameEpoch (rinex_meaning direction kept_of unit_lines choices) items epoch epoch

-- an open epoch that leaves the kept state unchanged keeps it in one way
pub either-same : {X : Type 0} {a b : X} → (a ≡ b) ⊎ (a ≡ b) → a ≡ b
either-same e = grind (arith, common_steps)

-- ---- one line

-- an epoch's line with `wanted` satellites
first-place : (so_far : OpenEpoch) (wanted : ℕ) → after_lines 1 (then_place (rows_at so_far wanted []) []
    (λ epoch rest. Done (Observation epoch) 0)) ≡ place_after 0 (when_wanted wanted so_far)
first-place so_far zero = refl
first-place so_far (suc wanted) = refl

module _ {K : Type 0} {direction : Direction Epoch OpenEpoch K} {kept_of : List (Item Epoch) → K}
    {unit_lines : List (Item Epoch) → FileUnit Epoch → List (List ℕ)} {choices : Choices}
    (s : AreSame direction kept_of unit_lines choices) where
  abbrev Agrees : List (Item Epoch) → List ReadLine → Made Epoch OpenEpoch → Type 0
  Agrees = AgreeOn (rinex_meaning direction kept_of unit_lines choices)

  -- the outcome of some lines, by the step of the last of them
  agree-step : (items : List (Item Epoch)) (lines : List ReadLine) (line : ReadLine) (step : EpochStep)
      → epoch_place (types_in_force items) (lines ++ line ∷ []) ≡ place_after (length lines) step
      → open_with (types_in_force items) (lines ++ line ∷ []) ≡ still_open step
      → Agrees items (lines ++ line ∷ []) (made_of_epoch_step step)
  agree-step items lines line (Going so_far) place opens = (so_far, refl, place, opens)
  agree-step items lines line (Whole epoch) place opens =
      (suc (length lines), epoch, place, s items (lines ++ line ∷ []) epoch (suc (length lines)) place)
  agree-step items lines line (Faulty fault) place opens = (length lines, place)

  agree-beginning : (items : List (Item Epoch)) (content : List ℕ) (b : Result Beginning Fault) → beginning_of
      content ≡ b → Agrees items (Content content ∷ []) (made_of_beginning (types_in_force items) b)
  agree-beginning items content (Err fault) e = (0, rw e refl)
  agree-beginning items content (Ok (EventBegins line)) e = (1, rw e refl, refl)
  agree-beginning items content (Ok (EpochBegins head)) e =
      let so_far = opened (types_in_force items) head in
      agree-step items [] (Content content) (whole_or_going so_far) (rw e (first-place so_far (rows_wanted
      so_far)))
      (rw e (open_none (still_open (whole_or_going so_far))))

  pub agree-begins : (items : List (Item Epoch)) (line : ReadLine)
      → Agrees items (line ∷ []) (rinex_begins (types_in_force items) (kept_of items) line)
  agree-begins items line = grind (arith, common_steps, agree-beginning, beginning_of)

  pub agree-continues : (items : List (Item Epoch)) (lines : List ReadLine) (line : ReadLine)
      (so_far : OpenEpoch) → rinex_open items lines ≡ Some so_far
      → Agrees items (lines ++ line ∷ []) (made_of_epoch_step (epoch_step so_far line))
  agree-continues items lines line so_far e =
      let decided = next-by_open (types_in_force items) lines line so_far e in
      agree-step items lines line (epoch_step so_far line) decided.place decided.left_open

pub no-lines : (types : List Count) (lines : List ReadLine)
    → epoch_place types lines ≡ NeedsMore → open_with types lines ≡ None → lines ≡ []
no-lines types lines wanted none = grind (arith, common_steps, wanted-open types lines)
