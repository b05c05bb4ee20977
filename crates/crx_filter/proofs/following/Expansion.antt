-- Expansion line by line reads, keeps and writes as the expansion of all lines does.
use Rattle.crx_filter.proofs
use proofs.Vocabulary.{common_steps, arith, ℕ, ◌≡◌, Bool, true, false, cond, List, [], ◌∷◌, ◌++◌, length}
use proofs.Vocabulary.{Option, Some, None, Result, Ok, Err, refl, ap, sym, ◌∙◌, true≢false, is_some, none-some}
use proofs.Vocabulary.{ReadLine, Content, Fault, BadEpoch, is_event_line, records_in, Place, Done, Fails}
use proofs.Vocabulary.{NeedsMore, FileUnit, EventLine, RawEpoch, ReadEpoch, epoch_at, Tail, OpenRawEpoch, RawStep}
use proofs.Vocabulary.{first_step, next_step, open_raw_after, Choices, Item, types_in_force, raws_kept, event_line}
use proofs.Vocabulary.{as_observation, expanded_unit, Made, made_of_unit, made_of_raw_step, expansion}
use proofs.Vocabulary.{tail_of_items, begins_event, compact_open, by_bool}
use Rattle.crx_compact.proofs.reading.LineByLine.{steps-agree, wanted-where_open, steps-from_open}
use Rattle.crx_compact.proofs.reading.RawTailing.{place-by_tail, left-by_tail}
use Rattle.crx_compact.{proofs.soundness.Soundness.reads-soundly, specs.OpenEpochs.{epoch_after, HeldEpoch}}
use Rattle.crx_compact.specs.OpenEpochs.{Going, Whole, Faulty, placed_as, held_after, place_of_step}
use Rattle.crx_compact.specs.{OpenEpochs.place_of_steps, ReadingLaws.is_wanted, Tails.tail_left}
use Rattle.crx_filter.specs.{ExpansionByLine.compact_begins}
use proofs.following.{Agreement.{Meaning, IsSameEpoch, AgreeOn, IsCarriedOut}, LinesAtStops.one_line-decided}
use proofs.reading.ForwardCompact.{compact-forward, compact_beginning}

-- ---- one line

steps-last : (step : RawStep) → place_of_steps 0 step [] ≡ place_of_step 0 step
steps-last step = grind (arith, common_steps)

-- if an epoch is open, no event began
no-event : (items : List (Item ReadEpoch)) (lines : List ReadLine) (so_far : OpenRawEpoch) (b : Bool)
    → begins_event lines ≡ b → compact_open items lines ≡ Some so_far → begins_event lines ≡ false
no-event items lines so_far b e opens = grind (arith, common_steps, none-some, begins_event, compact_open)

at-observation : (items : List (Item ReadEpoch)) (line : ReadLine) (lines : List ReadLine)
    → begins_event (line ∷ lines) ≡ false → compact_beginning items (line ∷ lines)
    ≡ as_observation (epoch_at (types_in_force items) (raws_kept items) (line ∷ lines))
at-observation items line lines e = grind (arith, common_steps)

-- the definitions for an expansion
abbrev pub expansion_meaning : Choices → Meaning ReadEpoch HeldEpoch OpenRawEpoch (Option Tail)
expansion_meaning choices = record {
  direction = expansion;
  choices = choices;
  beginning = compact_beginning;
  open_with = compact_open;
  kept_of = tail_of_items;
  unit_lines = expanded_unit;
}

module _ (choices : Choices) where
  abbrev pub Agrees : List (Item ReadEpoch) → List ReadLine → Made HeldEpoch OpenRawEpoch → Type 0
  Agrees = AgreeOn (expansion_meaning choices)

  -- an epoch that is read is kept and written as the steps hold it
  same-epochs : (items : List (Item ReadEpoch)) (lines : List ReadLine) (read : ReadEpoch) (held : HeldEpoch)
      (count : ℕ) → epoch_at (types_in_force items) (raws_kept items) lines ≡ Done read count
      → held_after (tail_of_items items) read ≡ held → IsSameEpoch (expansion_meaning choices) items read held
  same-epochs items lines read held count here same =
      let left : Some held.tail ≡ tail_left (read.raw ∷ raws_kept items) =
      ap {B = Option Tail} (λ (h : HeldEpoch). Some h.tail) (sym same)
      ∙ sym (left-by_tail read.raw (raws_kept items) (reads-soundly (types_in_force items) (raws_kept items)
      lines read count here).single) in record {
        taken = λ number phase types kept either. (left, cc);
      }

  -- the outcome of some lines if no event begins, by the step of the last of them
  agree-by : (items : List (Item ReadEpoch)) (lines : List ReadLine) (before : ℕ) (step : RawStep)
      (p : Place ReadEpoch) → epoch_at (types_in_force items) (raws_kept items) lines ≡ p
      → compact_beginning items lines ≡ as_observation p
      → placed_as (held_after (tail_of_items items)) p ≡ place_of_step before step
      → compact_open items lines ≡ open_raw_after step [] → Agrees items lines (made_of_raw_step step)
  agree-by items lines before (Going so_far) NeedsMore here place placed opens = (so_far, refl, place, opens)
  agree-by items lines before (Whole held) (Done read count) here place placed opens =
      (count, read, place, same-epochs items lines read held count here (cc))
  agree-by items lines before (Faulty fault) (Fails offset other) here place placed opens = (offset, cc)
  agree-by items lines before step p here place placed opens = absurd (cc)

  agree-step : (items : List (Item ReadEpoch))
      (lines : List ReadLine) (before : ℕ) (step : RawStep) → compact_beginning items lines ≡ as_observation
      (epoch_at (types_in_force items) (raws_kept items) lines) → placed_as (held_after (tail_of_items items))
      (epoch_after (types_in_force items) (tail_of_items items) lines) ≡ place_of_step before step
      → compact_open items lines ≡ open_raw_after step [] → Agrees items lines (made_of_raw_step step)
  agree-step items lines before step place placed opens = grind (arith, common_steps, place-by_tail, agree-by)

  agree-event : (items : List (Item ReadEpoch)) (content : List ℕ)
      → is_event_line content ≡ true → (o : Option ℕ)
      → records_in content ≡ o → Agrees items (Content content ∷ []) (made_of_unit (elim o as
      (λ _. Result (FileUnit HeldEpoch) Fault) [ Some count ↦ Ok (EventLine content) | None ↦ Err BadEpoch ]))
  agree-event items content is None e = (0, rw is (rw (e, event_line) refl))
  agree-event items content is (Some count) e = (1, rw is (rw (e, event_line) refl), refl)

  pub agree-content : (items : List (Item ReadEpoch)) (content : List ℕ) (b : Bool)
      → is_event_line content ≡ b
      → Agrees items (Content content ∷ []) (cond b (made_of_unit (event_line content))
      (made_of_raw_step (first_step (types_in_force items) (tail_of_items items) (Content content))))
  agree-content items content true e = agree-event items content e (records_in content) refl
  agree-content items content false e = agree-step items (Content content ∷ []) 0
      (first_step (types_in_force items) (tail_of_items items) (Content content)) (rw e refl)
      (steps-agree (types_in_force items) (tail_of_items items) (Content content ∷ [])
      ∙ steps-last (first_step (types_in_force items) (tail_of_items items) (Content content))) (rw e refl)

  pub agree-begins : (items : List (Item ReadEpoch)) (line : ReadLine)
      → Agrees items (line ∷ []) (compact_begins (types_in_force items) (tail_of_items items) line)
  agree-begins items line = grind (arith, common_steps, agree-content)

  pub agree-continues : (items : List (Item ReadEpoch))
      (lines : List ReadLine) (line : ReadLine) (so_far : OpenRawEpoch)
      → compact_open items lines ≡ Some so_far
      → Agrees items (lines ++ line ∷ []) (made_of_raw_step (next_step so_far line))
  agree-continues items [] line so_far opens = absurd (none-some so_far opens)
  agree-continues items (first ∷ rest) line so_far opens =
      let none = no-event items (first ∷ rest) so_far (begins_event (first ∷ rest)) refl opens in
      let more : begins_event (first ∷ (rest ++ line ∷ [])) ≡ false = grind (arith, common_steps, none) in
      let step = steps-from_open (types_in_force items) (tail_of_items items) (first ∷ rest) line so_far
      (rw none at opens) in
      agree-step items (first ∷ (rest ++ line ∷ [])) (length (first ∷ rest)) (next_step so_far line)
      (at-observation items first (rest ++ line ∷ []) more) step.place (rw more step.open_epoch)

-- ---- more lines are needed

pub observation-wanted : (p : Place ReadEpoch) → as_observation p ≡ NeedsMore → p ≡ NeedsMore
observation-wanted p e = grind (arith, common_steps)

no-lines : (items : List (Item ReadEpoch)) (lines : List ReadLine)
    → compact_beginning items lines ≡ NeedsMore → compact_open items lines ≡ None → lines ≡ []
no-lines items [] wanted none = refl
no-lines items (line ∷ lines) wanted none = by_bool (begins_event (line ∷ lines))
    (λ on. absurd (grind (arith, common_steps, one_line-decided, compact_beginning))) (λ off.
    let after = sym (place-by_tail (types_in_force items) (raws_kept items) (line ∷ lines))
    ∙ observation-wanted _ (sym (at-observation items line lines off) ∙ wanted) in
    absurd (true≢false (sym (ap is_wanted after) ∙ wanted-where_open (types_in_force items)
    (tail_of_items items) (line ∷ lines) ∙ ap is_some (rw off at none))))

kept-record : (b : Bool) (raws : List RawEpoch) → cond b None (tail_left raws) ≡ tail_left (cond b [] raws)
kept-record b raws = grind (arith, common_steps)

pub expansion-carried_out : (choices : Choices) → IsCarriedOut (expansion_meaning choices)
expansion-carried_out choices =
    search (compact-forward, no-lines, agree-begins, agree-continues, kept-record)
