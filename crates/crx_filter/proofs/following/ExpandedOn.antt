-- An expansion takes one more line.
use Rattle.crx_filter.proofs.Vocabulary
use Vocabulary.{common_steps, ℕ, ◌≡◌, ◌+◌, Bool, List, [], ◌∷◌, ◌++◌, length, drop, Option, Some, None, Result, Ok}
use Vocabulary.{Err, LineTooLong, refl, sym, subst, arith, length-append, drop-append-le, length-drop, ReadLine}
use Vocabulary.{Content, Overlong}
use Vocabulary.{Fault, Place, Done, Fails, NeedsMore, ReadEpoch, OpenRawEpoch, Tail, Choices, Reading, AtFault}
use Vocabulary.{AtLines, reading_from, Fed, fed, fed_once, Phase}
use Vocabulary.{InFirstLines, Ended, RunState, Rejects, Made, made_in, step_of_made, state_next, state_of}
use Vocabulary.{rules, crinex_version, crinex_program, first_lines, expansion, compact_open, compact_place}
use Vocabulary.{tail_of_items}
use Rattle.crx_compact.specs.{OpenEpochs.HeldEpoch}
use Rattle.crx_filter.proofs.following.{Expansion.{expansion-carried_out}}
use Rattle.crx_filter.proofs.following.{Expansion.expansion_meaning, Agreement.{Follows, state_in, fed-once}}
use Rattle.crx_filter.proofs.following.{LinesAtStops.{last_made, last-once, quiet-elsewhere}, MoreLines.more-line}
use Rattle.crx_filter.proofs.{CasesOfTests.by_result, reading.CompactPrefixes.remains}
use Rattle.crx_filter.specs.{Laws.IsExpandedOn}

-- ---- the reading, by the first two lines

-- the reading of compact text, by the reading of its first two lines
abbrev pub reading_by : Bool → List ReadLine → Place (List (List ℕ)) → Reading ReadEpoch
reading_by skip lines p = elim p [
  | Done two count ↦ reading_from compact_place skip [] (count + 1) (drop count lines)
  | Fails offset fault ↦ record { items = []; stop = AtFault (record { line = offset + 1; fault = fault }) }
  | NeedsMore ↦ record { items = []; stop = AtLines 1 lines }
]

abbrev pub phase_by : List ReadLine → Place (List (List ℕ)) → Phase OpenRawEpoch → Phase OpenRawEpoch
phase_by lines p phase =
    elim p [ Done two count ↦ phase | Fails offset fault ↦ phase | NeedsMore ↦ InFirstLines (length lines) ]

abbrev pub state_by : Choices → List ReadLine → Place (List (List ℕ)) → RunState OpenRawEpoch (Option Tail)
state_by choices lines p =
    let state : RunState OpenRawEpoch (Option Tail) =
    state_of expansion compact_open tail_of_items choices (length lines) (reading_by choices.skip lines p) in
    record state { phase = phase_by lines p state.phase }

-- two lines are enough
two-lines : (first : List ℕ) (line : ReadLine) (lines : List ReadLine) (r : Result (List ℕ) Fault)
    → crinex_version first ≡ r → first_lines (Content first ∷ line ∷ lines) ≡ NeedsMore → ⊥
two-lines first line lines (Err fault) e wanted = grind (arith, common_steps, first_lines)
two-lines first Overlong lines (Ok version) e wanted = grind (arith, common_steps, first_lines)
two-lines first (Content second) lines (Ok version) e wanted =
    grind (arith, common_steps, crinex_program, first_lines)

module _ (choices : Choices) where
  -- one more line, by the reading of the first two lines before and then, by its effect, and by its outcome
  abbrev FollowsAs : List ReadLine → ReadLine → Place (List (List ℕ)) → Place (List (List ℕ))
      → Fed OpenRawEpoch (Option Tail) → Made HeldEpoch OpenRawEpoch → Type 0
  FollowsAs lines line before after = Follows (expansion_meaning choices) (state_by choices (lines ++ line ∷
      []) after) (reading_by choices.skip lines before).items (reading_by choices.skip (lines ++ line ∷ [])
      after)

  abbrev FollowsBy : List ReadLine → ReadLine → Place (List (List ℕ)) → Place (List (List ℕ)) → Type 0
  FollowsBy lines line before after = FollowsAs lines line before after
      (fed expansion (state_by choices lines before) line) (last_made expansion (state_by choices lines
      before) line)

  -- in the first two lines no line is fed again
  abbrev FollowsOnce : List ReadLine → ReadLine → Type 0
  FollowsOnce lines line = let s : RunState OpenRawEpoch (Option Tail) = state_by choices lines NeedsMore in
      FollowsAs lines line NeedsMore (first_lines (lines ++ line ∷ []))
      (fed_once (state_next expansion s line)) (made_in expansion s.phase s.types s.kept line)

  by-once : (lines : List ReadLine) (line : ReadLine) → FollowsOnce lines line
      → FollowsBy lines line NeedsMore (first_lines (lines ++ line ∷ []))
  by-once lines line once =
      grind (arith, common_steps, fed-once, last-once, quiet-elsewhere, made_in)

  -- a fault in the first two lines is never skipped
  ends : (count : ℕ) (line : ReadLine) (fault : Fault) → fed_once (step_of_made expansion
      (state_in choices count (InFirstLines count) [] None) line (Rejects fault)) ≡ record {
        warned = [];
        failed = Some (record { line = count + 1; fault = fault });
        handed_out = [];
        next = state_in choices (count + 1) (Ended (record { line = count + 1; fault = fault })) []
            None;
      }
  ends count line fault = grind (arith, common_steps)

  first-line : (line : ReadLine) → FollowsBy [] line (first_lines []) (first_lines (line ∷ []))
  first-line Overlong = grind (arith, common_steps, by-once, ends)
  first-line (Content content) = by-once [] (Content content) (by_result (crinex_version content)
      (λ version e. rw e (search rules)) (λ fault e. rw (e, ends 0 (Content content) fault) (search rules)))

  -- the second line, after a valid first one
  second-line : (first : List ℕ) (line : ReadLine) (version : List ℕ) → crinex_version first ≡ Ok version
      → FollowsBy (Content first ∷ []) line NeedsMore (first_lines (Content first ∷ line ∷ []))
  second-line first Overlong version good =
      by-once (Content first ∷ []) Overlong (rw good (rw (ends 1 Overlong LineTooLong) (search rules)))
  second-line first (Content content) version good = by-once (Content first ∷ []) (Content content)
      (by_result (crinex_program content) (λ program e. rw good (rw e (search rules)))
      (λ fault e. rw good (rw (e, ends 1 (Content content) fault) (search rules))))

  -- a direction that reads compact text takes one more line
  pub compact-on : (lines : List ReadLine) (line : ReadLine) (p : Place (List (List ℕ)))
      → first_lines lines ≡ p → FollowsBy lines line (first_lines lines) (first_lines (lines ++ line ∷ []))
  compact-on lines line (Done two count) e =
      let r = remains lines (line ∷ []) (Done two count) e in
      rw (e, r.1) (more-line (expansion-carried_out choices) (count + 1) (length lines)
      (length (lines ++ line ∷ [])) (drop count lines) (drop count (lines ++ line ∷ [])) line
      (omega (arith, length-drop count lines, r.0)) (length-append lines (line ∷ []))
      (drop-append-le count lines (line ∷ []) r.0))
  compact-on lines line (Fails offset fault) e =
      grind (arith, common_steps, remains lines (line ∷ []) (Fails offset fault) e, length-append)
  compact-on [] line NeedsMore e = first-line line
  compact-on (Overlong ∷ lines) line NeedsMore e = absurd (cc)
  compact-on (Content first ∷ []) line NeedsMore e = subst (λ p. FollowsBy (Content first ∷ []) line p
      (first_lines (Content first ∷ line ∷ []))) (sym e) (by_result (crinex_version first)
      (second-line first line) (λ fault bad.
      grind (arith, common_steps, bad)))
  compact-on (Content first ∷ next ∷ lines) line NeedsMore e =
      absurd (two-lines first next lines (crinex_version first) refl e)

pub expanded-on : (choices : Choices) (lines : List ReadLine) (line : ReadLine)
    → IsExpandedOn choices lines line
expanded-on choices lines line = (compact-on choices lines line (first_lines lines) refl).followed
