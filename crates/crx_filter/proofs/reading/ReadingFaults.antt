-- A reading stops only at faults of lines, and so does the end of the input.
use Rattle.crx_filter.proofs.Vocabulary.{common_steps, arith, ℕ, ◌≡◌, ◌+◌, Bool, true, List, [], length, Some, ⊤}
use Rattle.crx_filter.proofs.Vocabulary.{ReadLine, At, Place, FileUnit, Item, Reading, fault_of_stop, is_of_lines}
use Rattle.crx_filter.proofs.Vocabulary.{reading_from, whole_reading, rinex_place, whole_rinex, rinex_reading}
use Rattle.crx_filter.proofs.Vocabulary.{whole_compact, compact_reading}
use Rattle.crx_filter.proofs.reading.{StepInvariants.{KeptAt, within-kept}, LineFaults.{IsFineAt, rinex-fine}}
use Rattle.crx_filter.proofs.reading.LineFaults.{compact-fine, first_lines-fine}

-- if all units at places have such faults only, a reading finds no others
module _ {E : Type 0} (place : List (Item E) → List ReadLine → Place (FileUnit E))
    (fine : (items : List (Item E)) (lines : List ReadLine) → IsFineAt (place items lines)) (skip : Bool)
    (number : ℕ) (lines : List ReadLine) (at : At) where
  stop-fine : (r : Reading E) → KeptAt place skip (λ is ls. ⊤) r → fault_of_stop r.stop ≡ Some at
      → is_of_lines at.fault ≡ true
  stop-fine r kept e = grind (arith, common_steps, fine)

  from-fine : fault_of_stop (reading_from place skip [] number lines).stop ≡ Some at
      → is_of_lines at.fault ≡ true
  from-fine = stop-fine (reading_from place skip [] number lines)
      (within-kept place skip (λ items ls. ⊤) (search) (length lines + 1) [] number lines tt)

  whole-fine : (whole_reading place skip number lines).fault ≡ Some at → is_of_lines at.fault ≡ true
  whole-fine e = grind (arith, common_steps, from-fine)

module _ (skip : Bool) (lines : List ReadLine) (at : At) where
  pub rinex-found : fault_of_stop (rinex_reading skip lines).stop ≡ Some at → is_of_lines at.fault ≡ true
  rinex-found = from-fine rinex_place rinex-fine skip 1 lines at

  pub rinex-found-at-end : (whole_rinex skip lines).fault ≡ Some at → is_of_lines at.fault ≡ true
  rinex-found-at-end = whole-fine rinex_place rinex-fine skip 1 lines at

  pub compact-found : fault_of_stop (compact_reading skip lines).stop ≡ Some at → is_of_lines at.fault ≡ true
  compact-found e = grind (arith, common_steps, from-fine, compact-fine, first_lines-fine)

  pub compact-found-at-end : (whole_compact skip lines).fault ≡ Some at → is_of_lines at.fault ≡ true
  compact-found-at-end e = grind (arith, common_steps, whole-fine, compact-fine, first_lines-fine)
