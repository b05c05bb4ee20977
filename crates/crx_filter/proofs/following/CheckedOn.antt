-- A check takes one more line.
use Rattle.crx_filter.proofs.Vocabulary
use Vocabulary.{common_steps, ℕ, ◌≡◌, ◌+◌, false, List, [], ◌∷◌, ◌++◌, map, length, None, refl, arith}
use Vocabulary.{length-append, append-nil, append_assoc, length-map, none-some, InputLine, ReadLine, as_read}
use Vocabulary.{Epoch, last_line, Reading, rinex_reading, rinex_open, RunState, made_in, state_next, phase_of}
use Vocabulary.{failed_by, is_again, fault_of_stop, printed_items, is_standard_line, first_not_standard, Totals}
use Vocabulary.{checking, printed_open, printed_made, earliest, CheckState, check_state, OpenEpoch, check_reading}
use Vocabulary.{At, Option, Some}
use Rattle.crx_filter.proofs.following.{Check.check-carried_out, Agreement.fed-once, MoreLines.more-line}
use Rattle.crx_filter.proofs.{reading.StaysEnded.rinex-stays, standard.CheckLines.{phase-reached, line-grows}}
use Rattle.crx_filter.specs.CheckingLaws.{IsCheckedOn}

-- ---- the state after the lines

pub same-state : (lines : List InputLine) → CheckState.reading (check_state lines)
    ≡ check_reading (map as_read lines)
same-state lines = cc (length-map lines as_read)

pub once-again : (lines : List ReadLine) (line : ReadLine)
    → is_again (state_next checking (check_reading lines) line).answer ≡ false
once-again lines line = grind (arith, common_steps, check_reading, made_in, checking)

abbrev pub printed_of : List ReadLine → List (List ℕ)
printed_of lines = let r : Reading Epoch = rinex_reading false lines in
    printed_items r.items ++ printed_open (phase_of rinex_open r)

-- the last printed line for a line
abbrev pub given_back : List ReadLine → ReadLine → List ℕ
given_back lines line = let s : RunState OpenEpoch Totals = check_reading lines in
    last_line (printed_made (made_in checking s.phase s.types s.kept line))

pub record IsOneOn (lines : List ReadLine) (line : ReadLine) : Type 0 where
  pub fault : fault_of_stop (rinex_reading false (lines ++ line ∷ [])).stop
      ≡ failed_by (state_next checking (check_reading lines) line).answer
  pub next : check_reading (lines ++ line ∷ []) ≡ (state_next checking (check_reading lines) line).next
  pub printed : fault_of_stop (rinex_reading false (lines ++ line ∷ [])).stop ≡ None
      → printed_of (lines ++ line ∷ []) ≡ printed_of lines ++ given_back lines line ∷ []

pub one-on : (lines : List ReadLine) (line : ReadLine) → IsOneOn lines line
one-on lines line = grind (
  arith,
  common_steps,
  fed-once checking (check_reading lines) line (once-again lines line),
  more-line check-carried_out 1 (length lines) (length (lines ++ line ∷ [])) lines (lines ++ line ∷ []) line
      (omega arith) (length-append lines (line ∷ [])) refl,
  line-grows (length lines) (check_reading lines).phase (check_reading lines).types (check_reading lines).kept
      line (phase-reached lines),
  append_assoc,
)

-- ---- one line is printed for each line read

-- without a fault after more lines there is none before them
good-before : (lines more : List ReadLine) → fault_of_stop (rinex_reading false (lines ++ more)).stop ≡ None
    → fault_of_stop (rinex_reading false lines).stop ≡ None
good-before lines more none = by_fault (fault_of_stop (rinex_reading false lines).stop) refl
  where
    by_fault : (o : Option At) → fault_of_stop (rinex_reading false lines).stop ≡ o → o ≡ None
    by_fault None e = refl
    by_fault (Some at) e = absurd (none-some at (cc (none, (rinex-stays false lines more at e).same, e)))

as-many-on : (more lines : List ReadLine) → length (printed_of lines) ≡ length lines → fault_of_stop
    (rinex_reading false (lines ++ more)).stop ≡ None → length (printed_of (lines ++ more))
    ≡ length (lines ++ more)
as-many-on [] lines h none = cc (append-nil lines, h, append-nil lines)
as-many-on (line ∷ more) lines h none =
    grind (arith, common_steps, one-on, good-before, length-append, as-many-on more (lines ++ line ∷ []))

pub as-many : (lines : List ReadLine)
    → fault_of_stop (rinex_reading false lines).stop ≡ None → length (printed_of lines) ≡ length lines
as-many lines none = as-many-on lines [] refl none

-- ---- the first line that isn't standard

first-on : (number : ℕ) (lines : List InputLine) (texts : List (List ℕ)) (line : InputLine) (text : List ℕ)
    → length texts ≡ length lines → first_not_standard number (lines ++ line ∷ []) (texts ++ text ∷ [])
    ≡ earliest (first_not_standard number lines texts) (is_standard_line line text) (number + length lines)
first-on number [] [] line text e = grind arith
first-on number [] (t ∷ texts) line text e = absurd (cc)
first-on number (l ∷ lines) [] line text e = absurd (cc)
first-on number (l ∷ lines) (t ∷ texts) line text e =
    grind (arith, common_steps, first-on (number + 1) lines texts line text)

-- ---- one line more

pub checked-on : (lines : List InputLine) (line : InputLine) → IsCheckedOn lines line
checked-on lines line =
    grind (arith, common_steps, one-on, same-state, once-again, as-many, good-before, first-on)
