-- The search for a line's end found the first line of the input.
use Rattle.std.proofs.Common.{rules, eqb, ltb, ◌||◌, ◌≡◌, ◌≢◌, ℕ, ◌+◌, ◌-◌, ◌<◌, ◌≤◌, Bool, true, false, not}
use Rattle.std.proofs.Common.{◌&&◌, cond, List, ◌++◌, ◌⊎◌, length, take, drop, slice_index, IsTrue}
use Rattle.std.proofs.Common.{MatchBool, ap, ◌∙◌, arith, ⊎_elim}
use Rattle.std.proofs.Common.{length-append, length-take, length-drop}
use Rattle.std.proofs.lemmas.{Bool.{lt-ltb, Decides.nat_tests}, Grind.common_steps}
use Rattle.std.proofs.lemmas.List.{get_or-take, nil_from_length}
use Rattle.std.proofs.lemmas.List.Elements.{All-from_get_or}
use mir.Val.{bool_byte}
use Rattle.crx_lines.specs.{Reading.{HasNoFeed, ReaderState, BeginsWith, TakesPiece}}
use Rattle.crx_lines.specs.Reading.{Stops, AnswersFault}
use Rattle.crx_lines.{specs.Seeking.{EndsSearch, Seeking}, proofs.SeekLemmas.Seeking-sum}
use Rattle.crx_lines.{proofs.ReturnLemmas.length-without_return, specs.meaning.Devices.{Tally}}
use Rattle.crx_lines.specs.declared.{phase.Phase.TheVariants.{Open, Ended}}
use Rattle.crx_base.specs.declared.fault.{At.At, Fault.{Fault, TheVariants.{InputTooLong, ReadFailed}}}
use Rattle.crx_base.specs.{declared.limits.TheConstants.{LINE_LIMIT, INPUT_LIMIT}, meaning.Lines.Piece}
use Rattle.crx_base.specs.meaning.Lines.{line_of, is_long, without_return}

-- the first bytes that were searched have no LF
searched-no_feed : (held : List ℕ) (n : ℕ)
    → n ≤ length held → ((k : ℕ) → k < n → slice_index held k ≢ 10) → HasNoFeed (take n held)
searched-no_feed held n within none =
    All-from_get_or (λ b. b ≢ 10) _ 0
    (λ k h. grind (arith, common_steps, k, length-take, get_or-take))

-- the line's bytes, discarded or held
abbrev pub piece_at : List ℕ → List ℕ → ℕ → Bool → Piece
piece_at front held len is_ended = record { bytes = front ++ take len held; is_ended = is_ended }

-- the place of the line's end
abbrev pub EndIs : List ℕ → ℕ → Bool → Type 0 → Type 0
EndIs held len is_ended at_end =
    MatchBool is_ended ((len < length held) × (slice_index held len ≡ 10)) ((len ≡ length held) × at_end)

module _ (gave : List ℕ → Type 0) (old held : List ℕ) (before room passed len n : ℕ) (at_end : Type 0)
    (is_ended : Bool) (s : Seeking gave old held before room passed len)
    (end : EndIs held len is_ended at_end) (count : n ≡ len + cond is_ended 1 0) where
  -- how many of the held bytes are the line's, with its LF
  held-within : n ≤ length held
  held-within = grind arith

  -- the bytes passed with the line, and those held after it, are within the limit
  pub passed-within : (before + (passed + n)) + (length held - n) ≤ INPUT_LIMIT
  passed-within = omega (arith, Seeking-sum gave old held before room passed len s, held-within)

  module _ (some : (0 < passed + len) ⊎ (is_ended ≡ true)) where
    begins : BeginsWith (old ++ s.given) at_end (piece_at s.front held len is_ended) (drop n held)
    begins = grind (arith, common_steps, searched-no_feed)

    pub some-byte : 0 < passed + n
    some-byte = grind arith

    pub takes : (was after : ReaderState) → was.rest ≡ old → was.passed ≡ before → after.rest ≡ drop n held
        → after.passed ≡ before + (passed + n)
        → after.number ≡ was.number + 1 → after.phase ≡ cond is_ended Open Ended
        → TakesPiece was s.given at_end (piece_at s.front held len is_ended) after
    takes was after rest passed_is left passes number phase = record {
      first = rw (rest, left) begins;
      passed = grind (arith, common_steps, length-append, length-drop, Seeking-sum, held-within);
      within = grind (arith, common_steps, length-drop, passed-within);
      number = number;
      phase = phase;
    }

  -- if nothing was discarded, the whole line is held
  pub whole-piece : passed ≡ 0 → s.front ++ take len held ≡ take len held
  whole-piece none = ap (λ l. l ++ take len held) (nil_from_length s.front (s.passed_is ∙ none))

  pub content-long : (content : List ℕ) → content ≡ without_return (take len held)
      → (0 < passed) ⊎ (LINE_LIMIT < length content)
      → IsTrue (is_long (line_of (piece_at s.front held len is_ended)))
  content-long = search (rules, length-append, lt-ltb, ⊎_elim, length-without_return, whole-piece)

-- the fault that ended the search is returned
pub fault-answers : (given : List ℕ) (at_end : Type 0) (tally counted : Tally) (was after : ReaderState)
    (at : At) (fault : Fault) → EndsSearch fault was.passed was.rest given tally counted → Stops was at after
    → AnswersFault was given at_end tally counted at fault after
fault-answers given at_end tally counted was after at InputTooLong end stops = (end.0, end.1, stops, end.2)
fault-answers given at_end tally counted was after at ReadFailed end stops = (end.0, end.1, stops, end.2)
fault-answers given at_end tally counted was after at _ end stops = absurd end

-- ---- the tests of a line that was read

pub some-read : (passed len : ℕ) (is_ended : Bool)
    → eqb passed 0 && eqb len 0 && not is_ended ≡ false → (0 < passed + len) ⊎ (is_ended ≡ true)
some-read passed len is_ended h = grind (arith, nat_tests)

pub too-long : (passed len : ℕ)
    → ltb 0 passed || ltb LINE_LIMIT len ≡ true → (0 < passed) ⊎ (LINE_LIMIT < len)
too-long passed len h = grind (arith, nat_tests)

pub none-passed : (passed len : ℕ) → ltb 0 passed || ltb LINE_LIMIT len ≡ false → passed ≡ 0
none-passed passed len h = grind (arith, nat_tests)

-- how many bytes of the window are the line's, with its LF
pub held-is : (len more : ℕ) (is_ended : Bool)
    → more ≡ bool_byte is_ended → len + more ≡ len + cond is_ended 1 0
held-is = grind arith
