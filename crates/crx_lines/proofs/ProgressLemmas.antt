-- From one answer of a reader of lines to the next: the lines so far, and the bytes that were read.
use Rattle.std.proofs.{lemmas.{Grind.common_steps, List.{length_push}}, Math.Seq.take-append-add}
use Rattle.std.proofs.{lemmas.List.take_all, Common.{◌≡◌, ◌⊎◌, ℕ, ◌+◌, ◌-◌, ◌<◌, ◌≤◌, Bool, true}}
use Rattle.std.proofs.Common.{false, Option, Some, None, Result, Ok, Err, List, [], ◌∷◌, ◌++◌, length, take}
use Rattle.std.proofs.Common.{map, refl, sym, ap, ◌∙◌, subst, arith, append-nil, length-append, rules}
use Rattle.crx_lines.specs.{Devices.{with_end, tally_after_line}, Reading.{HasNoFeed, ReaderState}}
use Rattle.crx_lines.specs.Reading.{TakesPiece, ReaderAnswers, AnswersFault, Stops}
use Rattle.crx_lines.specs.Progress.{IsOpen, IsOver, IsStopped, StandsAt, HasRead, IsOneMore, AtFault}
use Rattle.crx_lines.{specs.Progress.AtAnswer, proofs.PieceLemmas.{pieces-first, pieces-last, pieces-split}}
use Rattle.crx_lines.{proofs.PieceLemmas.ended-none, specs.meaning.Devices.{one_more, Tally, with_failure}}
use Rattle.crx_lines.specs.declared.{line.Line.Line, phase.Phase.TheVariants.{Open, Ended, Stopped}}
use Rattle.crx_base.specs.declared.fault.{At.At, Fault.{Fault, TheVariants.{LineTooLong, InputTooLong}}}
use Rattle.crx_base.specs.declared.{fault.Fault.TheVariants.ReadFailed, limits.TheConstants.INPUT_LIMIT}
use Rattle.crx_base.specs.meaning.Lines.{InputLine, Piece, lines_of, line_of}
use Rattle.crx_base.specs.meaning.AsRead.{ended_pieces}
use Rattle.crx_base.specs.meaning.AsRead.{ended_lines_of}

abbrev ended_piece : List ℕ → Piece
ended_piece bytes = record { bytes = bytes; is_ended = true }

abbrev last_piece : List ℕ → Piece
last_piece bytes = record { bytes = bytes; is_ended = false }

-- the lines of an input that begins with a piece and its LF
pub lines-first : (piece rest : List ℕ)
    → HasNoFeed piece → lines_of (piece ++ 10 ∷ rest) ≡ line_of (ended_piece piece) ∷ lines_of rest
lines-first piece rest none = ap (map line_of) (pieces-first piece rest none)

pub ended_lines-first : (piece rest : List ℕ) → HasNoFeed piece → ended_lines_of (piece ++ 10 ∷ rest)
    ≡ line_of (ended_piece piece) ∷ ended_lines_of rest
ended_lines-first piece rest none = ap (λ ps. map line_of (ended_pieces ps)) (pieces-first piece rest none)

-- an input without LF
pub lines-last : (piece : List ℕ)
    → HasNoFeed piece → 0 < length piece → lines_of piece ≡ line_of (last_piece piece) ∷ []
lines-last piece none some = ap (map line_of) (pieces-last piece none some)

pub ended_lines-none : (bytes : List ℕ) → HasNoFeed bytes → ended_lines_of bytes ≡ []
ended_lines-none bytes none = ap (map line_of) (ended-none bytes none)

take-past : (xs ys : List ℕ) (n room : ℕ) → n ≡ length xs + room → take n (xs ++ ys) ≡ xs ++ take room ys
take-past xs ys n room e = ap (λ k. take k (xs ++ ys)) e ∙ take-append-add xs ys room

pub HasRead-start : (gave : List ℕ → Type 0) (at_end : Type 0) (start : Tally) → gave []
    → HasRead gave at_end start start (record { rest = []; passed = 0; number = 0; phase = Open }) []
HasRead-start gave at_end start lead = grind (arith, common_steps)

module _ (at_end : Type 0) (start counted counted' : Tally) (given more : List ℕ)
    (old new : ReaderState) (lines : List InputLine) (o : IsOpen start counted given old lines) where
  line-ended : (bytes : List ℕ) → TakesPiece old more at_end (ended_piece bytes) new → counted' ≡ counted
      → IsOpen start counted' (given ++ more) new (lines ++ line_of (ended_piece bytes) ∷ [])
  line-ended = grind (arith, common_steps, length-append, lines-first, ended_lines-first)

  line-last : (bytes : List ℕ) → TakesPiece old more at_end (last_piece bytes) new
      → counted' ≡ with_end counted
      → IsOver at_end start counted' (given ++ more) (lines ++ line_of (last_piece bytes) ∷ [])
  line-last bytes t same = grind (arith, common_steps, length-append, lines_of, lines-last, with_end)

  line-stands : (bytes : List ℕ) (is_ended : Bool)
      → TakesPiece old more at_end (record { bytes = bytes; is_ended = is_ended }) new
      → counted' ≡ tally_after_line is_ended counted → StandsAt new.phase at_end start counted'
      (given ++ more) new (lines ++ line_of (record { bytes = bytes; is_ended = is_ended }) ∷ [])
  line-stands = grind (arith, common_steps, line-ended, line-last)

  none-over : old.rest ++ more ≡ []
      → at_end → counted' ≡ with_end counted → IsOver at_end start counted' (given ++ more) lines
  none-over none reported same = search (rules, arith, length-append given more, length-append old.rest more)

  -- the bytes so far, of which the last have no LF
  ended-so-far : (front : List ℕ) → HasNoFeed (old.rest ++ front) → lines ≡ ended_lines_of (given ++ front)
  ended-so-far front none = grind (arith, common_steps, ended_lines-none, append-nil)

  failed-stops : old.passed + length (old.rest ++ more) ≤ INPUT_LIMIT
      → HasNoFeed (old.rest ++ more) → counted' ≡ with_failure counted
      → IsStopped ReadFailed start counted' (given ++ more) lines
  failed-stops within none same = grind (arith, common_steps, length-append, ended-so-far, with_failure)

  over-stops : INPUT_LIMIT < old.passed + length (old.rest ++ more)
      → HasNoFeed (take (INPUT_LIMIT - old.passed) (old.rest ++ more)) → counted' ≡ counted
      → IsStopped InputTooLong start counted' (given ++ more) lines
  over-stops over none same =
      let room = INPUT_LIMIT - length given in
      let first : take (INPUT_LIMIT - old.passed) (old.rest ++ more) ≡ old.rest ++ take room more =
      take-past old.rest more (INPUT_LIMIT - old.passed) room (omega (arith, o.bytes, o.within)) in
      let whole : take INPUT_LIMIT (given ++ more) ≡ given ++ take room more =
      take-past given more INPUT_LIMIT room (omega (arith, o.within)) in (
        omega (arith, over, length-append given more, length-append old.rest more, o.bytes),
        ended-so-far (take room more) (subst HasNoFeed first none) ∙ ap ended_lines_of (sym whole),
        same ∙ o.counts,
      )

module _ (gave gives step : List ℕ → Type 0)
    (at_end at_end' : Type 0) (start counted counted' : Tally) (old new : ReaderState)
    (lines : List InputLine)
    (h : HasRead gave at_end start counted old lines) (goes : (given more : List ℕ)
    → gave given → step more → gives (given ++ more)) where
  is-open : old.phase ≡ Open → IsOpen start counted h.given old lines
  is-open e = grind arith

  one-more : (more : List ℕ) (p : Piece) (line : InputLine) (number : ℕ)
      → TakesPiece old more at_end' p new → line ≡ line_of p → number ≡ new.number
      → IsOneMore old new lines (lines ++ line_of p ∷ []) line number
  one-more = grind (arith, common_steps, length_push)

  read-line : old.phase ≡ Open → (more : List ℕ) → step more → (p : Piece) → TakesPiece old more at_end' p new
      → counted' ≡ tally_after_line p.is_ended counted
      → HasRead gives at_end' start counted' new (lines ++ line_of p ∷ [])
  read-line e more lead p t same = grind (arith, common_steps, length_push, line_of, line-stands, is-open)

  read-stop : (f : Fault) (more : List ℕ) → step more → (at : At) → at.fault ≡ f → Stops old at new
      → IsStopped f start counted' (h.given ++ more) lines → HasRead gives at_end' start counted' new lines
  read-stop f more lead at is stops stopped = record {
    given = h.given ++ more;
    lead = goes h.given more h.lead lead;
    number = stops.number ∙ h.number;
    stands = rw (stops.phase, is) (stopped, omega (arith, stops.line, h.number));
  }

  at-fault : (f : Fault) (at : At) → at.fault ≡ f → old.phase ≡ Open → (more : List ℕ) → step more
      → AnswersFault old more at_end' counted counted' at f new
      → (then : List InputLine) × AtFault f at old new lines then × HasRead gives at_end' start counted' new
      then
  at-fault LineTooLong at is e more lead a = grind (arith, common_steps, one-more, read-line)
  at-fault InputTooLong at is e more lead a =
      grind (
        arith,
        common_steps,
        read-stop InputTooLong more lead at is a.2 (over-stops at_end' start counted
            counted' h.given more old new lines (is-open e) a.0 a.1 a.3),
      )
  at-fault ReadFailed at is e more lead a =
      grind (
        arith,
        common_steps,
        read-stop ReadFailed more lead at is a.2 (failed-stops at_end' start counted
            counted' h.given more old new lines (is-open e) a.0 a.1 a.3),
      )
  at-fault _ at is e more lead a = absurd a

  -- an answer while more lines may follow
  pub HasRead-next : old.phase ≡ Open → (more : List ℕ)
      → step more → (r : Result (Option Line) At) → ReaderAnswers old more at_end' counted counted' r new
      → (then : List InputLine) × AtAnswer r old new lines then
      × HasRead gives at_end' start counted' new then
  HasRead-next e more lead (Ok (Some line)) a = grind (arith, common_steps, one-more, read-line)
  HasRead-next e more lead (Ok None) a =
      grind (
        arith,
        common_steps,
        none-over at_end' start counted counted' h.given more old new lines (is-open e) a.0 a.1 a.3,
      )
  HasRead-next e more lead (Err at) a = at-fault at.fault at refl e more lead a

-- the lines whose LF was read are the first ones, whatever follows
pub ended_lines-come_first : (given : List ℕ) → (rest : List ℕ) × HasNoFeed rest
    × ((more : List ℕ) → lines_of (given ++ more) ≡ ended_lines_of given ++ lines_of (rest ++ more))
ended_lines-come_first given = grind (arith, common_steps, pieces-split given)

-- at the end, and at a fault
module _ (gave : List ℕ → Type 0) (at_end : Type 0) (start counted : Tally)
    (now : ReaderState) (lines : List InputLine) (h : HasRead gave at_end start counted now lines) where
  pub HasRead-ended : now.phase ≡ Ended → IsOver at_end start counted h.given lines
  HasRead-ended e = grind arith

  pub HasRead-stopped : (at : At)
      → now.phase ≡ Stopped at → IsStopped at.fault start counted h.given lines × (at.line ≡ length lines + 1)
  HasRead-stopped at e = grind arith

-- either way the lines are those whose LF is within the limit
pub stopped-cases : (f : Fault) (start counted : Tally) (given : List ℕ) (lines : List InputLine)
    → IsStopped f start counted given lines
    → (counted.ends ≡ start.ends) × (lines ≡ ended_lines_of (take INPUT_LIMIT given))
    × (((f ≡ InputTooLong) × (INPUT_LIMIT < length given) × (counted.failures ≡ start.failures))
    ⊎ ((f ≡ ReadFailed) × (length given ≤ INPUT_LIMIT) × (counted.failures ≡ one_more start.failures)))
stopped-cases InputTooLong start counted given lines s = grind arith
stopped-cases ReadFailed start counted given lines s = search (rules, arith, take_all INPUT_LIMIT given s.0)
stopped-cases _ start counted given lines s = absurd s
