-- The output stays within its limit, or the output of the line is dropped.
use Rattle.std.proofs.{Common.{rules, Result, Ok, Err}, lemmas.Grind.common_steps, lemmas.Result.IfErr-at_err}
use Rattle.rnxcmp_c.proofs.Vocabulary.{◌≡◌, ℕ, ◌+◌, ◌<◌, List, [], ◌++◌, length, take, refl, sym, ap, ◌∙◌, arith}
use Rattle.rnxcmp_c.proofs.Vocabulary.{length-append, ◌⊎◌, inl, inr, ⊎_elim, append-nil, Bool, ◌||◌, Option, IfErr}
use Rattle.rnxcmp_c.proofs.Vocabulary.{IfOk, At, OutOfMemory, Halt, Begins, Course, IsKept}
use Rattle.rnxcmp_c.proofs.Vocabulary.{MovesWithin, PassesLimit, StepStops, StopsBy, StopsShort, StopsCounted}
use Rattle.rnxcmp_c.proofs.Vocabulary.{waiting, HandleState, Stop, Fault, Limit, take_at}
use Rattle.rnxcmp_c.specs.{Going.LosesText, declared.handle_state.Mark.Mark}
use Rattle.rnxcmp_c.specs.Holding.{AreCutTo, IsCounted, IsCutBack, StaysWithin, IsMark, IsMarkWithin}

-- a text that was cut back to its earlier length
cut-to : (old mid new more : List ℕ) (mark : ℕ) → mid ≡ old ++ more → mark ≡ length old → new ≡ take mark mid
    → new ≡ old
cut-to old mid new more mark grew marked cut = cut ∙ ap (take mark) grew ∙ take_at old more mark (sym marked)

-- the parts kept of both texts of a line, or of the end, that was taken or ended the run
pub record HasPart (before after : Course) (old mid : HandleState) : Type 0 where
  pub text : List ℕ
  pub told : List ℕ
  pub wrote : waiting mid.output ≡ waiting old.output ++ text
  pub first : (text ≡ []) ⊎ Begins after.output (before.output ++ text)
  pub reported : waiting mid.messages ≡ waiting old.messages ++ told

module _ (before after : Course) (shown : Type 0) (old mid : HandleState) (warned : Bool)
    (kept : IsKept before after shown old.output mid.output old.messages mid.messages warned) where
  kept-part : HasPart before after old mid
  kept-part = search (rules, append-nil)

  stays-within : (new : HandleState) (mark : Mark) → IsMark mark old → mid.limit ≡ old.limit
      → mid.left ≡ old.left → mid.warned ≡ old.warned
      → new ≡ record mid { left = new.left; warned = mid.warned || warned }
      → (0 < mid.limit → new.left + length (waiting mid.output) ≡ mid.left + mark.output)
      → MovesWithin before after shown old new
  stays-within new mark marked limit left flag same counted = grind (arith, common_steps, length-append)

module _ (number : ℕ) (memory : Option (List At)) (before after : Course) (old mid : HandleState) where
  same-output : waiting mid.output ≡ waiting old.output → waiting mid.output ≡ waiting old.output ++ []
  same-output same = same ∙ sym (append-nil _)

  pub part-of : (halt : Halt)
      → StopsBy number memory before after old.output mid.output old.messages mid.messages halt
      → HasPart before after old mid
  part-of = grind (arith, common_steps, same-output)

  lost-stops : (new counted : HandleState) (mark : Mark) → IsMark mark old → counted ≡ record mid
      { left = counted.left }
      → AreCutTo mark counted new → LosesText before after old.output mid.output old.messages mid.messages
      → StopsShort memory before after old new
  lost-stops new counted mark marked same cut loses = record {
    notices = [];
    asked = inr (refl, ⊎_elim (λ output. inl output.longer) (λ messages. inr messages.longer) loses.lost);
    own = inl refl;
    wrote = grind (arith, common_steps, cut-to);
    reported = grind (arith, common_steps, cut-to, append-nil);
    lacking = grind (arith, common_steps);
  }

  module _ (new : HandleState) (mark : Mark) (marked : IsMark mark old) (limit : mid.limit ≡ old.limit)
      (left : mid.left ≡ old.left) where
    stops-lost : (at : At) → at ≡ record { line = number; fault = OutOfMemory }
        → LosesText before after old.output mid.output old.messages mid.messages
        → (counted : HandleState) → StaysWithin mark.output mid counted → AreCutTo mark counted new
        → StepStops number memory before after old new (Fault at)
    stops-lost at is loses counted stays cut = grind (arith, common_steps, lost-stops)

    stops-over : HasPart before after old mid → IsCutBack mark mid new → PassesLimit before after old new
    stops-over part back = grind (arith, common_steps, length-append, ⊎_elim, cut-to)

-- after any step its output was counted from a mark
module _ (number : ℕ) (memory : Option (List At)) (before after : Course) (shown : Type 0)
    (old mid : HandleState) where
  abbrev pub Kept : Result Bool Halt → Type 0
  Kept taken = IfOk taken
      (λ warned. IsKept before after shown old.output mid.output old.messages mid.messages warned)

  abbrev pub Ended : Result Bool Halt → Type 0
  Ended taken =
      IfErr taken (λ halt. StopsBy number memory before after old.output mid.output old.messages mid.messages
      halt)

  part-either : (taken : Result Bool Halt) → Kept taken → Ended taken → HasPart before after old mid
  part-either = grind (arith, common_steps, kept-part, part-of)

  pub marks-within : (mark : Mark) → IsMark mark old → (taken : Result Bool Halt) → Kept taken → Ended taken
      → IsMarkWithin mark mid
  marks-within mark marked taken kept stopped = grind (arith, common_steps, part-either)

  module _ (new : HandleState) (mark : Mark) (marked : IsMark mark old) (limit : mid.limit ≡ old.limit)
      (left : mid.left ≡ old.left) where
    pub step-stays : mid.warned ≡ old.warned → (taken : Result Bool Halt) → Kept taken
        → IsCounted taken mark mid new → MovesWithin before after shown old new
    step-stays flag taken kept counted = grind (arith, common_steps, stays-within)

    pub step-stops : (taken : Result Bool Halt) → Kept taken → Ended taken → (stop : Stop)
        → StopsCounted taken mark number mid new stop → StepStops number memory before after old new stop
    step-stops taken kept stopped Limit back = grind (arith, common_steps, stops-over, part-either)
    step-stops (Ok warned) kept stopped (Fault at) lost = grind arith
    step-stops (Err halt) kept stopped (Fault at) (inl stays) = grind arith
    step-stops (Err halt) kept stopped (Fault at) (inr lost) =
        stops-lost number memory before after old mid new mark marked limit left at lost.1
        (grind (arith, common_steps, IfErr-at_err, lost.0)) lost.2.0 lost.2.1 lost.2.2
