-- The texts collected from a whole run are its result, or its output is longer than its limit.
use Rattle.std.proofs.lemmas.{Bool.cases_lt, Grind.common_steps}
use Rattle.rnxcmp_c.proofs.{GoingLemmas.begins-then, ReaderLemmas.lawful-for}
use Rattle.rnxcmp_c.proofs.{ReaderLemmas.output-for, Vocabulary.{◌≡◌, ⊎_elim, inl, inr, ℕ, ◌≤◌, List, [], ◌++◌}}
use Rattle.rnxcmp_c.proofs.Vocabulary.{length, take, true, refl, sym, ap, ◌∙◌, arith, append-nil}
use Rattle.rnxcmp_c.proofs.Vocabulary.{length-append}
use Rattle.rnxcmp_c.proofs.Vocabulary.{take_all, lines_of, ended_lines_of, code_of_fault, OutOfMemory}
use Rattle.rnxcmp_c.proofs.Vocabulary.{INPUT_LIMIT, ended_lines-come_first, Outcome, Begins, FilterResult}
use Rattle.rnxcmp_c.proofs.Vocabulary.{Device, Answer, AnswersWithin, BothTexts, HasNoMemory}
use Rattle.rnxcmp_c.proofs.Vocabulary.{placed, Task, filter_for, result_for}
use Rattle.rnxcmp_c.specs.{Collecting.{AnswersRun, IsEmpty, TakeEnough, taken_of}, Counting.Took}
use Rattle.rnxcmp_c.specs.{declared.devices.Counted.Counted, meaning.Answers.AnswersAlone}
use Rattle.crx_runs.specs.meaning.Interruptions.{AreReported, IsFrontPart, Stands, complete_lines}
use Rattle.crx_runs.specs.meaning.Runs.{IsResult, RunsAs}
use Rattle.crx_runs.specs.meaning.Spans.{Input}
use Rattle.crx_base.specs.declared.fault.Fault.{Fault}
use Rattle.crx_base.specs.declared.fault.Fault.TheVariants.{InputTooLong, ReadFailed, WriteFailed}
use Rattle.rnxcmp_c.proofs.Vocabulary.{At, Option, None, Some, ◌-◌}
use Rattle.std.specs.Prelude.{◌^◌}
use Rattle.crx_lines.specs.meaning.Devices.{tally_of}

-- copying the part of a text that fits is copying the text
placed-taken : (text room : List ℕ) → placed (take (length room) text) room ≡ placed text room
placed-taken text room = grind (arith, common_steps, ⊎_elim, cases_lt)

module _ {outcome : Outcome} {output messages : Counted} {most : ℕ} {answer : Answer} {before after :
    BothTexts} where
  -- an answer that says that memory was refused has no texts
  pub answers-alone : AnswersRun outcome output messages most answer before after → HasNoMemory answer
      → AnswersAlone 1 answer.line (code_of_fault OutOfMemory) answer before after
  answers-alone = grind arith

-- the source of the caller's input, by the bytes left, and a sink that collects a text
abbrev gives : List ℕ → List ℕ → ℕ → ℕ → Input
gives before after ends then_ends = record {
  gave = λ given. before ≡ given ++ after;
  at_end = after ≡ [];
  start = tally_of 0 ends;
  counted = tally_of 0 then_ends;
}

abbrev collects : Counted → Counted → Device
collects before after = record {
  took = λ text. Took before text after;
  flushed = after.flushed ≡ true;
  before = record { failures = before.failures; flushes = before.flushes };
  after = record { failures = after.failures; flushes = after.flushes };
}

-- however a run ended, its sinks take as much as before
module _ (task : Task) {left rest given : List ℕ} {ends then_ends : ℕ} {outcome : Outcome}
    {output_before output_after messages_before messages_after : Counted}
    (runs : RunsAs (result_for task) (filter_for task) (gives left rest ends then_ends) given
    (collects output_before output_after) (collects messages_before messages_after) outcome.status
    outcome.fault) where
  abbrev IsTold : Type 0
  IsTold = (told : List ℕ) × Took messages_before told messages_after

  reported-told : (warnings : List At) (at : At)
      → AreReported (collects messages_before messages_after) at warnings → IsTold
  reported-told warnings at (inl all) = (_, all.0)
  reported-told warnings at (inr part) = (_, part.took)

  fault-told : (f : Fault) (at : At) → Stands (filter_for task) (gives left rest ends then_ends) given
      (collects output_before output_after) (collects messages_before messages_after) at f → IsTold
  fault-told ReadFailed at s = reported-told _ at s.reported
  fault-told InputTooLong at s = reported-told _ at s.reported
  fault-told OutOfMemory at (inl s) = reported-told [] at s.reported
  fault-told OutOfMemory at (inr s) = reported-told _ at s.3.reported
  fault-told WriteFailed at (inl s) = reported-told _ at s.2.reported
  fault-told WriteFailed at (inr (inl s)) = (_, s.2.reported.took)
  fault-told WriteFailed at (inr (inr (inl s))) = reported-told _ at s.reported
  fault-told WriteFailed at (inr (inr (inr s))) = reported-told _ at s.1.reported
  fault-told other at s = reported-told _ at s.2.reported

  told : (fault : Option At) → outcome.fault ≡ fault → IsTold
  told None is = (_, (runs.good is).5.messages_are)
  told (Some at) is = fault-told at.fault at (runs.ended at is).1

  pub take-enough : {output_room messages_room counted_most told_most most : ℕ}
      → IsEmpty output_room counted_most output_before → IsEmpty messages_room told_most messages_before
      → counted_most ≡ taken_of most → told_most ≡ 2 ^ 64 - 1 → TakeEnough output_after messages_after most
  take-enough empty none_told counted all = grind (arith, runs.front, told outcome.fault refl)

-- the output and messages of a run for a task, in sinks with the room of a call's buffers
module _ (task : Task) {left rest given text : List ℕ} {ends then_ends : ℕ} {outcome : Outcome}
    {output_before output_after messages_before messages_after : Counted}
    (runs : RunsAs (result_for task) (filter_for task) (gives left rest ends then_ends) given
    (collects output_before output_after) (collects messages_before messages_after) outcome.status
    outcome.fault)
    (same : text ≡ given ++ rest) (within : length text ≤ INPUT_LIMIT) (before after : BothTexts)
    {counted_most told_most : ℕ} (empty : IsEmpty (length before.output) counted_most output_before)
    (none_told : IsEmpty (length before.messages) told_most messages_before) where
  abbrev whole : FilterResult
  whole = result_for task text

  -- the bytes written are a prefix of the whole output
  first-written : IsFrontPart (filter_for task) (gives left rest ends then_ends) given
      (collects output_before output_after)
      → (written : List ℕ) × Took output_before written output_after × Begins whole.output written
  first-written front =
      let first = ended_lines-come_first given in
      let complete : complete_lines given ≡ ended_lines_of given = ap ended_lines_of
      (take_all INPUT_LIMIT given (omega (arith, within, ap length same, length-append given rest))) in (
        front.written,
        front.wrote,
        rw (output-for task text, same) (elim front.first [
          | inl some ↦ begins-then _ ((filter_for task).so_far (ended_lines_of given)).output _
              (rw (first.2 rest)
              ((lawful-for task).goes_on (ended_lines_of given) (lines_of (first.0 ++ rest))))
              (rw complete at some)
          | inr all ↦ rw (all.0, append-nil given) all.1
        ]),
      )

  pub answers-within : {most : ℕ} {answer : Answer}
      → AnswersRun outcome output_after messages_after most answer before after → (HasNoMemory answer → ⊥)
      → AnswersWithin most whole answer before after
  answers-within {most} (inl is) memory =
      let made : IsResult whole (collects output_before output_after)
      (collects messages_before messages_after) outcome.status outcome.fault =
      rw same (runs.whole (refl, omega arith) (is.output_good ∙ sym empty.good, omega (arith, empty.good))
      (is.messages_good ∙ sym none_told.good, omega (arith, none_told.good)) (grind (arith, is.memory)) rest
      (λ ended. ended) (rw same at within)) in
      grind (arith, common_steps, placed-taken, made.output, made.messages_are)
  answers-within {most} (inr (none, unchanged)) memory =
      grind (arith, common_steps, first-written, ⊎_elim)
