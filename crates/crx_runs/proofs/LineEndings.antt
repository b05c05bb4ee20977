-- How a line continues or ends a run, from one span of it to the next.
use Rattle.std.proofs.lemmas.Grind.{common_steps}
use Rattle.std.proofs.Common.{◌≡◌, ◌⊎◌, ℕ, ◌<◌, List, [], ◌++◌, length, Option, Some, None, Bool}
use Rattle.std.proofs.Common.{refl, sym, ap, ◌∙◌, arith, append_assoc, append-nil, length-append}
use Rattle.crx_base.specs.declared.fault.{At.At, Fault.TheVariants.OutOfMemory}
use Rattle.crx_runs.proofs.DeviceSpans.{Joins, Carries, all-all, all-resumed, carry-on, none-resumed}
use Rattle.crx_runs.proofs.DeviceSpans.{part-resumed}
use Rattle.crx_runs.{proofs.DeviceSpans.notices-append}
use Rattle.crx_runs.{specs.Endings.{IsAllOut, EndsAt, EndsFrom, resumed}}
use Rattle.crx_runs.specs.{Engines.{Adds, EndsWith}, Taking.IsDone, declared.one_line.Halt.Halt}
use Rattle.crx_runs.specs.declared.one_line.Halt.TheVariants.{Fault, Unwritten, Unreported}
use Rattle.crx_runs.specs.meaning.{Messages.notices_text, Results.{Course, are_some}}
use Rattle.crx_runs.specs.meaning.{Spans.{Device, TookAll, AreNext}}

-- an ending, by devices that took at least the same
pub carried-ends : {writer writer' messages messages' : Device} → Carries writer writer' → Carries messages
    messages' → (memory : Option (List At)) (number : ℕ) (before after : Course) (halt : Halt) → EndsAt memory
    number writer messages before after halt → EndsAt memory number writer' messages' before after halt
carried-ends = grind arith

module _ {writer1 writer2 writer messages1 messages2 messages : Device}
    (w : Joins writer1 writer2 writer) (m : Joins messages1 messages2 messages)
    (before after : Course) (out : IsAllOut writer1 messages1 before) where
  -- all earlier output and the added one were written and reported
  pub out-more : (text : List ℕ) (notices : List At) → Adds before after text notices
      → TookAll writer2 text → TookAll messages2 (notices_text notices) → IsAllOut writer messages after
  out-more = grind (arith, common_steps, notices-append)

-- a step at a line, or at the end, after the messages of earlier warnings
module _ {writer1 writer2 writer messages1 messages2 messages : Device} (w : Joins writer1 writer2 writer)
    (m : Joins messages1 messages2 messages) (before after : Course) (earlier : List At)
    (wrote : TookAll writer1 []) (reported : TookAll messages1 (notices_text earlier)) where
  abbrev told : List At
  told = before.warnings ++ earlier

  -- a step was written and reported
  pub step-done : (text : List ℕ) (notices : List At) {shown : Type 0} → shown
      → Adds before after text (earlier ++ notices)
      → IsAllOut writer2 messages2 (record { output = text; warnings = notices; fault = None }) →
      (warned : Bool)
      → warned ≡ are_some (earlier ++ notices) → IsDone before after shown writer messages warned
  step-done text notices is adds out warned flag = record {
    is_shown = is;
    text = text;
    notices = earlier ++ notices;
    adds = adds;
    wrote = all-all w [] text wrote out.wrote;
    reported = rw (notices-append) (all-all m (notices_text earlier) _ reported out.reported);
    flag = flag;
  }

  module _ (memory : Option (List At)) (number : ℕ) where
    over-both : (halt : Halt) → EndsAt memory number (resumed writer2 before.output)
        (resumed messages2 (notices_text told)) before after halt
        → EndsFrom memory number writer messages before after halt
    over-both halt e = carried-ends (carry-on w _ [] _ (sym (append-nil _)) wrote)
        (carry-on m _ _ _ (notices-append _ _) reported) memory number before after halt e

    -- the engine answered with a fault
    pub answer-ends : (at : At) → (earlier ≡ []) ⊎ AreNext before after earlier
        → ((at.fault ≡ OutOfMemory) × (at.line ≡ number) × (memory ≡ Some earlier)) ⊎ EndsWith before after
        earlier at → TookAll writer2 [] → TookAll messages2 []
        → EndsFrom memory number writer messages before after (Fault at)
    answer-ends at next by still quiet = over-both (Fault at)
        (grind (arith, common_steps, none-resumed))

    -- a step couldn't be written or reported
    pub step-ends : (text : List ℕ) (notices : List At) → (0 < length text → Adds before after text (earlier
        ++ notices)) → AreNext before after (earlier ++ notices) → (halt : Halt) → EndsAt None 0 writer2
        messages2 (record { output = []; warnings = []; fault = None })
        (record { output = text; warnings = notices; fault = None }) halt
        → EndsFrom memory number writer messages before after halt
    step-ends text notices adds next (Fault at) e = grind arith
    step-ends text notices adds next Unwritten e =
        let a = adds (omega (arith, e.wrote.less)) in
        over-both Unwritten (record {
          text = text;
          notices = earlier ++ notices;
          adds = a;
          wrote = part-resumed before.output before.output text [] after.output (omega arith)
              (a.output ∙ sym (append-nil (before.output ++ text))) e.wrote;
          reported = grind (arith, common_steps, a, all-resumed, earlier, notices-append);
        })
    step-ends text notices adds next Unreported e = over-both Unreported (record {
      notices = earlier ++ notices;
      next = next;
      wrote = none-resumed writer2 before.output before.output refl e.wrote;
      reported = part-resumed (notices_text before.warnings) (notices_text told) (notices_text e.notices)
          (notices_text e.next.0) (notices_text (before.warnings ++ (earlier ++ notices))) (omega (
            arith,
            ap length (notices-append before.warnings earlier),
            length-append (notices_text before.warnings) (notices_text earlier),
          )) (ap notices_text (sym (append_assoc _ earlier notices)) ∙ ap
          (λ (l : List At). notices_text (told ++ l)) e.next.1
          ∙ notices-append told (e.notices ++ e.next.0) ∙ ap (λ (t : List ℕ). notices_text told ++ t)
          (notices-append e.notices e.next.0) ∙ sym
          (append_assoc (notices_text told) (notices_text e.notices) (notices_text e.next.0))) e.reported;
    })

pub all-next : {before after : Course} {text : List ℕ} {notices : List At} → Adds before after text notices
    → AreNext before after notices
all-next adds = ([], adds.warnings ∙ sym (append-nil _))
