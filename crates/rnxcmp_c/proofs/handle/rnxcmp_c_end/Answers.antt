use Rattle.std.proofs.Common.{arith}
use Rattle.rnxcmp_c.proofs.EndedLemmas.{result-where, run-check, run-expansion, task-keeps}
use Rattle.rnxcmp_c.proofs.PromiseLemmas.{ends-on}
use Rattle.rnxcmp_c.proofs.PromiseLemmas.{ends-promise, ends-refused, ends-was_ended, sound-holds}
use Rattle.rnxcmp_c.proofs.PromiseLemmas.{sound-stands, stood}
use Rattle.rnxcmp_c.proofs.{Vocabulary.{Holds, Expand, Check}, handle.rnxcmp_c_end.Goals.After-put_in}
use Rattle.rnxcmp_c.proofs.Vocabulary.{ℕ, List, Task, BothTexts}
use Rattle.rnxcmp_c.specs.Opened.{EndsHandle, HandleStands}
use Rattle.rnxcmp_c.proofs.handle.rnxcmp_c_end.Goals as goal

pub take_out-reader-requires : goal.take_out-reader-requires
take_out-reader-requires c = sound-holds c.requires.sound c.if-not-handle.false

pub take_end-answer-requires : goal.take_end-answer-requires
take_end-answer-requires c = sound-stands c.requires.sound c.if-not-handle.false (grind arith)

ends : (c : After-put_in) (task : Task) (fed : List ℕ) (taken : BothTexts)
    → HandleStands task c.args.handle.now fed taken
    → EndsHandle task c.args.handle.now c.put_in.new.handle fed taken c.take_end-answer.result
ends c task fed taken stands =
    let holds : Holds c.args.handle.now c.deref_mut.result.now = grind arith in
    record {
      before = c.deref_mut.result.now;
      after = c.take_end-answer.new.self;
      held = holds;
      holds = c.put_in.ensures.reader;
      is_open = c.put_in.ensures.opened;
      ends = c.take_end-answer.ensures task fed taken (stood holds stands);
    }

pub returns : goal.returns
returns c =
    let ends = ends (goal.at.returns c).After-put_in in record {
      closed = λ shut. absurd (cc);
      ends = ends;
      stands = λ _ _ _ stands. ends-on (ends _ _ _ stands) stands;
      promise = λ _ _ _ stands. ends-promise (ends _ _ _ stands) stands;
      ended = λ _ _ _ stands. ends-was_ended (ends _ _ _ stands) stands;
      misused = λ _ _ _ stands. ends-refused (ends _ _ _ stands) stands;
      expansion = λ choices limit fed taken stands runs memory few. run-expansion fed _ _ _ choices
          (result-where fed _ _ _ _ (Expand choices limit) memory few
          (ends-was_ended (ends _ fed taken stands) stands runs).1);
      check = λ fed taken stands runs memory few. run-check fed _ _ _
          (result-where fed _ _ _ _ Check memory few
          (ends-was_ended (ends Check fed taken stands) stands runs).1);
      sound = λ is_open.
          let sound = c.requires.sound c.if-not-handle.false in
          (sound.0, _, _, ends-on (ends _ _ _ sound.3) sound.3);
      keeps = λ task fed taken stands runs memory few. task-keeps task _ fed
          (result-where fed _ _ _ _ task memory few (ends-was_ended (ends _ fed taken stands) stands runs).1);
    }
