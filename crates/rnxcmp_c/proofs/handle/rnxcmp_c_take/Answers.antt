use Rattle.std.proofs.{Common.{rules, arith}, lemmas.Grind.common_steps}
use Rattle.rnxcmp_c.proofs.EndedLemmas.{ended-where, result-where, run-check, run-expansion}
use Rattle.rnxcmp_c.proofs.EndedLemmas.{task-keeps}
use Rattle.rnxcmp_c.proofs.PromiseLemmas.{handle-promise, sound-holds, stood}
use Rattle.rnxcmp_c.proofs.Vocabulary.{ℕ, List, Holds, BothTexts, Task, Expand, Check}
use Rattle.rnxcmp_c.proofs.handle.rnxcmp_c_take.Goals as goal

pub take_out-reader-requires : goal.take_out-reader-requires
take_out-reader-requires c = sound-holds c.requires.sound c.if-not-handle.false

pub returns-clause-still : goal.returns-clause-still
returns-clause-still c = grind arith

pub returns-clause-stands : goal.returns-clause-stands
returns-clause-stands c = λ (task : Task) (fed : List ℕ) (taken : BothTexts) stands.
    let holds : Holds c.args.handle.now c.deref_mut.result.now = grind arith in
    record {
      reader = c.move_out-answer.new.self;
      is_open = c.put_in.ensures.opened;
      holds = c.put_in.ensures.reader;
      stands = rw holds (c.move_out-answer.ensures.stands task fed taken (stood holds stands));
    }

pub returns-clause-promise : goal.returns-clause-promise
returns-clause-promise c = search (rules, returns-clause-still, handle-promise, returns-clause-stands)

pub returns-clause-expansion : goal.returns-clause-expansion
returns-clause-expansion c = λ choices limit fed taken stands ended memory few long. run-expansion fed _ _ _
    choices (grind (arith, common_steps, result-where, Expand choices limit, ended-where))

pub returns-clause-check : goal.returns-clause-check
returns-clause-check c = λ fed taken stands ended memory few long. run-check fed _ _ _
    (result-where fed _ _ _ _ Check memory few (ended-where fed _ _ _ _ Check memory long
    ((handle-promise stands c.put_in.ensures.reader c.move_out-answer.ensures.taken.answered).ended ended)))

pub returns-clause-sound : goal.returns-clause-sound
returns-clause-sound c = λ is_open.
    let sound = c.requires.sound c.if-not-handle.false in
    (sound.0, _, _, returns-clause-stands c sound.0 sound.1 sound.2 sound.3)

pub returns-clause-keeps : goal.returns-clause-keeps
returns-clause-keeps c = grind (arith, common_steps, task-keeps, result-where, ended-where, handle-promise)
