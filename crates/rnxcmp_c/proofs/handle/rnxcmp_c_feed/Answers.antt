use Rattle.std.proofs.Common.{arith}
use Rattle.rnxcmp_c.proofs.PromiseLemmas.{feeds-on, feeds-promise, feeds-refused, feeds-takes}
use Rattle.rnxcmp_c.proofs.PromiseLemmas.{feeds-was_ended, sound-holds, sound-stands, stood}
use Rattle.rnxcmp_c.proofs.handle.rnxcmp_c_feed.Goals.{After-put_in}
use Rattle.rnxcmp_c.proofs.Vocabulary.{ℕ, List, Task, BothTexts, Holds}
use Rattle.rnxcmp_c.specs.Opened.{FeedsHandle, HandleStands}
use Rattle.rnxcmp_c.proofs.handle.rnxcmp_c_feed.Goals as goal

pub take_out-reader-requires : goal.take_out-reader-requires
take_out-reader-requires c = sound-holds c.requires.sound c.if-not-handle.false

pub read_bytes-count-requires : goal.read_bytes-count-requires
read_bytes-count-requires c = sound-stands c.requires.sound c.if-not-handle.false (grind arith)

feeds : (c : After-put_in) (task : Task) (fed : List ℕ) (taken : BothTexts)
    → HandleStands task c.args.handle.now fed taken
    → FeedsHandle task c.args.handle.now c.put_in.new.handle fed taken c.args.bytes.now
    c.read_bytes-count.result.0 c.read_bytes-count.result.1
feeds c task fed taken stands =
    let holds : Holds c.args.handle.now c.deref_mut.result.now = grind arith in
    record {
      before = c.deref_mut.result.now;
      after = c.read_bytes-count.new.self;
      held = holds;
      holds = c.put_in.ensures.reader;
      is_open = c.put_in.ensures.opened;
      feeds = c.read_bytes-count.ensures task fed taken (stood holds stands);
    }

pub returns : goal.returns
returns c =
    let feeds = feeds (goal.at.returns c).After-put_in in record {
      closed = λ shut. absurd (cc);
      feeds = feeds;
      stands = λ _ _ _ stands. feeds-on (feeds _ _ _ stands) stands;
      promise = λ _ _ _ stands. feeds-promise (feeds _ _ _ stands) stands;
      takes = λ _ _ _ stands. feeds-takes (feeds _ _ _ stands) stands;
      ended = λ _ _ _ stands. feeds-was_ended (feeds _ _ _ stands) stands;
      misused = λ _ _ _ stands. feeds-refused (feeds _ _ _ stands) stands;
      sound = λ is_open.
          let sound = c.requires.sound c.if-not-handle.false in
          (sound.0, _, _, feeds-on (feeds _ _ _ sound.3) sound.3);
    }
