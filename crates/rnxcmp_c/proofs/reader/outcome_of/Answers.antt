use Rattle.std.proofs.lemmas.Grind.{common_steps}
use Rattle.rnxcmp_c.proofs.Vocabulary.{inl, arith, refl}
use Rattle.rnxcmp_c.proofs.reader.outcome_of.Goals as goal

pub returns-then-add : goal.returns-then-add
returns-then-add c = rw c.in-Fault.is (record {
  status = refl;
  output = refl;
  output_good = refl;
  messages_good = c.add.ensures.counts.failures;
  said = inl (
    refl,
    rw (c.bytes.ensures.value, c.message.ensures.value) at (c.add.ensures.taken c.if-add.true),
  );
})

pub returns : goal.returns
returns c = rw c.in-Fault.is (grind (arith, common_steps, c.bytes.ensures.value, c.message.ensures.value))
