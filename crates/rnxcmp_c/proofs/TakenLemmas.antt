-- The texts taken from a handle were kept before, and taking them doesn't change the run's state.
use Rattle.std.proofs.{lemmas.Grind.common_steps, Common.arith}
use Rattle.rnxcmp_c.proofs.Vocabulary.{◌≡◌, inl, inr, ⊎_elim, ℕ, List, ◌++◌, Option, Some, None, sym, subst}
use Rattle.rnxcmp_c.proofs.Vocabulary.{append_assoc, KeepsToLimit, Outcome, StandsBy, limit_for, BothTexts}
use Rattle.rnxcmp_c.proofs.Vocabulary.{joined_texts, rooms}
use Rattle.rnxcmp_c.proofs.Vocabulary.{Task, waiting, Pending, Reader}
use Rattle.rnxcmp_c.proofs.GoingLemmas.{early-weaker}

module _ (task : Task) (old : Reader) (fed : List ℕ) (taken : BothTexts) (output messages : Pending)
    (text told : List ℕ)
    (wrote : waiting old.held.output ≡ text ++ waiting output)
    (reported : waiting old.held.messages ≡ told ++ waiting messages)
    (output_good : output.failures ≡ old.held.output.failures)
    (messages_good : messages.failures ≡ old.held.messages.failures) where
  abbrev new : Reader
  new = record old { held = record old.held { output = output; messages = messages } }

  abbrev then : BothTexts
  then = joined_texts taken (rooms text told)

  same-output : taken.output ++ waiting old.held.output ≡ then.output ++ waiting output
  same-output = rw wrote (sym (append_assoc taken.output text (waiting output)))

  same-messages : taken.messages ++ waiting old.held.messages ≡ then.messages ++ waiting messages
  same-messages = rw reported (sym (append_assoc taken.messages told (waiting messages)))

  pub taken-stands : (outcome : Option Outcome) → StandsBy task old fed taken outcome
      → StandsBy task new fed then outcome
  taken-stands None runs = grind (arith, common_steps, runs.going, same-output, same-messages)
  taken-stands (Some outcome) over = record {
    ended = record {
      result = over.ended.result;
      is = ⊎_elim (λ whole. inl whole) (λ other. inr (⊎_elim
          (λ early. inl (early-weaker (λ n at. at) output_good messages_good early))
          (λ full. inr full) other))
          over.ended.is;
      ends = grind (arith, common_steps, over.ended.ends, same-output, same-messages);
    };
    few = subst (λ (t : List ℕ). KeepsToLimit (limit_for task) t) same-output over.few;
  }
