-- The end of a run at a line, by the texts kept.
use Rattle.std.proofs.{Common.rules, lemmas.{Grind.common_steps, List.append_cancel_left}}
use Rattle.rnxcmp_c.proofs.{GoingLemmas.notices-both, Vocabulary.{◌≡◌, ℕ, Bool, true, List, [], ◌++◌, take, drop}}
use Rattle.rnxcmp_c.proofs.Vocabulary.{Option, None, sym, ◌∙◌, append-nil, arith, length-append}
use Rattle.rnxcmp_c.proofs.Vocabulary.{take-append-drop, At, notices_text, Begins, Course, Halt, AreNext, Device}
use Rattle.rnxcmp_c.proofs.Vocabulary.{waiting, Pending, IsKept, StopsBy}
use Rattle.std.proofs.Common.{Result, Ok, Err, IfOk, IfErr}
use Rattle.crx_runs.specs.{Endings.EndsFrom, Taking.{Becomes, IsDone}}

-- the next warnings of a course are next in its messages
pub begins-next : (before after : Course) (here : List At) → AreNext before after here
    → Begins (notices_text after.warnings) (notices_text before.warnings ++ notices_text here)
begins-next before after here next = grind (arith, common_steps, notices-both)

-- the text after a prefix is what both have after it
rest-of : (first more rest : List ℕ) → first ++ rest ≡ first ++ more → more ≡ rest
rest-of first more rest is = sym (append_cancel_left first rest more is)

none-more : (first more : List ℕ) → first ≡ first ++ more → more ≡ []
none-more first more is = rest-of first more [] (append-nil first ∙ is)

-- the bytes that a device took of a text are a prefix of it
begins-taken : (all first more : List ℕ) (count : ℕ) → take count all ≡ first ++ more
    → Begins all (first ++ more)
begins-taken all first more count is =
    rw (← is) (record { rest = drop count all; same = sym (take-append-drop count all) })

-- the bytes that a waiting text took, as a device
abbrev kept-by : Pending → Pending → Device
kept-by old new = record {
  took = λ text. waiting new ≡ waiting old ++ text;
  flushed = new.flushed ≡ true;
  before = record { failures = old.failures; flushes = old.flushes };
  after = record { failures = new.failures; flushes = new.flushes };
}

-- a line, or the end, was taken, or ended the run
module _ (before after : Course) (output then_output kept then_kept : Pending) where
  kept-where_done : (shown : Type 0) (warned : Bool)
      → IsDone before after shown (kept-by output then_output) (kept-by kept then_kept) warned
      → IsKept before after shown output then_output kept then_kept warned
  kept-where_done = grind arith

  cut-stops : (memory : Option (List At)) (number : ℕ) (halt : Halt)
      → EndsFrom memory number (kept-by output then_output) (kept-by kept then_kept) before after halt
      → StopsBy number memory before after output then_output kept then_kept halt
  cut-stops =
      search (rules, none-more, append-nil, rest-of, notices-both, begins-taken, begins-next, length-append)

  -- the same for the end, at which only the texts may need memory
  halted-stops : (number last : ℕ) (halt : Halt)
      → EndsFrom None last (kept-by output then_output) (kept-by kept then_kept) before after halt
      → StopsBy number None before after output then_output kept then_kept halt
  halted-stops = grind (arith, common_steps, cut-stops)

  module _ (shown : Type 0) where
    pub line-kept : (memory : Option (List At)) (number : ℕ) (result : Result Bool Halt) → Becomes memory
        number
        before after shown (kept-by output then_output) (kept-by kept then_kept) result
        → IfOk result (IsKept before after shown output then_output kept then_kept)
        × IfErr result (StopsBy number memory before after output then_output kept then_kept)
    line-kept memory number (Ok warned) done = (kept-where_done shown warned done, tt)
    line-kept memory number (Err halt) ends = (tt, cut-stops memory number halt ends)

    pub end-kept : (number last : ℕ) (result : Result Bool Halt) → Becomes None last before after shown
        (kept-by output then_output) (kept-by kept then_kept) result
        → IfOk result (IsKept before after shown output then_output kept then_kept)
        × IfErr result (StopsBy number None before after output then_output kept then_kept)
    end-kept number last (Ok warned) done = (kept-where_done shown warned done, tt)
    end-kept number last (Err halt) ends = (tt, halted-stops number last halt ends)
