use Rattle.std.proofs.{Common.{rules, length-drop, length-take-le}}
use Rattle.rnxcmp_c.proofs.{GoingLemmas.stopped-weaker, PieceLemmas.none-or}
use Rattle.rnxcmp_c.proofs.Vocabulary.{ℕ, ◌≡◌, ◌-◌, ◌+◌, ◌<◌, List, ◌++◌, length, take, drop, sym, ap, ◌∙◌, arith}
use Rattle.rnxcmp_c.proofs.Vocabulary.{append_assoc, length-append, ⊎_elim, take-append-drop, err_from_is_err_and}
use Rattle.rnxcmp_c.proofs.Vocabulary.{ended_lines_of, take_all, take_at, take-append-add, refl, TaskRun}
use Rattle.rnxcmp_c.proofs.Vocabulary.{BothTexts}
use Rattle.rnxcmp_c.specs.Past.{StopsSoon}
use Rattle.rnxcmp_c.proofs.lines.take_bytes.Goals as goal
use Rattle.std.proofs.lemmas.Grind.{common_steps}

-- more of the remaining bytes were used
soon-then : (run : TaskRun) (fed : List ℕ) (taken : BothTexts) (bytes done left : List ℕ) (n : ℕ)
    → bytes ≡ done ++ left → 0 < n → StopsSoon run (fed ++ done) taken left n
    → StopsSoon run fed taken bytes (length done + n)
soon-then run fed taken bytes done left n all more soon =
    grind (arith, common_steps, take-append-add done left (n - 1))

pub take_to_line_end-requires-clause-going : goal.take_to_line_end-requires-clause-going
take_to_line_end-requires-clause-going g c =
    let i = c.bytes.invariant in
    let r = c.requires.going in (
      r.0,
      r.1 ++ i.0,
      r.2,
      (r.3.0 ∙ sym i.5, (i.2 r.0 r.1 r.2 r.3).0),
      omega (
        arith,
        r.4,
        ap length i.1,
        length-append i.0 c.bytes.left.now,
        length-append r.1 i.0,
      ),
    )

pub bytes-preserved : goal.bytes-preserved
bytes-preserved g c =
    let i = c.bytes.invariant in
    let done = i.0 in
    let left = c.bytes.left.now in
    let count : ℕ = c.in_ok-count.count in
    let some = take count left in
    let line = c.in_ok-count.ensures in
    let more = line.count.1 (search rules) in
    let long = length-take-le count left line.count.0 in
    let low = c.is_low.ensures.low c.if-is_low.true in
    let whole = i.1 ∙ ap (λ l. done ++ l) (sym (take-append-drop count left)) in (
      done ++ some,
      whole ∙ sym (append_assoc done some _) ∙ ap (λ l. (done ++ some) ++ l)
          (sym (take_all _ (drop count left) (omega (arith, length-drop count left)))),
      λ run fed taken is.
          let went = (line.fed run (fed ++ done) taken (is.0 ∙ sym i.5, (i.2 run fed taken is).0)).0 in (
            rw (append_assoc fed done some) at went.0,
            λ _. rw (length-append done some, long)
                (soon-then run fed taken _ done left count i.1 more (went.1 more)),
          ),
      λ none. absurd (omega (arith, none, length-append done some, long, more)),
      λ _. ⊎_elim (λ none. rw (← i.3 none) low) (λ some. i.4 some) (none-or _),
      line.filter ∙ i.5,
    )

pub returns-in_err-count-clause-fed : goal.returns-in_err-count-clause-fed
returns-in_err-count-clause-fed g c run fed taken is =
    let i = c.bytes.invariant in
    let done = i.0 in
    let left = c.bytes.left.now in
    let p = err_from_is_err_and c.from_residual.result c.from_residual.ensures.1 in
    let both = ap length (is.1.cut_ended done) ∙ length-append (ended_lines_of fed) _ in
    rw (p.1, p.2) (
      tt,
      λ more. rw (i.1, ← (append_assoc fed done left)) (stopped-weaker (λ n at. (
        omega (arith, at.0, both),
        at.1,
      ))
          ((c.in_err-count.ensures.fed run (fed ++ done) taken (
            is.0 ∙ sym i.5,
            (i.2 run fed taken is).0,
          )).1 more)),
    )

pub returns-clause-fed : goal.returns-clause-fed
returns-clause-fed g c run fed taken is =
    let i = c.bytes.invariant in
    let left = c.bytes.left.now in
    let count : length i.0 ≡ length c.args.bytes.now - length left =
    omega (arith, ap length i.1, length-append i.0 left) in
    let first : take (length i.0) c.args.bytes.now ≡ i.0 = rw i.1 (take_at i.0 left (length i.0) refl) in
    (rw (← count, first) (i.2 run fed taken is), tt)
