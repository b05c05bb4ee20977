use Rattle.std.proofs.{Common.rules, lemmas.{Grind.common_steps, List.take_more}}
use Rattle.rnxcmp_c.proofs.GoingLemmas.{cut-at, goes-on, keeps-going, mid-kept, no_feed-before, soon-by}
use Rattle.rnxcmp_c.proofs.GoingLemmas.{stops-there}
use Rattle.rnxcmp_c.proofs.Vocabulary.{◌≡◌, ◌+◌, ◌-◌, [], ◌∷◌, ◌++◌, length, take, drop, ap, ◌∙◌, sym, subst}
use Rattle.rnxcmp_c.proofs.Vocabulary.{arith}
use Rattle.rnxcmp_c.proofs.Vocabulary.{take_all, err_from_is_err_and, HasNoFeed}
use Rattle.rnxcmp_c.proofs.lines.take_to_line_end.{Given.Over, Goals.In-Some}
use Rattle.rnxcmp_c.proofs.lines.take_to_line_end.Goals as goal

-- there is no LF before the first one
none-before : (g : Over) (c : In-Some g) → HasNoFeed (take c.in-Some.end c.args.bytes.now)
none-before g c = search (rules, no_feed-before, c.in-Some.ensures.within.1, c.in-Some.ensures.first)

pub returns-in-None-clause-fed : goal.returns-in-None-clause-fed
returns-in-None-clause-fed g c run fed taken is =
    let bytes = c.args.bytes.now in
    let all : take (length bytes) bytes ≡ bytes = take_all (length bytes) bytes (omega arith) in
    let none = rw all at (no_feed-before bytes (length bytes) (omega arith)
    (λ k h. c.in-None.ensures.none k (omega arith) h)) in
    let last : HasNoFeed (take (length bytes - 1) bytes) =
    grind (arith, common_steps, no_feed-before, c.in-None.ensures.none) in (
      (
        rw all (keeps-going is.1 c.add.new.self bytes c.add.ensures none),
        λ more. soon-by is.1 bytes (length bytes) last c.requires.low,
      ),
      tt,
    )

pub returns-in_ok-take_within-in-Some-clause-fed : goal.returns-in_ok-take_within-in-Some-clause-fed
returns-in_ok-take_within-in-Some-clause-fed g c run fed taken is =
    let bytes = c.args.bytes.now in
    let end = c.in-Some.end in
    let piece = c.add-in-Some.new.self in
    let none = none-before g (goal.at.returns-in_ok-take_within-in-Some-clause-fed g c).In-Some in
    let all =
    take_more bytes end 0 c.in-Some.ensures.within.1 ∙ ap (λ b. take end bytes ++ b ∷ [])
    c.in-Some.ensures.found in
    let line = c.in_ok-take_within-in-Some.ensures in
    let step = rw (sym is.0) at (line.step _ _ is.1.shown
    (mid-kept is.1 piece (take end bytes) c.add-in-Some.ensures none)) in (
      (
        rw all (goes-on is.1 piece (take end bytes) c.add-in-Some.ensures none line.keeps.1 _ _ step.0
            line.next.0 line.next.1),
        λ more. soon-by is.1 bytes (end + 1) (subst (λ n. HasNoFeed (take n bytes)) (omega arith) none)
            c.requires.low,
      ),
      tt,
    )

pub returns-in_err-take_within-in-Some-clause-fed : goal.returns-in_err-take_within-in-Some-clause-fed
returns-in_err-take_within-in-Some-clause-fed g c run fed taken is =
    let bytes = c.args.bytes.now in
    let end = c.in-Some.end in
    let piece = c.add-in-Some.new.self in
    let none = none-before g (goal.at.returns-in_err-take_within-in-Some-clause-fed g c).In-Some in
    let p = err_from_is_err_and c.from_residual.result c.from_residual.ensures.1 in
    let step = rw (sym is.0) at (c.in_err-take_within-in-Some.ensures.step _ _ is.1.shown
    (mid-kept is.1 piece (take end bytes) c.add-in-Some.ensures none)) in
    rw (p.1, p.2) (
      tt,
      λ more. rw (cut-at bytes end c.in-Some.ensures.within.1 c.in-Some.ensures.found)
          (stops-there is.1 piece (take end bytes) c.add-in-Some.ensures none _ (drop (end + 1) bytes)
          _ step.1
          more),
    )
