use Rattle.std.proofs.lemmas.Grind.{common_steps}
use Rattle.std.proofs.Common.{arith}
use Rattle.crx_filter.proofs.Vocabulary.{ap, subst, Option, Content, Epoch}
use Rattle.std.proofs.lemmas.Result.{err_from_is_err_and}
use Rattle.crx_compact.specs.Coded.{CodedEpoch}
use Rattle.crx_compact.specs.OpenEpochs.{HasMade, step_in, tail_held}
use Rattle.crx_laws.proofs.reading.BorrowedLines.{midway-begun, midway-idle, midway-more, midway-over}
use Rattle.crx_laws.proofs.reading.BorrowedLines.{midway-stands, midway-whole}
use Rattle.crx_laws.proofs.read_back.read_coded.Goals as goal

pub loop-line-init : goal.loop-line-init
loop-line-init c =
    midway-begun c.args.types.now (tail_held c.args.columns.now) c.args.coded.now.lines
    _ c.in-Some.first.now c.begin.new.self c.in-Some.ensures.value c.in_ok-begin.ensures.made
    (ap (λ (q : CodedEpoch). q.lines) c.next_line.follows.holds-at-none)

pub feed-requires-clause-open : goal.feed-requires-clause-open
feed-requires-clause-open c = midway-idle _ _ _ _ c.loop-line.invariant

pub returns-in-Some-2-clause-given : goal.returns-in-Some-2-clause-given
returns-in-Some-2-clause-given c =
    let P : Option Epoch → Type 0 =
    λ given. HasMade (step_in c.loop-line.columns (Content c.in-Some-next_line.line.now))
    c.feed.new.self given in
    midway-whole _ c.loop-line.columns c.feed.new.self _ c.loop-line.coded.lines
    c.in-Some-next_line.line.now c.in-Some-2.epoch c.loop-line.invariant c.in-Some-next_line.ensures.value
    (subst P c.in-Some-2.is c.in_ok-epoch.ensures.made)

pub loop-line-preserved : goal.loop-line-preserved
loop-line-preserved c =
    let P : Option Epoch → Type 0 =
    λ given. HasMade (step_in c.loop-line.columns (Content c.in-Some-next_line.line.now))
    c.feed.new.self given in
    midway-more _ c.loop-line.columns c.feed.new.self
    _ c.loop-line.coded.lines _ c.in-Some-next_line.line.now c.loop-line.invariant
    c.in-Some-next_line.ensures.value
    (subst P c.in_default-2.is c.in_ok-epoch.ensures.made)
    (ap (λ (q : CodedEpoch). q.lines) c.next_line-in-loop-line.follows.holds-at-none)

pub returns-in_err-epoch-clause-refused : goal.returns-in_err-epoch-clause-refused
returns-in_err-epoch-clause-refused c = λ h.
    let p = err_from_is_err_and c.from_residual-in_err-epoch.result c.from_residual-in_err-epoch.ensures.1 in
    rw (p.1, p.2) (
    midway-stands _ c.loop-line.columns _ c.loop-line.coded.lines c.in-Some-next_line.line.now
    _ c.loop-line.invariant c.in-Some-next_line.ensures.value c.in_err-epoch.ensures.refused)

pub returns-clause-given : goal.returns-clause-given
returns-clause-given c = grind (arith, common_steps, midway-over)
