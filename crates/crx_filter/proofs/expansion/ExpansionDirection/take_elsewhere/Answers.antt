use Rattle.crx_filter.proofs.Vocabulary.{common_steps, arith, ◌≡◌, []}
use Rattle.crx_filter.proofs.steps.ExpansionKnows.{expansion_of, reader-takes}
use Rattle.{crx_lines.specs.Reading.line_shown, std.proofs.lemmas.Result.err_from_is_err_and}
use Rattle.crx_filter.{proofs.expansion.ExpansionDirection.take_elsewhere.Goals.After-read_between}
use Rattle.crx_filter.{specs.ExpansionParts.expansion_ready}
use Rattle.crx_filter.proofs.expansion.ExpansionDirection.take_elsewhere.Goals as goal

-- no other line is ready with a copied one
none : (c : After-read_between)
    → expansion_ready (expansion_of c.read_between.new.self c.self.inside.lines) ≡ []
none c = grind (arith, common_steps)

pub invariant_of-self : goal.invariant_of-self
invariant_of-self c = c.read_between.ensures.unprinted c.self.inside.lines

pub invariant_of-self-2 : goal.invariant_of-self-2
invariant_of-self-2 c = c.read_between.ensures.unprinted c.self.inside.lines

pub invariant_of-self-then-branch : goal.invariant_of-self-then-branch
invariant_of-self-then-branch c = c.read_between.ensures.unprinted c.self.inside.lines

pub returns-in_err-read_between : goal.returns-in_err-read_between
returns-in_err-read_between c = grind (arith, common_steps, err_from_is_err_and, reader-takes)

pub returns-then-branch : goal.returns-then-branch
returns-then-branch c =
    rw (← c.self.view_is, none (goal.at.returns-then-branch c).After-read_between) (record {
      takes = reader-takes c.self.inside.reader c.read_between.new.self _
          (line_shown c.args.line) _ _
          (rw (c.if-branch.true, c.bytes.ensures.content) at c.in_ok-read_between.ensures.reads);
    })

pub returns : goal.returns
returns c = rw (← c.self.view_is, none (goal.at.returns c).After-read_between) (record {
  takes = reader-takes c.self.inside.reader c.read_between.new.self _
      (line_shown c.args.line) _ _
      (rw (c.if-branch.false, c.bytes.ensures.content) at c.in_ok-read_between.ensures.reads);
})
