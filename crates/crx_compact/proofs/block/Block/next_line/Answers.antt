use Rattle.crx_compact.proofs.Vocabulary.{rules, ◌≡◌, get_or, List, ℕ, take}
use Rattle.crx_compact.proofs.Vocabulary.{arith, length-take-le}
use Rattle.crx_compact.specs.Blocks.{IsBlock}
use Rattle.crx_compact.proofs.LineTexts.{NextLine, next-line}
use Rattle.crx_compact.proofs.block.Block.next_line.Goals.{After-index}
use Rattle.std.proofs.{Math.ListN.drop_of_length-le, lemmas.List.get_or-take}
use Rattle.crx_compact.proofs.block.Block.next_line.Goals as goal
use Rattle.std.proofs.lemmas.Grind.{common_steps}

-- not all lines are borrowed yet, so there is a next one
line-there : (lengths bytes : List ℕ) (many filled past past_bytes front memory count : ℕ)
    → IsBlock lengths bytes many filled past past_bytes front memory
    → (past ≡ many → ⊥) → count ≡ get_or lengths past count
    → NextLine (take many lengths) bytes filled past past_bytes count
line-there lengths bytes many filled past past_bytes front memory count h other here =
    grind (
      arith,
      common_steps,
      length-take-le many lengths h.1,
      next-line (take many lengths) bytes filled past past_bytes count h.0 h.2,
      get_or-take many lengths past count,
    )

here : (c : After-index) → NextLine (take c.self.inside.count c.self.inside.lengths.items)
    c.self.inside.bytes.items c.self.inside.filled c.self.inside.handed_out c.self.inside.handed_out_bytes
    c.index.result.now
here c = line-there _ _ _ _ _ _ _ _ _ c.self.invariant c.if-self.false c.index.ensures

pub overflow_add-end : goal.overflow_add-end
overflow_add-end c = omega (arith, (here (goal.at.overflow_add-end c).After-index).within)

pub overflow_add-self-2 : goal.overflow_add-self-2
overflow_add-self-2 c = omega (arith, (here (goal.at.overflow_add-self-2 c).After-index).within)

pub invariant_of-self-2 : goal.invariant_of-self-2
invariant_of-self-2 c = (
  (here (goal.at.invariant_of-self-2 c).After-index).still,
  c.self.invariant.1,
  c.self.invariant.2,
  (omega (arith, c.self.invariant.3), omega (arith, c.self.invariant.3)),
  c.self.invariant.4,
)

pub slice_bounds-result-end : goal.slice_bounds-result-end
slice_bounds-result-end c = grind (arith, common_steps)

pub returns : goal.returns
returns c =
    let inside = c.self.inside in
    let next_line = here (goal.at.returns c).After-index in
    grind (arith, common_steps, inside, next_line)

pub returns-then-self : goal.returns-then-self
returns-then-self c =
    search (rules, length-take-le, drop_of_length-le)
