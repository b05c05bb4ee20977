use Rattle.crx_compact.proofs.Vocabulary.{rules, ◌-◌, drop, length, ap, arith, length-set, take_at, PendingLines}
use Rattle.crx_compact.proofs.{LineTexts.{PutFront, put-front}, block.Block.put_front.Goals.After-put_line}
use Rattle.crx_compact.proofs.block.Block.put_front.Goals as goal
use Rattle.std.proofs.lemmas.Grind.{common_steps}

-- the line is put in front of the pending ones, into the space for a line of the greatest length
front-put : (c : After-put_line) → PutFront c.self.inside.lengths.items c.self.inside.bytes.items
    c.put_line.new.bytes c.args.line.now c.self.inside.count c.self.inside.filled c.self.inside.handed_out
    (c.self.inside.handed_out - 1) c.self.inside.handed_out_bytes
    (c.self.inside.handed_out_bytes - length c.args.line.now - 1)
front-put c = search (rules, put-front)

pub invariant_of-self : goal.invariant_of-self
invariant_of-self c =
    let inside = c.self.inside in
    let bytes = c.put_line.new.bytes in
    let state = ap length c.deref_mut.ensures.value in
    let view = ap (λ (l : PendingLines). l.front) c.self.view_is in
    rw (take_at bytes (drop (length bytes) inside.bytes.items) inside.bytes.len (omega arith)) (
      (front-put (goal.at.invariant_of-self c).After-put_line).still,
      omega (arith, length-set inside.lengths.items (inside.handed_out - 1) (length c.args.line.now)),
      omega arith,
      (omega arith, omega arith),
      grind (arith, common_steps, inside, length-set),
    )

pub returns-clause-lines : goal.returns-clause-lines
returns-clause-lines c =
    let inside = c.self.inside in
    let bytes = c.put_line.new.bytes in
    let whole = take_at bytes (drop (length bytes) inside.bytes.items) inside.bytes.len (omega arith) in
    rw (← c.self.view_is, whole) (front-put (goal.at.returns-clause-lines c).After-put_line).is
