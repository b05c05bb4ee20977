use Rattle.crx_compact.proofs.Vocabulary.{rules, refl, drop, length, ap, arith, take_at, PendingLines}
use Rattle.crx_compact.proofs.{LineTexts.{BlockPushed, block-pushed}, block.Block.put.Goals.After-put_line}
use Rattle.crx_compact.proofs.block.Block.put.Goals as goal

-- the line is put after the others, with its length after theirs
pushed : (c : After-put_line)
    → BlockPushed c.self.inside.lengths.items c.self.inside.bytes.items c.put_line.new.bytes
    c.args.line.now (length c.args.line.now) c.self.inside.count c.self.inside.filled c.self.inside.handed_out
    c.self.inside.handed_out_bytes c.self.inside.front c.use_bytes.new.bytes.cap
pushed c =
    block-pushed _ _ _ _ _ _ _ _ _ _ _ _ c.self.invariant c.use_bytes.ensures.kept.memory
    (omega (arith, c.requires.left, ap (λ (l : PendingLines). l.left) c.self.view_is)) refl
    (omega (arith, c.requires.short))
    (search (
      rules,
      c.put_line.ensures.put,
      c.deref_mut.ensures.value,
      c.use_bytes.ensures.kept.items,
      c.self.invariant.2,
    ))
    (omega (arith, c.use_bytes.ensures.counted, ap length c.deref_mut.ensures.value, c.requires.short))

pub use_bytes-requires : goal.use_bytes-requires
use_bytes-requires c =
    omega (arith, c.requires.left, c.self.invariant.4, ap (λ (l : PendingLines). l.left) c.self.view_is)

pub invariant_of-self : goal.invariant_of-self
invariant_of-self c =
    let bytes = c.put_line.new.bytes in
    let used = c.use_bytes.new.bytes in
    rw (take_at bytes (drop (length bytes) used.items) used.len (omega arith))
    (pushed (goal.at.invariant_of-self c).After-put_line).still

pub returns-clause-lines : goal.returns-clause-lines
returns-clause-lines c =
    let used = c.use_bytes.new.bytes in
    let bytes = c.put_line.new.bytes in
    let whole = take_at bytes (drop (length bytes) used.items) used.len (omega arith) in
    rw (← c.self.view_is, whole) (pushed (goal.at.returns-clause-lines c).After-put_line).is
