use Rattle.crx_compact.proofs.Vocabulary.{◌+◌, ◌*◌, ◌≡◌, drop, length, set, ap, arith, length-set, take_at}
use Rattle.crx_compact.proofs.Vocabulary.{◌∙◌, take, ◌++◌, PendingLines}
use Rattle.crx_compact.proofs.{LineTexts.{BlockPushed, row-pushed}}
use Rattle.crx_compact.specs.Placing.{line_after}
use Rattle.crx_compact.proofs.block.Block.put_row.Goals.{After-write_line-length}
use Rattle.crx_compact.proofs.block.Block.put_row.Goals as goal

-- the bytes are back in the block
stored : (c : After-write_line-length)
    → let line = set c.write_line-length.new.bytes (c.self.inside.filled + c.write_line-length.result) 10 in
    take c.use_bytes.new.bytes.len (line ++ drop (length line) c.use_bytes.new.bytes.items) ≡ line
stored c = grind (arith, take_at, length-set)

pub use_bytes-requires : goal.use_bytes-requires
use_bytes-requires c =
    omega (arith, c.requires.left, c.self.invariant.4, ap (λ (l : PendingLines). l.left) c.self.view_is)

-- the row's line is put after the others
pushed : (c : After-write_line-length) → BlockPushed c.self.inside.lengths.items c.self.inside.bytes.items
    (set c.write_line-length.new.bytes (c.self.inside.filled + c.write_line-length.result) 10)
    (line_after c.args.values.now c.args.flags.now c.args.satellite.now) c.write_line-length.result
    c.self.inside.count c.self.inside.filled
    c.self.inside.handed_out c.self.inside.handed_out_bytes c.self.inside.front c.use_bytes.new.bytes.cap
pushed c =
    row-pushed _ _ _ _ _ _ _
    (24 * length c.args.values.now + 800) _ _ _ _ _ _ c.self.invariant c.use_bytes.ensures.kept.memory
    (omega (arith, c.requires.left, ap (λ (l : PendingLines). l.left) c.self.view_is))
    (omega (arith, c.requires.fits.few))
    (ap (take c.self.inside.filled) c.as_mut_slice-bytes.ensures.value
    ∙ c.use_bytes.ensures.kept.items c.self.inside.filled c.self.invariant.2)
    (omega (arith, c.use_bytes.ensures.counted, ap length c.as_mut_slice-bytes.ensures.value))
    c.write_line-length.ensures.put

pub invariant_of-self : goal.invariant_of-self
invariant_of-self c =
    let at = (goal.at.invariant_of-self c).After-write_line-length in
    rw (stored at) (pushed at).still

pub returns-clause-lines : goal.returns-clause-lines
returns-clause-lines c =
    let at = (goal.at.returns-clause-lines c).After-write_line-length in
    rw (← c.self.view_is, stored at) (pushed at).is
