use Rattle.std.proofs.Common.{rules}
use Rattle.crx_compact.proofs.Vocabulary.{◌+◌, ◌*◌, ◌≡◌, drop, length, set, ap, arith, length-set, take_at}
use Rattle.crx_compact.proofs.Vocabulary.{printed_row, shown_row, ◌∙◌, take, ◌++◌, PendingLines}
use Rattle.crx_compact.proofs.{LineTexts.{BlockPushed, row-pushed}}
use Rattle.crx_compact.specs.Placing.{row_tail_of}
use Rattle.crx_compact.proofs.block.Block.put_printed.Goals.{After-print_line-length}
use Rattle.crx_compact.proofs.block.Block.put_printed.Goals as goal
use Rattle.std.proofs.lemmas.Grind.{common_steps}

-- the bytes are back in the block
stored : (c : After-print_line-length)
    → let line = set c.print_line-length.new.bytes (c.self.inside.filled + c.print_line-length.result) 10 in
    take c.use_bytes.new.bytes.len (line ++ drop (length line) c.use_bytes.new.bytes.items) ≡ line
stored c = grind (arith, take_at, length-set)

pub use_bytes-requires : goal.use_bytes-requires
use_bytes-requires c =
    omega (arith, c.requires.left, c.self.invariant.4, ap (λ (l : PendingLines). l.left) c.self.view_is)

pub print_line-length-requires : goal.print_line-length-requires
print_line-length-requires c = grind (arith, common_steps)

-- the row's line is put after the others
pushed : (c : After-print_line-length) → BlockPushed c.self.inside.lengths.items c.self.inside.bytes.items
    (set c.print_line-length.new.bytes (c.self.inside.filled + c.print_line-length.result) 10)
    (printed_row (shown_row (row_tail_of c.args.name.now c.args.satellite.now)))
    c.print_line-length.result c.self.inside.count
    c.self.inside.filled c.self.inside.handed_out c.self.inside.handed_out_bytes c.self.inside.front
    c.use_bytes.new.bytes.cap
pushed c =
    row-pushed _ _ _ _ _ _ _ (3 + 16 * length c.args.satellite.now.cells) _ _ _ _ _ _ c.self.invariant
    c.use_bytes.ensures.kept.memory
    (omega (arith, c.requires.left, ap (λ (l : PendingLines). l.left) c.self.view_is))
    (omega (arith, c.requires.few))
    (ap (take c.self.inside.filled) c.as_mut_slice-bytes.ensures.value
    ∙ c.use_bytes.ensures.kept.items c.self.inside.filled c.self.invariant.2)
    (omega (arith, c.use_bytes.ensures.counted, ap length c.as_mut_slice-bytes.ensures.value))
    c.print_line-length.ensures

pub invariant_of-self : goal.invariant_of-self
invariant_of-self c = grind (arith, common_steps, pushed)

pub returns-clause-lines : goal.returns-clause-lines
returns-clause-lines c = search (rules, c.self.view_is, stored, pushed)
