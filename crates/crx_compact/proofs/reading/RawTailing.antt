-- The tail of a block of raw epochs determines the meaning of the next one, and the next tail.
use Rattle.std.proofs.lemmas.Grind.{common_steps}
use Rattle.crx_compact.proofs.Vocabulary.{◌≡◌, refl, ℕ, List, [], ◌∷◌, ◌*◌, map, length, Option, Some}
use Rattle.crx_compact.proofs.Vocabulary.{unwrap_or, option_map, sym, ◌∙◌, ap, get_or_past, patched, ReadLine}
use Rattle.crx_compact.proofs.Vocabulary.{Count, stretch, RawRow, RawEpoch, block_of, overlaid, raw_row_named}
use Rattle.crx_compact.proofs.Vocabulary.{raw_run_of, marks_of, code_in, since_start, Past, past_of_block}
use Rattle.crx_compact.proofs.Vocabulary.{past_of_epochs, past_of_line, epoch_at, RowTail, tail_left, no_tail}
use Rattle.crx_compact.proofs.Vocabulary.{tail_named, cell_of_tail, flags_of_tail, flags_held, raw_row_tail_after}
use Rattle.crx_compact.proofs.Vocabulary.{raw_tail_after, arc_of_code, past_of_tail, tail_for_line, epoch_after}
use Rattle.crx_compact.proofs.Vocabulary.{HasSingleLines, each_place-same, index-each_place, arith, rules}
use Rattle.crx_compact.proofs.{Vocabulary.{raw_row_tail, tail_of_block, started_tail}, Lists.mapped-same}
use Rattle.crx_compact.proofs.{wayback.Overlays.{overlaid-patched, overlaid-take}, wayback.Runs.named-made}
use Rattle.crx_compact.proofs.arcs.Arcs.{value-next, number-next}
use Rattle.std.proofs.Math.Path.{fun_ext}
use Rattle.crx_compact.specs.ReadingLaws.{RawByTail}

-- ---- a satellite in a tail

cell-found : (rest : List (Option RawRow)) (found : Option RawRow) (j : ℕ)
    → cell_of_tail j (option_map (raw_row_tail (stretch (found ∷ rest))) found)
    ≡ started_tail (since_start (map (code_in j) (stretch (found ∷ rest))))
cell-found rest x j = grind (arith, common_steps, index-each_place, get_or_past)

cell-left : (name : List ℕ) (block : List RawEpoch) (j : ℕ) → cell_of_tail j (tail_named name
    (tail_of_block block)) ≡ started_tail (since_start (map (code_in j) (raw_run_of name block)))
cell-left name [] j = refl
cell-left name (e ∷ es) j = ap (cell_of_tail j) (named-made (λ (r : RawRow). r.name) (λ (t : RowTail). t.name)
    (λ n r. raw_row_tail (raw_run_of n (e ∷ es)) r) (λ n r. refl) name e.rows) ∙ cell-found _ _ j

flags-left : (name : List ℕ) (block : List RawEpoch)
    → flags_of_tail (tail_named name (tail_of_block block)) ≡ overlaid (marks_of (raw_run_of name block))
flags-left name [] = refl
flags-left name (e ∷ es) = ap flags_of_tail (named-made (λ (r : RawRow). r.name) (λ (t : RowTail). t.name)
    (λ n r. raw_row_tail (raw_run_of n (e ∷ es)) r) (λ n r. refl) name e.rows) ∙ grind arith

-- ---- one line more

row-tail : (raw : RawEpoch) (block : List RawEpoch) (r : RawRow) → raw_row_named r.name raw.rows ≡ Some r
    → raw_row_tail (raw_run_of r.name (raw ∷ block)) r
    ≡ raw_row_tail_after (tail_named r.name (tail_of_block block)) r
row-tail raw block r own =
    let n = length r.codes in
    let rs = raw_run_of r.name block in
    let found = tail_named r.name (tail_of_block block) in
    let cells = each_place-same n (λ j. started_tail (since_start (map (code_in j) (r ∷ rs))))
    (λ j. arc_of_code (code_in j r) (cell_of_tail j found)) (λ j. number-next
    (code_in j r) (map (code_in j) rs) ∙ ap (arc_of_code (code_in j r)) (sym (cell-left r.name block j))) in
    let flags = overlaid-take (2 * n) (r.marks ∷ marks_of rs) ∙ ap (flags_held n)
    (overlaid-patched r.marks (marks_of rs) ∙ ap (λ t. patched t r.marks) (sym (flags-left r.name block))) in
    search rules

-- ---- one epoch more

pub raw-by_tail : (raw : RawEpoch) (block : List RawEpoch) → HasSingleLines raw → RawByTail raw block
raw-by_tail raw block own = grind (arith, overlaid-patched, number-next, mapped-same, row-tail)

-- ---- the past of the next lines

-- the past after a block is the past of its tail
past-left : (block : List RawEpoch) → past_of_block block ≡ past_of_tail (tail_of_block block)
past-left block = grind (arith, fun_ext, overlaid-patched, value-next, cell-left, flags-left)

epochs-left : (older : List RawEpoch) → past_of_epochs older ≡ option_map past_of_tail (tail_left older)
epochs-left [] = refl
epochs-left (e ∷ older) = ap {B = Option Past} Some (past-left (block_of (e ∷ older)))

pub line-left : (older : List RawEpoch) (line : List ℕ)
    → past_of_line older line ≡ option_map past_of_tail (tail_for_line (tail_left older) line)
line-left older line = grind (arith, past-left [], epochs-left older)

-- the tail determines the epoch or the fault at the next lines
pub place-by_tail : (types : List Count) (older : List RawEpoch) (lines : List ReadLine)
    → epoch_at types older lines ≡ epoch_after types (tail_left older) lines
place-by_tail types older lines = cc (fun_ext (λ line. line-left older line))

-- the tail after a raw epoch
pub left-by_tail : (raw : RawEpoch) (older : List RawEpoch) → HasSingleLines raw → tail_left (raw ∷ older)
    ≡ Some (raw_tail_after (unwrap_or (tail_for_line (tail_left older) raw.line) no_tail) raw)
left-by_tail raw older own = grind (arith, raw-by_tail raw [] own, raw-by_tail raw (block_of older) own)
