-- A row that was read and then taken: statements about the reader in between hold of the reader before.
use Rattle.crx_filter.proofs.Vocabulary.{common_steps, arith, ◌≡◌, Bool, List, ℕ, Written, compaction, made_in}
use Rattle.crx_filter.proofs.Vocabulary.{made_at, reader_phase, IsSameReader, TakesRow, RinexReader}

pub same-made : (before mid : RinexReader) (line : List ℕ) (kept : Written) → IsSameReader before mid
    → made_at mid line kept ≡ made_at before line kept
same-made before mid line kept same = grind (arith, common_steps, made_in, compaction, reader_phase)

-- the row taken by the reader in between was taken by the one before
pub taken-from : (before mid after : RinexReader) (line : List ℕ) (kept : Written) (is_last : Bool)
    → IsSameReader before mid → TakesRow (made_at mid line kept) is_last mid after
    → TakesRow (made_at before line kept) is_last before after
taken-from before mid after line kept is_last same takes = grind (arith, common_steps, same-made)
