use Rattle.crx_laws.proofs.blockwise.PieceBack.{own-piece}
use Rattle.crx_laws.proofs.blocks.an_own_piece_is_expanded_alone.Goals as goal

pub returns : goal.returns
returns c = record { law = own-piece }
