use Rattle.crx_laws.proofs.blockwise.PieceBack.{piece-alone}
use Rattle.crx_laws.proofs.blocks.a_piece_is_expanded_alone.Goals as goal

pub returns : goal.returns
returns c = record { law = piece-alone }
