-- A compaction takes one more line.
use Rattle.crx_filter.proofs
use proofs.Vocabulary.{List, [], ◌∷◌, ◌++◌, length, refl, arith, length-append, ReadLine, Choices}
use Rattle.crx_filter.{proofs.following.MoreLines.more-line, specs.Laws.IsCompactedOn}
use proofs.following.{Compaction.compaction-carried_out}

pub compacted-on : (choices : Choices) (lines : List ReadLine) (line : ReadLine)
    → IsCompactedOn choices lines line
compacted-on choices lines line = (more-line (compaction-carried_out choices) 1 (length lines) (length
    (lines ++ line ∷ [])) lines (lines ++ line ∷ []) line (omega arith) (length-append lines (line ∷ []))
    refl).followed
