-- The reading of compact text by runs, whoever wrote it, follows from the definition of runs.
use Rattle.crx_filter.proofs.Vocabulary.{ℕ, List, subst, Choices, expanded, FilterResult}
use Rattle.crx_filter.specs.meaning.CompactText.{ReadsAnyText}
use Rattle.crx_filter.proofs.anywriter.AnyText.{any-text}

-- if `holds` is true of the result of a text's expansion, it is true of the text's meaning
pub reads-any : (holds : FilterResult → Type 0) (choices : Choices) (text : List ℕ)
    → holds (expanded text choices)
    → ReadsAnyText holds text
reads-any holds choices text h units whole is = subst holds (any-text text choices units whole is) h
