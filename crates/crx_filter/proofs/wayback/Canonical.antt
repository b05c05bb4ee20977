-- Compact text is canonical: a file's normal form is compacted as the file, and is restored from that text.
use Rattle.crx_filter.proofs.Vocabulary.{ℕ, ◌≡◌, List, None, map, lines_of, as_read}
use Rattle.crx_filter.proofs.Vocabulary.{Choices, compact_unit, compacted, normal_form, whole_of}
use Rattle.crx_filter.proofs.Vocabulary.{HasNormalForm, result_of}
use Rattle.crx_filter.proofs.wayback.{NormalForm.read-as_normal, Standard.same-reading}
use Rattle.crx_filter.specs.meaning.Canonical.{CompactsAsNormal}

-- without a fault a compaction follows the reading that skips nothing
pub compacted-by : (file : List ℕ) (choices : Choices) → (whole_of file).fault ≡ None
    → compacted file choices ≡ result_of (compact_unit choices) (whole_of file)
compacted-by file choices good = cc (same-reading choices.skip (map as_read (lines_of file)) good)

pub as-normal : (file : List ℕ) (choices : Choices) → CompactsAsNormal file choices
as-normal file choices h = search (read-as_normal, compacted-by)

pub same-compaction : (one other : List ℕ) (choices : Choices) → HasNormalForm one → HasNormalForm other
    → normal_form one ≡ normal_form other → compacted one choices ≡ compacted other choices
same-compaction one other choices h k same = cc (as-normal one choices h, same, as-normal other choices k)
