-- A compaction without `-s` has the fault and the messages of the check.
use Rattle.crx_filter.proofs.Vocabulary
use Vocabulary.{arith, ℕ, ◌≡◌, List, false, map, as_read, lines_of, Choices, compacted, checked, whole_of}
use Rattle.crx_filter.proofs.wayback.NormalForm.{whole-none}
use Rattle.crx_runs.specs.meaning.Messages.{error_text}

pub same-fault : (choices : Choices) (file : List ℕ) → choices.skip ≡ false
    → (compacted file choices).fault ≡ (checked file).fault
same-fault choices file off = rw off (grind (arith))

pub same-messages : (choices : Choices) (file : List ℕ) → choices.skip ≡ false
    → (compacted file choices).messages ≡ (checked file).messages
same-messages choices file off = rw (off, whole-none (map as_read (lines_of file)))
    (grind (arith, error_text))
