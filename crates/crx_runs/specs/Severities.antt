-- The words of a message's kind.
use Rattle.std.specs.Prelude.{ℕ, List, codes}
use Rattle.crx_runs.specs.declared.message.Severity.{Severity}
use Rattle.crx_runs.specs.declared.message.Severity.TheVariants.{Error, Warning}

-- the first word of a message
abbrev pub word_of : Severity → List ℕ
word_of Error = codes "ERROR"
word_of Warning = codes "WARNING"
