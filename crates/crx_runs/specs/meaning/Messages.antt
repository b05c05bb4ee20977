-- The messages of a run.
use Rattle.std.specs.Prelude.{ℕ, List, [], ◌∷◌, ◌++◌, Option, Some, None, codes, decimal}
use Rattle.std.specs.List.{flat_map}
use Rattle.crx_base.specs.meaning.Faults.{code_of_fault, words_of_fault}
use Rattle.crx_base.specs.declared.fault.At.{At}

-- the message of a fault: the word, the line, the fault's number and its text
abbrev pub message_text : List ℕ → At → List ℕ
message_text word at = word ++ codes " line " ++ decimal at.line
    ++ codes " code " ++ decimal (code_of_fault at.fault) ++ codes ": " ++ words_of_fault at.fault ++ 10 ∷ []

-- the message of a warning
unfoldable pub warning_text : At → List ℕ
warning_text at = message_text (codes "WARNING") at

-- the messages of some warnings, one after another
abbrev pub notices_text : List At → List ℕ
notices_text warnings = flat_map warning_text warnings

-- the message of the fault that ended the run
abbrev pub error_text : Option At → List ℕ
error_text None = []
error_text (Some at) = message_text (codes "ERROR") at
