-- The one table of faults: the number and the words of each, as messages show them, and which of them can be
-- skipped.
use Rattle.std.specs.Prelude.{ℕ, Bool, ◌==◌, ◌&&◌, ◌||◌, nat_le, List, codes}
use Rattle.crx_base.specs.declared.fault.Fault.{Fault}
use Rattle.crx_base.specs.declared.fault.Fault.TheVariants.{LineTooLong, InputTooLong, MissingVersion}
use Rattle.crx_base.specs.declared.fault.Fault.TheVariants.{UnsupportedVersion, NotObservation, BadTypesLine}
use Rattle.crx_base.specs.declared.fault.Fault.TheVariants.{NoEndOfHeader, NotCompact, BadProgLine, NotAnEpoch}
use Rattle.crx_base.specs.declared.fault.Fault.TheVariants.{BadEpoch, BadClock, BadSatellite, RepeatedSatellite}
use Rattle.crx_base.specs.declared.fault.Fault.TheVariants.{BadField, NoArc, OutOfRange, BadFlags, Truncated}
use Rattle.crx_base.specs.declared.fault.Fault.TheVariants.{ReadFailed, WriteFailed, OutOfMemory}

-- a fault's number
abbrev pub code_of_fault : Fault → ℕ
code_of_fault LineTooLong = 1
code_of_fault InputTooLong = 2
code_of_fault MissingVersion = 3
code_of_fault UnsupportedVersion = 4
code_of_fault NotObservation = 5
code_of_fault BadTypesLine = 6
code_of_fault NoEndOfHeader = 7
code_of_fault NotCompact = 8
code_of_fault BadProgLine = 9
code_of_fault NotAnEpoch = 10
code_of_fault BadEpoch = 11
code_of_fault BadClock = 12
code_of_fault BadSatellite = 13
code_of_fault RepeatedSatellite = 14
code_of_fault BadField = 15
code_of_fault NoArc = 16
code_of_fault OutOfRange = 17
code_of_fault BadFlags = 18
code_of_fault Truncated = 19
code_of_fault ReadFailed = 20
code_of_fault WriteFailed = 21
code_of_fault OutOfMemory = 22

-- a fault's words
abbrev pub words_of_fault : Fault → List ℕ
words_of_fault LineTooLong = codes "line too long"
words_of_fault InputTooLong = codes "input too long"
words_of_fault MissingVersion = codes "missing version line"
words_of_fault UnsupportedVersion = codes "unsupported version"
words_of_fault NotObservation = codes "not an observation file"
words_of_fault BadTypesLine = codes "bad types line"
words_of_fault NoEndOfHeader = codes "no end of header"
words_of_fault NotCompact = codes "not compact RINEX 3.0"
words_of_fault BadProgLine = codes "bad program line"
words_of_fault NotAnEpoch = codes "not an epoch line"
words_of_fault BadEpoch = codes "bad epoch line"
words_of_fault BadClock = codes "bad clock"
words_of_fault BadSatellite = codes "bad satellite"
words_of_fault RepeatedSatellite = codes "repeated satellite"
words_of_fault BadField = codes "bad field"
words_of_fault NoArc = codes "no arc"
words_of_fault OutOfRange = codes "out of range"
words_of_fault BadFlags = codes "bad indicator"
words_of_fault Truncated = codes "truncated"
words_of_fault ReadFailed = codes "read failed"
words_of_fault WriteFailed = codes "write failed"
words_of_fault OutOfMemory = codes "out of memory"

-- the faults that can be skipped: numbers 1, and 10 to 19
abbrev pub is_skippable : Fault → Bool
is_skippable fault = (code_of_fault fault == 1) || (nat_le 10 (code_of_fault fault) && nat_le (code_of_fault fault) 19)
