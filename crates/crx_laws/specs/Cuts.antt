-- Files that are cut off at the end of a line, and the lines of an epoch. Lists of items have the newest first.
use Rattle.std.specs.Prelude.{ℕ, ◌≡◌, ◌⊎◌, ◌+◌, Bool, false, List, ◌++◌, Some, None}
use Rattle.std.specs.List.{list_all}
use Rattle.crx_base.specs.declared.fault.Fault.{Fault}
use Rattle.crx_base.specs.declared.fault.Fault.TheVariants.{MissingVersion, NoEndOfHeader, Truncated}
use Rattle.crx_base.specs.meaning.AsRead.{ReadLine, Content, Overlong}
use Rattle.crx_base.specs.meaning.Lines.{is_printable}
use Rattle.crx_filter.specs.meaning.Items.{Item}
use Rattle.crx_filter.specs.meaning.Reading.{WholeReading}

-- whether a line isn't too long and has only characters 32 to 126
abbrev pub is_clean : ReadLine → Bool
is_clean (Content line) = list_all is_printable line
is_clean Overlong = false

-- the faults of an input that ends too soon: before its first line, in its header, and in an event or an epoch
abbrev pub IsOfAnEnd : Fault → Type 0
IsOfAnEnd fault = (fault ≡ MissingVersion) ⊎ ((fault ≡ NoEndOfHeader) ⊎ (fault ≡ Truncated))

-- `cut` is the reading of the first `count` lines of an input, and `all` the reading of the whole input. Either the cut
-- input has no fault, and its units are the first units of the whole; or it has one of these faults at the line after
-- its last
abbrev pub IsNoticed : {E : Type 0} → WholeReading E → WholeReading E → ℕ → Type 0
IsNoticed all cut count = ((cut.fault ≡ None) × ((later : List (Item _)) × (all.items ≡ later ++ cut.items)))
    ⊎ ((fault : Fault) × (cut.fault ≡ Some (record { line = count + 1; fault = fault })) × IsOfAnEnd fault)
