-- In addition to meaning/Names: how code and proofs see it.
use Rattle.crx_command.specs.declared.names.Ending.{Ending}
use Rattle.crx_command.specs.meaning.Names.{Renaming}

-- an entry of the program's table
abbrev pub renaming_of : Ending → Renaming
renaming_of e = record { old = e.old.now; new = e.new.now; after_year = e.after_year }
