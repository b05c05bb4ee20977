-- The box of a reader in a handle, and what it owns.
use Rattle.std.specs.Prelude.{List, [], ◌∷◌}
use Rattle.std.specs.Coded.{coded_list}
use base.Fml.{Fml, ftrue}
use base.Stored.{Coded}
use denote.RawPtr.{Ptr}
use Rattle.std.specs.Box.Ownership.{box_owns}
use Rattle.std_heap.specs.declared.Global.{Global}
use Rattle.std_heap.specs.contracts.GlobalAllocator.TheImpl.{ghosts}
use Rattle.rnxcmp_c.specs.contracts.reader.Reader.{the_row}
use Rattle.rnxcmp_c.specs.declared.reader.Reader.{Reader}

-- the heap, which is the same for each box
abbrev pub heap : Global
heap = record { memory = record { seal = tt } }

abbrev pub reader_box_owns : Ptr → List Reader → Fml
reader_box_owns at [] = ftrue
reader_box_owns at (value ∷ more) = box_owns (ghosts.dealloc_token heap) the_row at value

abbrev pub held_coded : Coded (List Reader)
held_coded = coded_list the_row.coded
