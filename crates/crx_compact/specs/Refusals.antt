-- Slots for the hints of identifiers.
use Rattle.std.specs.Prelude.{◌+◌, ◌*◌, ◌%◌, ℕ, List, slice_index_or}

-- the slot of an identifier's hint
abbrev pub mark_place : List ℕ → ℕ
mark_place name =
    (604 * slice_index_or name 0 0 + 10 * slice_index_or name 1 0 + slice_index_or name 2 0) % 2048
