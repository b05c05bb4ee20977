-- The coded values of a row, written from left to right.
use Rattle.crx_compact.proofs.Vocabulary.{◌≡◌, ◌≤◌, ◌<◌, ◌+◌, ◌*◌, ◌∙◌, ℕ, ℤ, List, ◌++◌, length, take, drop}
use Rattle.crx_compact.proofs.Vocabulary.{slice_index_or, slice_set, Option, None, arith}
use Rattle.crx_compact.proofs.Vocabulary.{ArcTail, cell_text, each_place, flat_map, take_more_set}
use Rattle.crx_compact.proofs.{AlikeFrom.{alike-there, alike-after}, CellsFor.cell-there}
use Rattle.std.proofs.{lemmas.List.{flat_map_more}, Common.{append_assoc, length-set, rules}}
use Rattle.crx_text.proofs.EachPlace.{each_place-more}
use Rattle.crx_compact.specs.Cells.{IsCellWritten, arc_at_place, code_at_place}
use Rattle.crx_compact.specs.{declared.cells.TheConstants.CELL_ROOM, Placing.cells_for}

-- the coded values before a place are written, and the arcs from there on are the earlier ones, up to the last value that may be present
pub record WrittenUpTo (first : List (Option ArcTail)) (values : List (Option ℤ)) (filled : ℕ)
    (line : List ℕ) (at k : ℕ) (arcs : List (Option ArcTail)) (bytes : List ℕ) (end : ℕ) : Type 0 where
  pub counted : length arcs ≡ filled
  pub from : at ≤ end
  pub within : end ≤ at + CELL_ROOM * k
  pub made : take k arcs ≡ each_place k (arc_at_place first values)
  pub written : take end bytes
      ≡ take at line ++ flat_map cell_text (each_place k (code_at_place first values))
  pub rest : drop k arcs ≡ drop k (cells_for filled first)

-- the next coded value is written, and its arc replaced
pub write-next : {first : List (Option ArcTail)} {values : List (Option ℤ)} {filled at k end end' : ℕ}
    {line bytes bytes' : List ℕ} {arcs : List (Option ArcTail)} {arc : Option ArcTail}
    → WrittenUpTo first values filled line at k arcs bytes end → k < filled
    → IsCellWritten (slice_index_or values k None) (slice_index_or arcs k None) arc bytes end bytes' end'
    → WrittenUpTo first values filled line at (k + 1) (slice_set arcs k arc) bytes' end'
write-next {first} {values} {filled} {at} {k} {end} {end'} {line} {bytes} {bytes'} {arcs} {arc} s here cell =
    let before : slice_index_or arcs k None ≡ slice_index_or first k None =
    alike-there arcs _ k None None s.rest (omega (arith, s.counted, here)) ∙ cell-there filled k first here in
    let made : arc ≡ arc_at_place first values k = rw (← before) cell.arc in
    let coded = rw before at cell.written in
    record {
      counted = grind (arith, length-set, s.counted);
      from = omega (arith, s.from, cell.from);
      within = omega (arith, s.within, cell.within);
      made = search (rules, take_more_set, each_place-more);
      written = search (rules, each_place-more, append_assoc, flat_map_more);
      rest = alike-after arcs _ k arc s.rest;
    }
