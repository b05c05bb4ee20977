use Rattle.crx_compact.proofs.Vocabulary.{rules, ◌≡◌, ◌≤◌, ◌+◌, ◌*◌, ◌++◌}
use Rattle.crx_compact.proofs.Vocabulary.{List, ℕ, ap, sym, ◌∙◌, arith}
use Rattle.crx_compact.proofs.Vocabulary.{common_steps, length, length-each_place, length-map, length-take-le, map}
use Rattle.crx_compact.proofs.satellite.SatelliteHistory.print_line.Goals.{After-self, then-arcs-count}
use Rattle.crx_compact.proofs.satellite.SatelliteHistory.print_line.Goals.{else-arcs-count}
use Rattle.crx_compact.proofs.{Vocabulary.{take, columns, shown_value}, SoundTexts.columns-trimmed}
use Rattle.crx_compact.proofs.{CellsFor.{values-past}}
use Rattle.std.proofs.{lemmas.List.{drop_all}}
use Rattle.crx_text.proofs.WrittenTexts.{line-written}
use Rattle.crx_text.specs.meaning.PrintedCells.{printed_cells}
use Rattle.crx_compact.specs.Placing.{SatelliteTail, cells_for}
use Rattle.crx_compact.proofs.satellite.SatelliteHistory.print_line.Goals as goal

-- its cells are those of its arcs, then empty ones
cells : (c : After-self) → c.args.self.now.cells ≡ cells_for c.self.inside.count
    c.self.inside.arcs.items
cells c = sym (ap (λ (t : SatelliteTail). t.cells) c.self.view_is)

pub print_cells-requires-clause-room : goal.print_cells-requires-clause-room
print_cells-requires-clause-room c =
    grind (arith, common_steps, length-each_place)

pub print_missing-requires-clause-room : goal.print_missing-requires-clause-room
print_missing-requires-clause-room c =
    grind (arith, common_steps, length-each_place)

pub slice_bounds-trim_end-end : goal.slice_bounds-trim_end-end
slice_bounds-trim_end-end c =
    grind (arith, common_steps, length-each_place)

pub returns : goal.returns
returns c =
    let count : ℕ = c.self.inside.count in
    let flags : List ℕ = take (2 * count) c.deref.result.now in
    let own = cells (goal.at.returns c).After-self in
    let many : length c.args.self.now.cells ≡ count = ap length own ∙ length-each_place _ _ in
    let same : c.as_slice-arcs.result.now ≡ c.self.inside.arcs.items = grind (arith, common_steps) in
    let all : length c.as_slice-arcs.result.now
    ≡ length c.self.inside.arcs.items =
    ap length same in
    let paired : length flags ≡ 2 * count = grind (arith, common_steps, length-take-le) in
    let few : length c.as_slice-arcs.result.now ≤ count = rw same c.self.invariant.1 in
    let made = c.print_cells.ensures.put count paired few in
    let past = values-past c.self.inside.arcs.items count in
    let printed : take (c.args.at + 3 + 16 * count) c.if-arcs-count.bytes ≡ take (c.args.at + 3)
    c.put_identifier.new.bytes ++ printed_cells (map shown_value c.args.self.now.cells)
    (columns flags 1 (2 * count)) =
    elim c.if-arcs-count.branch [
      | then-arcs-count w ↦
          cc (w.bytes-is, w.print_missing.ensures.put, made, own, same, past, all)
      | else-arcs-count w ↦
          let done : length c.as_slice-arcs.result.now ≡ count = grind (arith, common_steps) in
          let long = length-map c.args.self.now.cells shown_value in
          grind (arith, common_steps, done, many, long, made, own, same, drop_all)
    ] in
    search (rules, printed, many, line-written, length-take-le, columns-trimmed)
