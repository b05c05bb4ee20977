use Rattle.std.proofs.Common.{◌≡◌, ℕ, length, length-append, arith, ap, ◌∙◌, None, get_or}
use Rattle.std.proofs.{lemmas.List.{length-map, length-take-le, length-replicate, get_or_default}, lemmas.Grind.common_steps}
use Rattle.std.proofs.lemmas.Option.{slice_get-get_or}
use Rattle.crx_rinex.specs.SatelliteLines.{with_value}
use Rattle.crx_compact.proofs.{CellsFor.{cell-there, length-cells}, ShownRows.{row-all, row-more}}
use Rattle.crx_compact.proofs.{SoundTexts.columns-trimmed, Vocabulary.length-each_place}
use Rattle.crx_compact.specs.ArcSteps.{shown_value}
use Rattle.crx_compact.proofs.satellite.SatelliteHistory.row.Goals as goal
use Rattle.crx_compact.proofs.satellite.SatelliteHistory.row.Goals.{in-Some, in-None}

pub set-requires-clause-within : goal.set-requires-clause-within
set-requires-clause-within c =
    grind (arith, common_steps, length-append, length-map, length-take-le, length-replicate, length-cells)

pub set_flags-requires-clause-fitting : goal.set_flags-requires-clause-fitting
set_flags-requires-clause-fitting c =
    grind (arith, common_steps, length-append, length-map, length-take-le, length-replicate, length-cells)

pub loop-index-preserved : goal.loop-index-preserved
loop-index-preserved c =
    let place : ℕ = c.loop-index.index in
    let many : length c.args.self.now.cells ≡ c.self.inside.count =
    grind (arith, common_steps, length-each_place) in
    let value : c.match-get.value ≡ shown_value (get_or c.args.self.now.cells place None) =
    elim c.match-get.branch [
      | in-Some w ↦ grind (
        arith,
        common_steps,
        cell-there,
        get_or_default,
        w.value-value.ensures.value,
      )
      | in-None w ↦ grind (arith, common_steps, cell-there)
    ] in
    c.set.ensures.value ∙ ap (with_value c.loop-index.row place) value ∙ row-more _ _
    c.args.self.now.cells c.self.inside.count place c.loop-index.row _ c.loop-index.invariant
    (slice_get-get_or c.args.self.now.cells place None (omega (arith, many, c.loop-index-test.true))) many

pub returns : goal.returns
returns c = grind (arith, common_steps, row-all, columns-trimmed, length-each_place)
