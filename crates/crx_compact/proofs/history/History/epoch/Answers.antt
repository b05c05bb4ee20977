use Rattle.crx_compact.proofs.Vocabulary.{arith, rules, ap, sym, ◌∙◌, slice_get, option_map, slice_get-map}
use Rattle.crx_compact.proofs.Vocabulary.{same_Some, shown_row}
use Rattle.crx_compact.proofs.Vocabulary.{IsAwaitedSatellite, OpenHistory, satellite_of}
use Rattle.crx_compact.proofs.{RowByRow.{all-at, is-there}, ShownEpochs.row-shown}
use Rattle.crx_compact.specs.Placing.{row_tail_of}
use Rattle.std.proofs.lemmas.Grind.{common_steps}
use Rattle.crx_compact.proofs.history.History.epoch.Goals as goal

pub row-requires : goal.row-requires
row-requires c =
    let sound = all-at IsAwaitedSatellite _ c.loop-index.index
    (satellite_of (row_tail_of c.entry.result.0.now c.entry.result.1.now)) c.requires.announced.satellites
    (search (
      rules,
      slice_get-map,
      satellite_of,
      option_map,
      slice_get,
      c.self.view_is,
      c.entry.ensures.there,
    )) in
    record { named = sound.named; allowed = sound.counted }

-- no identifier occurs twice, so a row is refused only if memory is
pub returns-in-Err-clause-memory : goal.returns-in-Err-clause-memory
returns-in-Err-clause-memory c =
    let index = c.loop-index.index in
    let at = row-shown c.args.self.now index _ c.requires.announced
    (ap (λ (h : OpenHistory). slice_get h.satellites.rows index) (sym c.self.view_is)
    ∙ c.entry.ensures.there) in
    let new = at.new in
    let shown = c.in_ok-row.ensures.ok in
    grind (arith, common_steps, new, shown, c.loop-index.invariant, c.push.ensures.refused)

pub loop-index-preserved : goal.loop-index-preserved
loop-index-preserved c =
    let index = c.loop-index.index in
    let row = is-there c.self.inside.satellites.rows index (omega arith) in
    let at = row-shown c.args.self.now index row.item c.requires.announced
    (ap (λ (h : OpenHistory). slice_get h.satellites.rows index) (sym c.self.view_is) ∙ row.there) in
    let shown = c.in_ok-row.ensures.ok ∙ ap shown_row (same_Some _ row.item (sym c.entry.ensures.there
    ∙ row.there)) in
    cc (c.in-Ok.ensures.ok, shown, c.loop-index.invariant, at.with)
