use Rattle.crx_compact.proofs.Vocabulary.{rules, few_kept, take_at, ◌≡◌, ◌*◌, ap, sym, ◌∙◌, arith, drop, length}
use Rattle.crx_compact.proofs.satellite.SatelliteHistory.change_indicators.Goals.{After-put_first}
use Rattle.crx_compact.proofs.{Vocabulary.{length-each_place, subst, take}, wayback.LinesInFiles.difference-length}
use Rattle.crx_compact.proofs.SoundTexts.{before-trimmed}
use Rattle.std.proofs.lemmas.List.{length-take}
use Rattle.crx_compact.specs.{HeldRows.AreHeldFlags, Placing.SatelliteTail}
use Rattle.crx_compact.proofs.satellite.SatelliteHistory.change_indicators.Goals as goal

put : (c : After-put_first) → take (2 * c.self-2.inside.count) c.put_first.new.bytes ≡ c.args.flags.now
put c =
    let inside = c.self-2.inside in
    let cells = ap (λ (t : SatelliteTail). length t.cells) (c.self-2.view_is ∙ c.resize.ensures.resized) in
    let many : length c.args.flags.now ≡ 2 * inside.count =
    omega (arith, cells, length-each_place, c.requires.fits.paired) in
    ap (λ n. take n c.put_first.new.bytes) (sym many) ∙ c.put_first.ensures

pub invariant_of-self : goal.invariant_of-self
invariant_of-self c =
    let bytes = c.put_first.new.bytes in
    let old = c.self-2.inside.indicators in
    let kept = c.self-2.invariant in
    rw (take_at bytes (drop (length bytes) old.items) old.len (omega arith)) (
      subst AreHeldFlags (sym (put (goal.at.invariant_of-self c).After-put_first)) c.requires.fits.held,
      kept.1,
      kept.2,
      (kept.3.0, omega (arith, kept.3.1), kept.3.2),
      kept.4,
    )

pub returns : goal.returns
returns c =
    let same = put (goal.at.returns c).After-put_first in
    search (rules, same, take_at, before-trimmed, few_kept, length-take, difference-length)
