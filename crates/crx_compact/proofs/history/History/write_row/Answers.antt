use Rattle.crx_compact.proofs.Vocabulary.{rules, ◌≡◌, ◌-◌, List, length, not, ap, err_from_is_err_and}
use Rattle.crx_compact.proofs.Vocabulary.{sym, ◌∙◌, refl, subst, false≢true, has_satellite, PlacedRows, Row}
use Rattle.crx_compact.proofs.Vocabulary.{HasRoom, KeepsRooms, OpenHistory, row_of_parts, arith}
use Rattle.crx_compact.proofs.Vocabulary.{Tail, AreRowsWritten}
use Rattle.crx_compact.proofs.{Writing.{come-already, no-row, written-next}}
use Rattle.crx_compact.proofs.{placing.AddingAnswers.placed-asked}
use Rattle.crx_compact.proofs.placing.SteppedRows.{IsLastStored, come-stored, last-within}
use Rattle.crx_compact.specs.{Placing.{HasCome, IsPlaced, SatelliteTail}, contracts.history.History.the_view}
use Rattle.crx_compact.proofs.history.History.write_row.Goals.{After-unwrap-satellite, Joined-place}
use Rattle.crx_compact.proofs.history.History.write_row.Goals as goal
use Rattle.std.proofs.lemmas.Grind.{common_steps}

-- the satellite is added, or had a row already, and only the satellites have changed
placed : (c : Joined-place) → IsPlaced c.args.name.now (length c.args.values.now) c.self.inside.satellites
    c.match-place.self-inside.satellites c.match-place.is_new
    × KeepsRooms c.self.inside.satellites.rooms c.match-place.self-inside.satellites.rooms
    × (the_view c.match-place.self-inside
    ≡ record c.args.self.now { satellites = c.match-place.self-inside.satellites })
placed c = search (rules, arith, placed-asked)

pub returns-in_err-prepare-in-None-clause-written : goal.returns-in_err-prepare-in-None-clause-written
returns-in_err-prepare-in-None-clause-written c = λ after rows written.
    let p = err_from_is_err_and c.from_residual.result c.from_residual.ensures.1 in
    rw (p.1) (record {
      ok = tt;
      err = sym (come-already after rows c.args.self.now c.args.lines.now.lines
          c.self.inside.satellites c.args.name.now
          (ap (λ (h : OpenHistory). h.satellites) c.self.view_is) written)
          ∙ (c.in-None.ensures.unplaced refl).absent;
    })

-- whether the row's satellite is new
answer : (c : Joined-place) (after : Tail) (rows : List Row)
    → AreRowsWritten after rows c.args.self.now c.args.lines.now.lines
    → c.match-place.is_new ≡ not (has_satellite c.args.name.now rows)
answer c after rows written =
    grind (
      arith,
      come-already after rows c.args.self.now c.args.lines.now.lines c.self.inside.satellites c.args.name.now,
    )

pub returns-then-not-is_new-clause-written : goal.returns-then-not-is_new-clause-written
returns-then-not-is_new-clause-written c = λ after rows written.
    let at = (goal.at.returns-then-not-is_new-clause-written c).Joined-place in
    let come = placed at in
    record {
      err = tt;
      ok = record {
        answer = sym c.if-not-is_new.true ∙ answer at after rows written;
        written = λ is. absurd (false≢true is);
        taken = λ is. absurd (false≢true is);
        same = grind (arith, common_steps, come);
      };
    }

-- the history of the satellite that was added
stored : (c : After-unwrap-satellite) → HasCome c.args.name.now c.self.inside.satellites
    c.match-place.self-inside.satellites
    → IsLastStored c.args.name.now (c.placed_count-last.result - 1) c.self.inside.satellites
    c.match-place.self-inside.satellites c.unwrap-satellite.result.now
stored c come = come-stored _ _ _ _ _ come (ap (λ n. n - 1) c.placed_count-last.ensures.value)
    (rw (c.unwrap-satellite.ensures) at c.entry_mut.ensures.there)

pub entry_mut-requires : goal.entry_mut-requires
entry_mut-requires c = grind (arith, common_steps, last-within)

pub put_row-requires-clause-fits : goal.put_row-requires-clause-fits
put_row-requires-clause-fits c =
    let at = goal.at.put_row-requires-clause-fits c in
    let placed = (placed at.Joined-place).0 in
    let sound = c.requires.sound in
    record {
      ranged = sound.ranged;
      missing = c.requires.missing;
      few = omega (arith, sound.counted);
      fits = record {
        room = (stored at.After-unwrap-satellite (placed.come c.if-not-is_new.false)).room _
            (placed.room c.if-not-is_new.false);
        paired = sound.paired;
        held = record { within = omega (arith, sound.counted, sound.paired); kept = sound.kept };
      };
    }

pub returns-clause-written : goal.returns-clause-written
returns-clause-written c = λ after rows written.
    let at = goal.at.returns-clause-written c in
    let come = placed at.Joined-place in
    let row : Row = row_of_parts c.args.name.now c.args.values.now c.args.flags.now in
    let before = c.self.inside.satellites in
    let same = ap (λ (h : OpenHistory). h.satellites) c.self.view_is in
    record {
      err = tt;
      ok = record {
        answer = sym c.if-not-is_new.false ∙ answer at.Joined-place after rows written;
        written = λ is. written-next after rows row c.args.self.now _ before
            c.match-place.self-inside.satellites
            (c.placed_count-last.result - 1) c.unwrap-satellite.result.now c.put_row.new.satellite
            c.args.lines.now.lines
            c.put_row.new.self.lines same written c.requires.sound
            (no-row after rows c.args.self.now c.args.lines.now.lines before row.name c.match-place.is_new
            same come.0.answer c.if-not-is_new.false written) (come.0.come c.if-not-is_new.false)
            (stored at.After-unwrap-satellite (come.0.come c.if-not-is_new.false))
            (rw (c.unwrap-satellite.ensures) at c.entry_mut.follows.holds c.put_row.new.satellite)
            c.put_row.ensures.after c.put_row.ensures.lines (ap (λ (h : OpenHistory). h.text) come.2)
            (ap (λ (h : OpenHistory). h.clock) come.2);
        taken = λ is. c.put_row.ensures.taken;
        same = λ is. absurd (false≢true (sym is));
      };
    }

pub returns-clause-prepared : goal.returns-clause-prepared
returns-clause-prepared c =
    let at = goal.at.returns-clause-prepared c in
    let come = placed at.Joined-place in
    let left = (stored at.After-unwrap-satellite (come.0.come c.if-not-is_new.false)).left
    c.put_row.new.satellite _
    (rw (c.unwrap-satellite.ensures) at c.entry_mut.follows.holds c.put_row.new.satellite)
    (ap (λ (s : SatelliteTail). s.room) c.put_row.ensures.after) in
    let same = sym (ap (λ (p : PlacedRows). p.rooms) left) in
    record {
      known = λ has. refl;
      room = λ is. subst (HasRoom _ _) same (come.0.room c.if-not-is_new.false);
      rooms = grind (arith, common_steps, come, same);
    }
