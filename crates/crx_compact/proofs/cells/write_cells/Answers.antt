use Rattle.crx_compact.proofs.Vocabulary.{◌≡◌, ◌<◌, ◌∙◌, sym, ap, drop, take_all}
use Rattle.crx_compact.proofs.Vocabulary.{refl, None, Step, get_or, arith, length, take}
use Rattle.crx_compact.proofs.Vocabulary.{common_steps, take_at, take_more_set, w64}
use Rattle.crx_compact.proofs.CellsFor.{blanks-put, missing-arcs, missing-codes, same-cells}
use Rattle.crx_compact.proofs.Vocabulary.{length-take-le, ◌+◌, ◌-◌, length-each_place}
use Rattle.crx_compact.proofs.cells.write_cells.Goals.{After-as_mut_slice-arcs, After-index-arcs-index}
use Rattle.crx_compact.proofs.cells.write_cells.Goals.{in-Some-push_third, in-None}
use Rattle.crx_compact.proofs.CellsWritten.{write-next}
use Rattle.std.proofs.{lemmas.List.{get_or-take, get_or_default}, Common.{FitsSigned, append_assoc, rules}}
use Rattle.crx_text.proofs.CodeTexts.{code_text_length}
use Rattle.crx_compact.specs.Placing.{cells_for}
use Rattle.crx_compact.proofs.arcs.Running.{same-bits}
use Rattle.crx_compact.proofs.cells.write_cells.Goals as goal

-- there is an arc for each value that may be present
kept : (c : After-as_mut_slice-arcs)
    → (c.as_mut_slice-arcs.result.now ≡ cells_for c.args.filled c.args.arcs.now.items)
    × (length c.as_mut_slice-arcs.result.now ≡ c.args.filled)
    × (length (take c.args.filled c.args.values.now) ≡ c.args.filled)
kept c = grind (arith, common_steps, same-cells, length-each_place, length-take-le)

-- the index of a turn is that of an arc, and of a value of the row
there : (c : After-index-arcs-index) → (c.loop-index.index < c.args.filled)
    × (get_or c.args.values.now c.loop-index.index None
    ≡ get_or (take c.args.filled c.args.values.now) c.loop-index.index None)
    × (get_or c.loop-index.arcs c.loop-index.index None
    ≡ get_or c.loop-index.arcs c.loop-index.index c.index-arcs-index.result)
there c =
    let turn : c.loop-index.index < c.args.filled = grind (arith, length-take-le, c.loop-index-test.true) in (
      turn,
      sym (get_or-take c.args.filled c.args.values.now c.loop-index.index None turn),
      get_or_default c.loop-index.arcs c.loop-index.index None c.index-arcs-index.result
          (omega (arith, turn, c.loop-index.invariant.counted)),
    )

pub loop-index-init : goal.loop-index-init
loop-index-init c =
    let arcs = kept c in
    rw (arcs.0) (record {
      counted = length-each_place c.args.filled _;
      from = omega arith;
      within = omega arith;
      made = refl;
      written = search rules;
      rest = refl;
    })

pub loop-index-preserved-in_default : goal.loop-index-preserved-in_default
loop-index-preserved-in_default c =
    let at = goal.at.loop-index-preserved-in_default c in
    let there = there at.After-index-arcs-index in
    let none : get_or (take c.args.filled c.args.values.now) c.loop-index.index None ≡ None = search rules in
    write-next c.loop-index.invariant there.0 (record {
      arc = rw (there.1, none) c.end.ensures.ended;
      written = rw (there.1, none) (search (rules, take_more_set));
      from = omega arith;
      within = omega arith;
    })

pub write_difference-end-requires-clause-room : goal.write_difference-end-requires-clause-room
write_difference-end-requires-clause-room c =
    let fits : FitsSigned w64 c.in-Some-push_third.difference = search rules in
    let short = code_text_length (Step c.in-Some-push_third.difference) c.in-Some-push_third.ensures.short in
    let at = goal.at.write_difference-end-requires-clause-room c in
    let there = there at.After-index-arcs-index in
    rw (same-bits _ fits)
    (omega (arith, short, c.loop-index.invariant.within, there.0, c.requires.missing.0, c.requires.room))

pub loop-index-preserved : goal.loop-index-preserved
loop-index-preserved c =
    let at = goal.at.loop-index-preserved c in
    let there = there at.After-index-arcs-index in
    let held : FitsSigned w64 c.in-Some.value = search rules in
    elim c.match-push_third.branch [
      | in-Some-push_third w ↦
          let fits : FitsSigned w64 w.in-Some-push_third.difference = search rules in
          let few =
          code_text_length (Step w.in-Some-push_third.difference) w.in-Some-push_third.ensures.short in
          let e = rw (same-bits _ fits) at w.write_difference-end.ensures.within in
          let code = rw (same-bits _ held) at w.in-Some-push_third.ensures.code in
          let arc = rw (same-bits _ held) at w.in-Some-push_third.ensures.arc in
          rw (w.arcs-is, w.bytes-is, w.end-is)
          (write-next c.loop-index.invariant there.0 (rw (there.1, there.2, c.in-Some.is) (record {
            arc = arc;
            written = search rules;
            from = omega (arith, e);
            within = omega (arith, few, e);
          })))
      | in-None w ↦
          rw (w.arcs-is, w.bytes-is, w.end-is) (write-next c.loop-index.invariant there.0
          (rw (there.1, there.2, c.in-Some.is, ← w.in-None.ensures.none.0)
          (rw (same-bits _ held) at w.write_value-end.ensures)))
    ]

pub returns-clause-written : goal.returns-clause-written
returns-clause-written c =
    let arcs = kept (goal.at.returns-clause-written c).After-as_mut_slice-arcs in
    let all : c.loop-index.index ≡ c.args.filled =
    omega (arith, arcs, c.loop-index-test.false, c.loop-index.auto.index-end) in
    let same = take_at c.loop-index.arcs (drop (length c.loop-index.arcs) c.if-len-filled.arcs.items)
    c.if-len-filled.arcs.len (omega (arith, arcs, c.loop-index.auto.arcs)) in
    let whole = sym (take_all c.args.filled c.loop-index.arcs
    (omega (arith, c.loop-index.invariant.counted)))
    ∙ (rw all at c.loop-index.invariant.made) in
    let d = length c.args.values.now - c.args.filled in
    let blank = blanks-put c.loop-index.bytes c.put_blanks.new.text c.loop-index.end
    (c.loop-index.end + d) d refl
    (omega arith) c.put_blanks.ensures.blank in
    record {
      arcs = rw same (ap (cells_for (length c.args.values.now)) whole
          ∙ missing-arcs c.args.arcs.now.items c.args.values.now c.args.filled c.requires.missing);
      written = rw (blank, c.loop-index.invariant.written, all, append_assoc)
          (cc (missing-codes c.args.arcs.now.items c.args.values.now c.args.filled c.requires.missing));
      from = omega (arith, c.loop-index.invariant.from);
      within = omega (arith, c.loop-index.invariant.within, all);
    }

pub returns-clause-arcs : goal.returns-clause-arcs
returns-clause-arcs c =
    let arcs = kept (goal.at.returns-clause-arcs c).After-as_mut_slice-arcs in
    grind (arith, take_at, c.loop-index.auto.arcs)
