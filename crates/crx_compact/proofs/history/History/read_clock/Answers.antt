use Rattle.crx_compact.proofs.Vocabulary.{rules, ap, refl, ReadCell, shown_value, Missing, None}
use Rattle.crx_compact.proofs.{CellsRead.shown-code, Marks.none-there}
use Rattle.crx_compact.proofs.history.History.read_clock.Goals as goal

pub returns-clause-ok : goal.returns-clause-ok
returns-clause-ok c =
    let cell : ReadCell = record { code = c.in-Ok.code; value = c.in_ok-apply.field-0 } in
    record {
      cell = cell;
      read = search rules;
      left = search rules;
      shown = search (rules, shown_value, c.in_ok-apply.ensures.ok, shown-code, c.in_ok-apply.ensures.value);
    }

pub returns-then-is_empty-clause-ok : goal.returns-then-is_empty-clause-ok
returns-then-is_empty-clause-ok c =
    let nothing = none-there c.args.line.now c.if-is_empty.ensures in record {
      cell = record { code = Missing; value = None };
      read = rw nothing refl;
      left = search rules;
      shown = ap shown_value c.end.ensures.ended;
    }
