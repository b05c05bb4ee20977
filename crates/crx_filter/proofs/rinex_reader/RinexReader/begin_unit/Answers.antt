use Rattle.crx_filter.proofs.RinexSteps.{begin-made, event-made, event-counts, begun-part, begun-whole}
use Rattle.crx_filter.proofs.Vocabulary.{◌≡◌, Bool, ℕ, List, Ok, ap, refl, arith, ◌∙◌, OpenEpoch}
use Rattle.crx_filter.proofs.Vocabulary.{records_announced, counts_types, with_records_left}
use Rattle.crx_filter.proofs.rinex_reader.RinexReader.begin_unit.Goals.{then-count-eq0, else-count-eq0}
use Rattle.crx_rinex.specs.{Heads.head_line, declared.epoch_line.Head.Head}
use Rattle.crx_filter.proofs.rinex_reader.RinexReader.begin_unit.Goals as goal
use Rattle.std.proofs.lemmas.Grind.{common_steps}

event-phase : (line : List ℕ) (count : ℕ) (counted : Bool) → records_announced line ≡ count → counted
    ≡ counts_types line → with_records_left {O = OpenEpoch} count counted ≡ with_records_left
    (records_announced line) (counts_types line)
event-phase line count counted is same = rw (is, same) refl

pub returns-in-Event : goal.returns-in-Event
returns-in-Event c =
    let self = c.args.self.now in
    let line = c.args.line.now in
    let is = c.in_ok-count.ensures.value ∙ ap (λ (h : Head). Ok (head_line h)) c.in-Event.is in
    grind (
      arith,
      common_steps,
      self,
      line,
      is,
      begin-made self line,
      event-made self.types line,
      event-phase line c.in-Event.count c.counts_types.result,
      event-counts line,
    )

pub returns-after-count-eq0 : goal.returns-after-count-eq0
returns-after-count-eq0 c =
    let read = c.in_ok-count.ensures.value ∙ ap (λ (h : Head). Ok (head_line h)) c.in-Epoch.is in
    let count = c.count.ensures.value in
    record {
      reads = record {
        takes = λ kept. elim c.if-count-eq0.branch [
          | then-count-eq0 w ↦
              let none = w.if-count-eq0.true in
              begun-whole c.args.self.now _ c.args.line.now kept c.in-Epoch.head c.requires.stage read
              (omega (arith, count, none))
              (record { types_then = refl; held = refl; rows_then = c.new-self.ensures.rows }) w.self-is
          | else-count-eq0 w ↦
              let some = w.if-count-eq0.false in
              begun-part c.args.self.now _ c.args.line.now kept c.in-Epoch.head c.requires.stage read
              (omega (arith, count, some))
              (record { types_then = refl; held = refl; rows_then = c.new-self.ensures.rows }) w.self-is
        ];
        refuses = λ kept. tt;
        same = tt;
      };
    }
