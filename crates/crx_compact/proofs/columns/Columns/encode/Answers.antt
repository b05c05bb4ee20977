use Rattle.crx_compact.proofs.Vocabulary.{rules, arith, ◌≡◌, Bool, true, not, Some, None, if◌then◌else◌}
use Rattle.crx_compact.proofs.Vocabulary.{ap, ◌∙◌, tail_held}
use Rattle.crx_compact.proofs.Vocabulary.{tail_of_history, lines_after_tail, no_tail}
use Rattle.crx_compact.proofs.Vocabulary.{tail_written_after, Tail}
use Rattle.crx_compact.proofs.{wayback.Tailing.{lines-coded, tail-coded}}
use Rattle.crx_compact.proofs.reading.Stages.{stage-idle, tail-idle}
use Rattle.crx_compact.specs.{Coded.CodedEpoch}
use Rattle.crx_compact.proofs.columns.Columns.encode.Goals.{After-encode}
use Rattle.crx_compact.proofs.columns.Columns.encode.Goals as goal
use Rattle.std.proofs.lemmas.Grind.{common_steps}

-- an epoch is full if that was requested or no epoch is kept
in-full : (full is_kept : Bool) (tail : Tail)
    → (if (if full then true else not is_kept) then no_tail else tail)
    ≡ tail_written_after full (if is_kept then Some tail else None)
in-full full is_kept tail = grind arith

means : (c : After-encode)
    → c.if-full.in_full ≡ (if c.args.full then true else not c.self.inside.is_kept)
means c = search rules

-- the tail that an epoch is written after, by the parts of idle columns
after : (c : After-encode)
    → (if c.if-full.in_full then no_tail else tail_of_history c.self.inside.history)
    ≡ tail_written_after c.args.full (tail_held c.args.self.now)
after c =
    search (rules, no_tail, tail_of_history, means, in-full, tail_written_after, tail-idle, c.self.view_is)

pub returns-in-Ok-encode-clause-coded : goal.returns-in-Ok-encode-clause-coded
returns-in-Ok-encode-clause-coded c = search (rules, lines_after_tail, after)

pub returns-in-Ok-encode-clause-kept : goal.returns-in-Ok-encode-clause-kept
returns-in-Ok-encode-clause-kept c = grind (arith, common_steps, stage-idle)

pub returns-in-Ok-encode-clause-left : goal.returns-in-Ok-encode-clause-left
returns-in-Ok-encode-clause-left c = λ epochs h.
    search (rules, returns-in-Ok-encode-clause-kept, tail-coded, tail_held, c.is_full.ensures.sound)

pub returns-in-Ok-encode-clause-lines : goal.returns-in-Ok-encode-clause-lines
returns-in-Ok-encode-clause-lines c = λ epochs h.
    ap (λ (q : CodedEpoch). q.lines) (returns-in-Ok-encode-clause-coded c)
    ∙ lines-coded c.args.full c.args.epoch (tail_held c.args.self.now) epochs c.is_full.ensures.sound h
