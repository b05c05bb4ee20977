use Rattle.std.proofs.Common.{◌≤◌, ◌+◌, ◌-◌, ◌++◌, ℕ, length, take, ap, ◌∙◌, arith, length-take-le}
use Rattle.std.proofs.Common.{append-nil, refl}
use Rattle.std.proofs.lemmas.{List.take_at}
use borrow.Rule.Slice.PartMut.{same_len_mid}
use Rattle.crx_lines.proofs.WindowLemmas.{grown}
use Rattle.crx_lines.proofs.window.Window.fill.Goals as goal

pub returns-in-Ok-read-clause-ok : goal.returns-in-Ok-read-clause-ok
returns-in-Ok-read-clause-ok g c =
    let w = c.use_more.new.self in
    let bytes = c.deref_mut.result.now in
    let room : ℕ = w.end + c.min-room.result - w.end in
    let within : w.end ≤ length w.bytes.items = omega (arith, w.padded) in
    let more = take c.in-Ok-read.count _ in
    rw (
      take_at _ _ w.bytes.len
          (same_len_mid w.end room bytes _ c.read-2.auto.buffer ∙ c.deref_mut.ensures.len),
      c.deref_mut.ensures.value,
    ) (
      more,
      length-take-le c.in-Ok-read.count _ c.in-Ok-read.ensures.bound,
      omega (arith, c.in-Ok-read.ensures.bound, c.read-2.auto.buffer, c.min-room.ensures),
      grown w.bytes.items c.read-2.new.buffer w.start w.end _ _ c.in-Ok-read.count w.ordered within
          c.in-Ok-read.ensures.bound refl
          ∙ ap (λ l. l ++ more) (c.use_more.ensures.kept ∙ c.move_to_front.ensures.kept),
      c.in-Ok-read.ensures.bytes,
    )

pub returns-in-Err-read-clause-kept : goal.returns-in-Err-read-clause-kept
returns-in-Err-read-clause-kept g c =
    let w = c.use_more.new.self in
    let within : w.end ≤ length w.bytes.items = omega (arith, w.padded) in
    rw (
      take_at _ _ w.bytes.len
          (same_len_mid w.end _ c.deref_mut.result.now _ c.read-2.auto.buffer ∙ c.deref_mut.ensures.len),
      c.deref_mut.ensures.value,
    ) (grown w.bytes.items c.read-2.new.buffer w.start w.end _ _ 0 w.ordered within (omega arith)
    (omega arith) ∙ append-nil _ ∙ c.use_more.ensures.kept ∙ c.move_to_front.ensures.kept)
