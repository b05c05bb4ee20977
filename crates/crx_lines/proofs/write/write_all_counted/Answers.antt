use Rattle.std.proofs.Common.{◌≡◌, ◌≤◌, ℕ, ◌+◌, ◌-◌, List, ◌++◌, length-take, length-drop, take, drop, ◌∙◌}
use Rattle.std.proofs.{Common.{subst, arith, append-nil}, Math.Seq.take-add, lemmas.Grind.common_steps}
use Rattle.std.proofs.lemmas.List.{take-take}
use Rattle.crx_lines.proofs.write.write_all_counted.Goals as goal

-- the bytes written so far, and the next ones after them
take-rest : (bytes : List ℕ) (n k m : ℕ) → m ≤ k
    → take n bytes ++ take m (take k (drop n bytes)) ≡ take (n + m) bytes
take-rest bytes n k m few = grind (arith, common_steps, take-take, take-add)

pub loop-written-preserved : goal.loop-written-preserved
loop-written-preserved g c =
    let bytes = c.args.bytes.now in
    let old = c.args.writer.now in
    let now = c.loop-written.writer in
    let new = c.write.new.self in
    let at : ℕ = c.loop-written.written in
    let room : ℕ = at + c.min.result - at in
    let bound = c.in-Ok.ensures.bound in
    let cut = length-take room (drop at bytes) in
    let few : c.in-Ok.count ≤ room = omega (arith, bound, cut) in
    let before = c.loop-written.invariant in (
      omega (arith, bound, cut, length-drop at bytes),
      rw (← (take-rest bytes at room c.in-Ok.count few))
          (g.met.W.Sink.took_both old now new _ _ before.1 c.in-Ok.ensures.bytes),
      c.in-Ok.ensures.good ∙ before.2,
      c.in-Ok.ensures.unasked ∙ before.3,
      c.in-Ok.ensures.awaited ∙ before.4,
      c.in-Ok.ensures.unbroken ∙ before.5,
    )

pub returns-in-Err-clause-part : goal.returns-in-Err-clause-part
returns-in-Err-clause-part g c =
    let bytes = c.args.bytes.now in
    let old = c.args.writer.now in
    let now = c.loop-written.writer in
    let new = c.write.new.self in
    subst (λ l. g.W.Sink.took old l new) (append-nil _)
    (g.met.W.Sink.took_both old now new _ _ c.loop-written.invariant.1 c.in-Err.ensures.none_taken)
