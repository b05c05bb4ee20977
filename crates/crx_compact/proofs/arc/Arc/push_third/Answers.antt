use Rattle.crx_compact.proofs.arcs.Running.{ToThird, after-three, goes-on, goes-on-kept}
use Rattle.crx_compact.proofs.Vocabulary.{rules, ◌≡◌, min, take, sym, ap, subst, ◌∙◌, arith, ℕ, Step}
use Rattle.crx_compact.proofs.arcs.Running.{highest-short, same-bits, third-last, to-third-kept}
use Rattle.crx_compact.proofs.{arc.Arc.push_third.Given.Over, arc.Arc.push_third.Goals.Else-from_le_bytes-ne-THIRD}
use Rattle.crx_compact.specs.{ArcSteps.highest, Arcs.{IsArcInRange}}
use Rattle.crx_compact.proofs.arc.Arc.push_third.Goals as goal

third : (g : Over) (c : Else-from_le_bytes-ne-THIRD g) → (c.self.inside.order ≡ 3) × (c.self.inside.count ≡ 4)
third g c = search rules

to : (g : Over) (c : Else-from_le_bytes-ne-THIRD g) → ToThird c.args.value c.self.inside.differences
to g c = to-third-kept _ _ _ _ (third g c) c.self.invariant (search rules) c.args.value c.requires

last : (g : Over) (c : Else-from_le_bytes-ne-THIRD g) → 3 ≡ min c.self.inside.order c.self.inside.count
last g c = third-last _ _ _ _ (third g c) c.self.invariant (search rules)

pub overflow_sub-first : goal.overflow_sub-first
overflow_sub-first g c =
    let t = to g (goal.at.overflow_sub-first g c).Else-from_le_bytes-ne-THIRD in
    simp (same-bits, c.ranges.value, t.zeroth_before) t.first

pub overflow_sub-second : goal.overflow_sub-second
overflow_sub-second g c =
    let t = to g (goal.at.overflow_sub-second g c).Else-from_le_bytes-ne-THIRD in
    simp (same-bits, c.ranges.value, t.zeroth_before, t.first_before, t.first) t.second

pub overflow_sub-third : goal.overflow_sub-third
overflow_sub-third g c =
    let t = to g (goal.at.overflow_sub-third g c).Else-from_le_bytes-ne-THIRD in
    search (rules, same-bits)

pub invariant_of-self : goal.invariant_of-self
invariant_of-self g c =
    let at = (goal.at.invariant_of-self g c).Else-from_le_bytes-ne-THIRD in
    let t = to g at in
    let fits = c.ranges.value in
    let ds = c.self.inside.differences in
    let put =
    simp (same-bits, fits, t.zeroth_before, t.first_before, t.second_before, t.first, t.second, t.third)
    at c.put_four.ensures in
    subst (λ (n : ℕ). IsArcInRange g.row.WIDTH c.self.inside.order n (take n c.put_four.new.differences))
    (sym (third g at).1)
    (goes-on-kept _ c.self.inside.order c.self.inside.count 3 ds _ _ (last g at) c.self.invariant c.requires
    (put ∙ sym (after-three ds c.args.value (search rules))))

pub returns : goal.returns
returns g c =
    let at = (goal.at.returns g c).Else-from_le_bytes-ne-THIRD in
    let third = third g at in
    let ds = c.self.inside.differences in
    let t = to g at in
    let fits = c.ranges.value in
    let order = c.self.inside.order in
    let three = after-three ds c.args.value (search rules) in
    let on = goes-on order c.self.inside.count 3 c.args.value ds (last g at) (omega (arith, third.1))
    (search rules) in
    rw (← c.self.view_is) (simp
    (same-bits, fits, t.zeroth_before, t.first_before, t.second_before, t.first, t.second, t.third) (record {
      code = sym (ap Step (sym (ap highest three)) ∙ on.code);
      short = rw (← (ap highest three)) (highest-short _ order c.self.inside.count 3 _ _ (last g at)
          c.self.invariant c.requires);
      arc = search rules;
      none = tt;
    }))
