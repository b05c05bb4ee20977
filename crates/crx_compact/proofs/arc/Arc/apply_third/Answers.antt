use Rattle.std.proofs.lemmas.Grind.{common_steps}
use Rattle.std.proofs.Common.{rules, ◌≡◌, min, take, sym, ap, subst, ◌∙◌, arith, refl, ℕ}
use Rattle.crx_compact.specs.{meaning.Differences.newest, Arcs.{IsArcInRange}}
use Rattle.crx_compact.specs.ArcSteps.{differences_after}
use Rattle.crx_compact.proofs.arcs.Running.{OntoThird, by-after, goes-on-kept}
use Rattle.crx_compact.proofs.arcs.Bounds.{within-is}
use Rattle.crx_compact.proofs.arcs.Running.{onto-third-kept, same-bits, third-last}
use Rattle.crx_compact.proofs.{arc.Arc.apply_third.Given.Over, arc.Arc.apply_third.Goals.Else-from_le_bytes-ne-THIRD}
use Rattle.crx_compact.proofs.arc.Arc.apply_third.Goals as goal

third : (g : Over) (c : Else-from_le_bytes-ne-THIRD g) → (c.self.inside.order ≡ 3) × (c.self.inside.count ≡ 4)
third g c = search rules

onto : (g : Over) (c : Else-from_le_bytes-ne-THIRD g) → OntoThird c.args.number c.self.inside.differences
onto g c = onto-third-kept _ _ _ _ (third g c) c.self.invariant (search rules) c.args.number c.requires

last : (g : Over) (c : Else-from_le_bytes-ne-THIRD g) → 3 ≡ min c.self.inside.order c.self.inside.count
last g c = third-last _ _ _ _ (third g c) c.self.invariant (search rules)

pub overflow_add-second : goal.overflow_add-second
overflow_add-second g c =
    let o = onto g (goal.at.overflow_add-second g c).Else-from_le_bytes-ne-THIRD in
    search (rules, same-bits)

pub overflow_add-first : goal.overflow_add-first
overflow_add-first g c =
    let o = onto g (goal.at.overflow_add-first g c).Else-from_le_bytes-ne-THIRD in
    search (rules, same-bits)

pub overflow_add-value : goal.overflow_add-value
overflow_add-value g c =
    let o = onto g (goal.at.overflow_add-value g c).Else-from_le_bytes-ne-THIRD in
    grind (arith, common_steps, same-bits)

pub invariant_of-self : goal.invariant_of-self
invariant_of-self g c =
    let at = (goal.at.invariant_of-self g c).Else-from_le_bytes-ne-THIRD in
    let o = onto g at in
    let fits = c.ranges.number in
    let ds = c.self.inside.differences in
    let put =
    simp (same-bits, fits, o.zeroth_before, o.first_before, o.second_before, o.second, o.first, o.value)
    at c.put_four.ensures in
    let is =
    simp (same-bits, fits, o.zeroth_before, o.first_before, o.second_before, o.second, o.first, o.value)
    at c.is_within.ensures in
    subst (λ (n : ℕ). IsArcInRange g.row.WIDTH c.self.inside.order n (take n c.put_four.new.differences))
    (sym (third g at).1)
    (goes-on-kept _ c.self.inside.order c.self.inside.count 3 ds _ _ (last g at) c.self.invariant
    ((within-is _ _).0 (sym is ∙ c.if-not-is_within.false))
    (put ∙ o.sums ∙ by-after c.args.number (take 3 ds)
    ∙ ap (λ v. differences_after v (take 3 ds)) (sym (ap newest o.sums))))

pub returns-then-not-is_within-clause-none : goal.returns-then-not-is_within-clause-none
returns-then-not-is_within-clause-none g c =
    let at = (goal.at.returns-then-not-is_within-clause-none g c).Else-from_le_bytes-ne-THIRD in
    let o = onto g at in
    let third = third g at in
    rw (← c.self.view_is) (refl, λ has. search rules)

pub returns : goal.returns
returns g c =
    let at = (goal.at.returns g c).Else-from_le_bytes-ne-THIRD in
    let o = onto g at in
    let third = third g at in
    rw (← c.self.view_is) (record {
      value = search (rules, same-bits);
      arc = search (rules, same-bits, by-after);
      none = tt;
    })
