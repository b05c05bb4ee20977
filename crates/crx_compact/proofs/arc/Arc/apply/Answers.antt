use Rattle.crx_compact.proofs.Vocabulary.{rules, ◌≡◌, ◌∷◌, ℕ, ℤ, List, Some, IsWithin}
use Rattle.crx_compact.proofs.Vocabulary.{Result, Ok, Option, is_ok, Code, ArcTail, value_of, if◌then◌else◌, Fault}
use Rattle.crx_compact.proofs.arcs.Running.{StepsOn, stepped}
use Rattle.crx_compact.proofs.arcs.Running.{same-bits, begun-list, begun-kept, lower-below, within-below}
use Rattle.crx_compact.proofs.{Vocabulary.{arc_of_code, value_of_code}, arcs.Arcs.values-of_codes}
use Rattle.crx_compact.proofs.{arcs.Bounds.within-is, arcs.Running.goes-on-kept}
use Rattle.std.proofs.Common.{w64, to_z, of_z}
use Rattle.crx_compact.specs.{ArcLaws.{accepted, arc_of_codes}}
use Rattle.crx_compact.proofs.arc.Arc.apply.{Given.Over, Goals.After-value_after-value}
use Rattle.crx_compact.proofs.arc.Arc.apply.Goals.{Else-not-is_within-2}
use Rattle.crx_compact.proofs.arc.Arc.apply.Goals as goal

on : (g : Over) (c : After-value_after-value g) → StepsOn g.row.WIDTH c.self.inside.order c.self.inside.count
    c.min-last.result c.in-Step.number c.value_after-value.result c.self.inside.differences
on g c = stepped _ _ _ _ _ _ _ c.min-last.ensures (search rules) c.self.told c.value_after-value.ensures
    (search rules)

within : (g : Over) (c : Else-not-is_within-2 g) → IsWithin g.row.WIDTH c.value_after-value.result
within g c = search (rules, same-bits, within-is, c.is_within-in-Step.ensures, c.if-not-is_within-2.false)

pub invariant_of-self-in-Start : goal.invariant_of-self-in-Start
invariant_of-self-in-Start g c =
    let is : IsWithin g.row.WIDTH c.in-Start.value =
    search (rules, same-bits, within-is, c.is_within.ensures, c.if-not-is_within.false) in
    let printable = rw c.in-Start.is at c.requires in
    rw (same-bits c.in-Start.value (search rules))
    (begun-kept _ _ _ _ (search rules) c.self.invariant.few_columns printable.0 is)

pub returns-else-not-is_within-clause-ok : goal.returns-else-not-is_within-clause-ok
returns-else-not-is_within-clause-ok g c = search (rules, c.in-Start.is, same-bits, begun-list)

pub value_after-value-requires-clause-below : goal.value_after-value-requires-clause-below
value_after-value-requires-clause-below g c = search (rules, lower-below)

pub returns-then-not-is_within-2-clause-value : goal.returns-then-not-is_within-2-clause-value
returns-then-not-is_within-2-clause-value g c =
    search (rules, on g (goal.at.returns-then-not-is_within-2-clause-value g c).After-value_after-value)

pub advance_differences-requires-clause-below : goal.advance_differences-requires-clause-below
advance_differences-requires-clause-below g c = search (rules, lower-below)

pub advance_differences-requires-clause-next : goal.advance_differences-requires-clause-next
advance_differences-requires-clause-next g c =
    let is = within g (goal.at.advance_differences-requires-clause-next g c).Else-not-is_within-2 in
    search (rules, within-below)

pub invariant_of-self-in-Step : goal.invariant_of-self-in-Step
invariant_of-self-in-Step g c =
    goes-on-kept _ _ _ _ _ _ _ c.min-last.ensures c.self.invariant
    (within g (goal.at.invariant_of-self-in-Step g c).Else-not-is_within-2) (search (rules, same-bits))

pub returns-else-not-is_within-2-clause-value : goal.returns-else-not-is_within-2-clause-value
returns-else-not-is_within-2-clause-value g c =
    let on' = on g (goal.at.returns-else-not-is_within-2-clause-value g c).After-value_after-value in
    search (rules, same-bits, c.is_within-in-Step.ensures, c.if-not-is_within-2.false)

pub returns-else-not-is_within-2-clause-ok : goal.returns-else-not-is_within-2-clause-ok
returns-else-not-is_within-2-clause-ok g c =
    let on' = on g (goal.at.returns-else-not-is_within-2-clause-ok g c).After-value_after-value in
    search (rules, same-bits)

-- the clause for any earlier coded values, by the arc
every : (width : ℕ) (code : Code) (codes : List Code) (old new : Option ArcTail) (result : Result
    (Option ℤ) Fault)
    → result ≡ value_of_code width code old → new ≡ (if is_ok result then arc_of_code code old else old)
    → old ≡ arc_of_codes width codes
    → (result ≡ value_of width (code ∷ accepted width codes)) × (new ≡ arc_of_codes width (code ∷ codes))
every width code codes old new result value left h = search (rules, values-of_codes)

pub returns-then-self-eq0-clause-every : goal.returns-then-self-eq0-clause-every
returns-then-self-eq0-clause-every g c = λ codes h.
    search (rules, every)

pub returns-then-not-is_within-2-clause-every : goal.returns-then-not-is_within-2-clause-every
returns-then-not-is_within-2-clause-every g c = λ codes h.
    search (rules, every, returns-then-not-is_within-2-clause-value)

pub returns-else-not-is_within-clause-every : goal.returns-else-not-is_within-clause-every
returns-else-not-is_within-clause-every g c = λ codes h.
    let value : Ok (Some (to_z w64 (of_z w64 c.in-Start.value)))
    ≡ value_of_code g.row.WIDTH c.args.code c.args.self.now = search rules in
    every g.row.WIDTH c.args.code codes c.args.self.now _ _ value (returns-else-not-is_within-clause-ok g c) h

pub returns-else-not-is_within-2-clause-every : goal.returns-else-not-is_within-2-clause-every
returns-else-not-is_within-2-clause-every g c = λ codes h.
    every g.row.WIDTH c.args.code codes c.args.self.now _ _ (returns-else-not-is_within-2-clause-value g c)
    (returns-else-not-is_within-2-clause-ok g c) h
