use Rattle.crx_compact.proofs.Vocabulary.{rules, ◌≡◌, ◌+◌, ◌∷◌, ℤ, List, Option, take}
use Rattle.crx_compact.proofs.Vocabulary.{slice_set, WRITTEN_ORDER, IsWithin, Code, Start, Step, ArcTail, code_at}
use Rattle.crx_compact.proofs.arcs.Running.{same-bits, begun-kept, lower-below}
use Rattle.crx_compact.proofs.{Vocabulary.{stretch, arc_of_value, code_of_value}, arcs.Arcs.codes-of_values}
use Rattle.crx_compact.proofs.arcs.Running.{within-below, goes-on-kept, goes-on, highest-short, begun-list}
use Rattle.std.proofs.Common.{w64, to_z, of_z}
use Rattle.crx_compact.specs.{ArcLaws.arc_of_values, Arcs.kept_tail}
use Rattle.crx_compact.proofs.arc.Arc.push.{Given.Over, Goals.In-Some}
use Rattle.crx_compact.proofs.arc.Arc.push.Goals as goal
use Rattle.crx_compact.proofs.arcs.Running.{below-short}

-- the clause for any earlier values, by the arc
every : (value : Option ℤ) (values : List (Option ℤ)) (old new : Option ArcTail) (code : Code)
    → code ≡ code_of_value value old → new ≡ arc_of_value value old → old ≡ arc_of_values values
    → (code ≡ code_at WRITTEN_ORDER (stretch (value ∷ values))) × (new ≡ arc_of_values (value ∷ values))
every value values old new code is goes h = search (rules, codes-of_values)

within : (g : Over) (c : In-Some g) → IsWithin g.row.WIDTH c.in-Some.value
within g c = rw c.in-Some.is at c.requires

pub invariant_of-self-then-self-eq0 : goal.invariant_of-self-then-self-eq0
invariant_of-self-then-self-eq0 g c =
    let is = within g (goal.at.invariant_of-self-then-self-eq0 g c).In-Some in
    search (rules, begun-kept)

pub returns-then-self-eq0 : goal.returns-then-self-eq0
returns-then-self-eq0 g c =
    let value : ℤ = c.in-Some.value in
    let below = within-below g.row.WIDTH value c.self.invariant.few_columns
    (within g (goal.at.returns-then-self-eq0 g c).In-Some) in
    let code : Start 3 (to_z w64 (of_z w64 value)) ≡ code_of_value c.args.value c.args.self.now =
    search rules in
    let arc : kept_tail 3 (take 1 (slice_set c.self.inside.differences 0 (to_z w64 (of_z w64 value)))) ≡
    arc_of_value c.args.value c.args.self.now = search (rules, same-bits, begun-list) in
    search (rules, below-short, every)

pub advance_differences-highest-requires-clause-below : goal.advance_differences-highest-requires-clause-below
advance_differences-highest-requires-clause-below g c = search (rules, lower-below)

pub advance_differences-highest-requires-clause-next : goal.advance_differences-highest-requires-clause-next
advance_differences-highest-requires-clause-next g c =
    let is = within g (goal.at.advance_differences-highest-requires-clause-next g c).In-Some in
    search (rules, within-below)

pub invariant_of-self-2 : goal.invariant_of-self-2
invariant_of-self-2 g c =
    goes-on-kept _ _ _ _ _ _ _ (search rules) c.self.invariant
    (within g (goal.at.invariant_of-self-2 g c).In-Some) (search (rules, same-bits))

pub returns : goal.returns
returns g c =
    let on = goes-on c.self.inside.order c.self.inside.count c.min-last.result c.in-Some.value
    c.self.inside.differences (search rules) (search rules) (search rules) in
    let is = within g (goal.at.returns g c).In-Some in
    let code : Step (to_z w64 (of_z w64 c.advance_differences-highest.result)) ≡ code_of_value c.args.value
    c.args.self.now = search (rules, same-bits) in
    let arc : kept_tail c.self.inside.order
    (take (c.min-last.result + 1) c.advance_differences-highest.new.differences) ≡ arc_of_value c.args.value
    c.args.self.now = search (rules, same-bits) in
    record {
      code = code;
      printable = search (rules, same-bits, highest-short);
      arc = arc;
      every = λ values h. every c.args.value values c.args.self.now _ _ code arc h;
    }
