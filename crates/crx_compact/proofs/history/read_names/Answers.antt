use Rattle.crx_compact.proofs.Vocabulary.{rules, ◌≡◌, ap, ◌+◌, ◌-◌, ◌*◌, ◌++◌, ◌∷◌, [], Bool, not, true, false}
use Rattle.crx_compact.proofs.Vocabulary.{sym, arith, ℕ, List, Err, map}
use Rattle.crx_compact.proofs.Vocabulary.{columns, is_among}
use Rattle.crx_compact.proofs.Vocabulary.{IsAwaitedSatellite, BadSatellite}
use Rattle.crx_compact.proofs.Vocabulary.{Satellite, names_in, satellites_named}
use Rattle.crx_compact.proofs.{Vocabulary.{padded_among, RowTail}}
use Rattle.crx_compact.proofs.placing.SteppedRows.{IsLastStored, come-stored, last-within}
use Rattle.std.proofs.lemmas.List.{Elements.All-push}
use Rattle.crx_compact.proofs.Naming.{named-bad, named-twice, named-more, named-all, next-name}
use Rattle.crx_compact.proofs.AddedNames.{HasNameCome, among-rows, awaited-one}
use Rattle.crx_compact.proofs.AddedNames.{name-comes}
use Rattle.crx_text.proofs.EachPlace.{drop_all-each_place}
use Rattle.crx_compact.specs.Placing.{HasCome, IsPlaced}
use Rattle.crx_compact.proofs.{GoodResults.from_some, placing.AddingAnswers.placed-asked}
use Rattle.crx_compact.proofs.history.read_names.Goals.{After-unwrap, Joined-place}
use Rattle.crx_compact.proofs.history.read_names.Goals as goal
use Rattle.std.proofs.lemmas.Grind.{common_steps}

-- whether a satellite has a row already
come-already : (before rows : List RowTail) (found : List Satellite) (name : List ℕ) (is_new b : Bool)
    → rows ≡ map (padded_among before) found
    → is_new ≡ not (is_among (λ (row : RowTail). row.name) name rows) → is_new ≡ b
    → is_among (λ (s : Satellite). s.name) name found ≡ not b
come-already before rows found name is_new b made answer is = search (rules, among-rows)

bad : (c : goal.In_default)
    → satellites_named c.args.types.now [] (names_in c.args.text.now c.args.count) ≡ Err BadSatellite
bad c = grind (arith, common_steps, named-bad, next-name)

pub returns-in_default : goal.returns-in_default
returns-in_default c =
    search (rules, bad)

-- the satellite is added, or had a row already
placed : (c : Joined-place)
    → IsPlaced c.identifier-name.result c.in-Some.cells c.loop-index.satellites c.match-place.satellites
    c.match-place.is_new
placed c = search (rules, placed-asked, from_some)

pub returns-then-not-is_new : goal.returns-then-not-is_new
returns-then-not-is_new c =
    let found = c.loop-index.invariant in
    let come = placed (goal.at.returns-then-not-is_new c).Joined-place in
    let twice = named-twice c.args.types.now (names_in c.args.text.now c.args.count) c.loop-index.index
    found.0 found.1 c.identifier-name.result (search (rules, next-name))
    (sym c.in-Some.ensures.value) (come-already c.args.satellites.now.rest c.loop-index.satellites.rows
    found.0 c.identifier-name.result c.match-place.is_new false found.2 come.answer c.if-not-is_new.true) in
    grind (arith, common_steps, found, come, twice)

-- the history of the satellite that was added
stored : (c : After-unwrap) → HasCome c.identifier-name.result c.loop-index.satellites
    c.match-place.satellites
    → IsLastStored c.identifier-name.result (c.placed_count-last.result - 1) c.loop-index.satellites
    c.match-place.satellites
    c.unwrap.result.now
stored c come = come-stored _ _ _ _ _ come (ap (λ n. n - 1) c.placed_count-last.ensures.value)
    (rw (c.unwrap.ensures) at c.entry_mut.ensures.there)

pub entry_mut-requires : goal.entry_mut-requires
entry_mut-requires c = grind (arith, common_steps, last-within)

pub resize-requires : goal.resize-requires
resize-requires c =
    let at = goal.at.resize-requires c in
    let placed = placed at.Joined-place in
    record {
      room = (stored at.After-unwrap (placed.come c.if-not-is_new.false)).room _ (placed.room
          c.if-not-is_new.false);
    }

pub loop-index-preserved : goal.loop-index-preserved
loop-index-preserved c =
    let found = c.loop-index.invariant in
    let place = c.loop-index.index in
    let name = c.identifier-name.result in
    let satellite : Satellite = record { name = name; count = c.in-Some.cells } in
    let at = goal.at.loop-index-preserved c in
    let placed = placed at.Joined-place in
    let fresh = come-already c.args.satellites.now.rest c.loop-index.satellites.rows found.0 name
    c.match-place.is_new true found.2 placed.answer c.if-not-is_new.false in
    let after = c.entry_mut.follows.lender c.resize.new.self in
    let come : HasNameCome c.args.satellites.now.rest (found.0 ++ satellite ∷ []) c.match-place.satellites
    after = name-comes
    c.args.satellites.now.rest found.0 name c.in-Some.cells _ c.loop-index.satellites
    c.match-place.satellites after c.unwrap.result.now c.resize.new.self found.2 found.3 fresh (placed.come
    c.if-not-is_new.false) (stored at.After-unwrap (placed.come c.if-not-is_new.false))
    (rw (c.unwrap.ensures) at c.entry_mut.follows.holds c.resize.new.self) c.resize.ensures.resized in (
      found.0 ++ satellite ∷ [],
      grind (arith, common_steps, found, place, name, fresh, named-more, next-name),
      come.rows,
      come.awaited,
      All-push IsAwaitedSatellite found.0 satellite found.4 (awaited-one name c.args.text.now (42 + 3 * place)
          c.in-Some.cells c.identifier-name.ensures.value c.in-Some.ensures.named c.in-Some.ensures.allowed),
    )

pub returns : goal.returns
returns c = grind (arith, c.loop-index.invariant, named-all, names_in, drop_all-each_place, columns)
