use Rattle.std.proofs.Common.{◌≡◌, ◌≤◌, ◌+◌, ◌++◌, ◌∷◌, [], ℕ, List, length, vec_capacity, arith, rules, sym}
use Rattle.std.proofs.{Common.{ap, refl, ◌∙◌, false, if◌then◌else◌}, lemmas.Grind.common_steps}
use Rattle.std.{proofs.lemmas.List.length_push, specs.{List.list_any, Str.bytes_eq}}
use Rattle.indexmap.specs.IndexSet.{spare}
use Rattle.crx_header.specs.meaning.EpochColumns.{satellites_of}
use Rattle.crx_rinex.proofs.{Rows.{among-names, parts-more}, epoch.Epoch.push.Goals.After-contains}
use Rattle.crx_rinex.specs.{Epochs.{AreEpochParts, is_full_epoch}, meaning.Epochs.has_satellite}
use Rattle.crx_rinex.specs.meaning.Observations.{Epoch}
use Rattle.crx_rinex.proofs.epoch.Epoch.push.Goals.{then-is_empty+in_default+in_default-reserve_keys, else-is_empty}
use Rattle.crx_rinex.proofs.epoch.Epoch.push.Goals as goal

-- whether the epoch has the satellite
known : (c : After-contains) → has_satellite c.args.row.name c.args.self.now.rows ≡ c.contains.result
known c = sym (c.contains.ensures
    ∙ ap (λ (n : List ℕ). list_any (bytes_eq n) c.self.inside.names.keys) c.name.ensures.value
    ∙ among-names c.self.inside.names.keys c.self.inside.rows.items c.args.row.name c.self.invariant.0.2
    ∙ ap (λ (e : Epoch). has_satellite c.args.row.name e.rows) c.self.view_is)

pub returns-then-contains-clause-refused : goal.returns-then-contains-clause-refused
returns-then-contains-clause-refused c = grind (arith, common_steps, known, c.if-contains.true)

pub invariant_of-self-2 : goal.invariant_of-self-2
invariant_of-self-2 c =
    let head = c.self.inside.head in
    let names = c.self.inside.names.keys in
    let rows = c.self.inside.rows.items in
    let row = c.args.row in
    let new = known (goal.at.invariant_of-self-2 c).After-contains ∙ c.if-contains.false in
    let made = c.if-is_empty.self-inside in
    let ready : (made.head ≡ head) × (made.rows.items ≡ rows) × (made.names.keys ≡ names)
    × (satellites_of head.head ≤ vec_capacity made.rows)
    × (satellites_of head.head ≤ length rows + spare made.names) = elim c.if-is_empty.branch [
      | then-is_empty+in_default+in_default-reserve_keys w ↦ rw w.self-inside-is (
        refl,
        search rules,
        search rules,
        grind (arith, common_steps),
        grind (arith, common_steps),
      )
      | else-is_empty w ↦ grind (arith, common_steps)
    ] in
    let same = ready.2 in
    let absent : list_any (bytes_eq c.name-2.result) made.names.keys ≡ false =
    (λ j. list_any (bytes_eq (c.name-2.ensures.value j)) (same j))
    ∙ sym (ap (λ (n : List ℕ). list_any (bytes_eq n) names) c.name.ensures.value)
    ∙ sym c.contains.ensures ∙ c.if-contains.false in
    let put : c.insert.new.self.keys ≡ names ++ row.name ∷ [] = (rw c.unwrap.ensures at c.insert.ensures.keys)
    ∙ ap (λ b. if b then made.names.keys
    else made.names.keys ++ c.name-2.result ∷ []) absent
    ∙ (λ j. same j ++ c.name-2.ensures.value j ∷ []) in
    let pushed : c.push.new.self.items ≡ rows ++ row ∷ [] =
    (rw c.unwrap-2.ensures at c.push.ensures.items) ∙ ap (λ rs. rs ++ row ∷ []) ready.1 in
    let parts : AreEpochParts head c.insert.new.self.keys c.push.new.self.items = rw (put, pushed)
    (parts-more head names rows row c.self.invariant.0 (ap is_full_epoch c.self.view_is ∙ c.requires)
    c.name.ensures.sound (ap (λ (e : Epoch). has_satellite row.name e.rows) c.self.view_is ∙ new)) in
    let fewer = c.insert.ensures.spare in
    let many = ap length pushed in
    let more = c.push.ensures.capacity in
    grind (arith, common_steps, rows, row, ready, parts, fewer, many, more, length_push rows row)

pub returns-clause-new : goal.returns-clause-new
returns-clause-new c = known (goal.at.returns-clause-new c).After-contains ∙ c.if-contains.false
