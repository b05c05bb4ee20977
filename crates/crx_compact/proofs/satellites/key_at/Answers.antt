use Rattle.std.proofs.Common.{◌∙◌, List, ℕ, [], Some, ap, sym, get_or, option_map}
use Rattle.std.proofs.lemmas.Option.{get_or_from_slice_get, slice_get-map}
use Rattle.crx_compact.proofs.RowByRow.{is-there}
use Rattle.crx_compact.specs.Entries.{Entry}
use Rattle.crx_compact.proofs.satellites.key_at.Goals as goal

pub returns-clause-there : goal.returns-clause-there
returns-clause-there c =
    let entry = is-there c.args.map.now.entries c.args.index c.requires.within in
    let names = c.as_slice.ensures ∙ c.keys.ensures.rest in
    let name = ap (λ (names : List (List ℕ)). get_or names c.args.index []) names ∙ get_or_from_slice_get _
    c.args.index entry.item.0 [] (slice_get-map (λ (e : Entry). e.0) c.args.map.now.entries c.args.index ∙ ap
    (option_map _) entry.there) in
    (entry.item.1, entry.there ∙ ap (λ (name : List ℕ). Some (name, entry.item.1)) (sym name))
