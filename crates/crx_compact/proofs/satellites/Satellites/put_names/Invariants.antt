use Rattle.crx_compact.proofs.Vocabulary.{◌≡◌, ◌+◌, ◌*◌, ◌++◌, take, RowTail}
use Rattle.std.specs.List.{flat_map}
use Rattle.crx_compact.proofs.satellites.Satellites.put_names.Given as goal

-- the identifiers up to an index are put
abbrev pub invariant-loop-index : goal.invariant-loop-index
invariant-loop-index l =
    take (41 + 3 * l.index) l.text
    ≡ take 41 l.initial.text ++ flat_map (λ (row : RowTail). row.name) (take l.index l.self.rows)
