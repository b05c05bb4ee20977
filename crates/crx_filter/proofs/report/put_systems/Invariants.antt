use Rattle.crx_filter.proofs.Vocabulary.{◌≡◌, ◌+◌, ◌≤◌, ◌*◌, ◌++◌, length, take, flat_map}
use Rattle.crx_filter.specs.meaning.Standard.{count_text}
use Rattle.std.specs.Prelude.{codes}
use Rattle.crx_filter.proofs.report.put_systems.Given as goal

-- the counts so far are appended
abbrev pub invariant-loop-index : goal.invariant-loop-index
invariant-loop-index l = (l.text ≡ codes "systems" ++ flat_map count_text (take l.index l.types))
    × (length l.text ≤ 7 + 30 * l.index) × (l.index-end ≡ length l.types) × (l.index-end ≤ 7)
