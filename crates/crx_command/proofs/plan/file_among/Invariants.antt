use Rattle.std.proofs.Common.{◌≡◌, drop, find, map}
use Rattle.crx_command.specs.meaning.Planning.{is_file}
use Rattle.crx_command.proofs.plan.file_among.Given as goal

abbrev pub invariant-loop-name : goal.invariant-loop-name
invariant-loop-name l = find is_file (map (λ name. name.now) l.names)
    ≡ find is_file (map (λ name. name.now) (drop l.name-index l.names))
