use Rattle.std.proofs.Common.{◌≡◌, map, drop}
use Rattle.crx_command.specs.{Names.renaming_of, meaning.Names.{first_renamed, output_name}}
use Rattle.crx_command.proofs.names.output_name.Given as goal

abbrev pub invariant-loop-ending : goal.invariant-loop-ending
invariant-loop-ending l = output_name l.fn.tool l.name
    ≡ first_renamed (map renaming_of (drop l.ending-index l.endings)) l.name
