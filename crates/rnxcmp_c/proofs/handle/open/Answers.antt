use Rattle.std.proofs.Common.{rules}
use Rattle.rnxcmp_c.proofs.HandleLemmas.{fresh-stands}
use Rattle.rnxcmp_c.proofs.handle.open.Goals as goal

pub returns-in-Ok-try_box-clause-opened : goal.returns-in-Ok-try_box-clause-opened
returns-in-Ok-try_box-clause-opened c =
    search (
      rules,
      c.put_in.ensures.opened,
      c.put_in.ensures.reader,
      c.in-Ok.ensures,
      c.in-Ok-try_box.ensures.value,
      fresh-stands,
    )
