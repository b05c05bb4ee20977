use Rattle.crx_compact.proofs.{Vocabulary.{err_from_is_err_and, is_ok}, GoodResults.by_ok}
use Rattle.std.proofs.Common.{rules, ap, sym, subst, arith}
use Rattle.std.proofs.lemmas.List.{length-append}
use Rattle.indexmap.proofs.CallerLemmas.{insert_entry-new}
use Rattle.crx_compact.specs.{Entries.{IsFound}, Placing.SatelliteTail}
use Rattle.crx_compact.proofs.placing.{LookUps.{found-added, none-there, not-found}, Orders.more-ordered}
use Rattle.crx_compact.proofs.satellites.find_or_add.Goals as goal
use Rattle.std.proofs.lemmas.Grind.{common_steps}

pub returns-clause-found : goal.returns-clause-found
returns-clause-found c =
    subst (λ found. IsFound c.args.name found c.args.map.now.entries c.insert.new.self.entries)
    (sym c.len-count.ensures.len)
    (found-added c.args.name c.new.result c.args.map.now.entries c.insert.new.self.entries
    (search (rules, insert_entry-new, none-there, c.in_default.ensures.unknown, by_ok, is_ok))
    (ap (λ (s : SatelliteTail). s.room) c.new.ensures.empty))

pub returns-clause-order : goal.returns-clause-order
returns-clause-order c = grind (arith, common_steps, none-there, length-append, more-ordered)

-- it wasn't known, and nothing changed
pub returns-in_err-reserve-clause-unknown : goal.returns-in_err-reserve-clause-unknown
returns-in_err-reserve-clause-unknown c = grind (arith, common_steps, err_from_is_err_and, not-found)

pub returns-in_err-reserve-2-clause-unknown : goal.returns-in_err-reserve-2-clause-unknown
returns-in_err-reserve-2-clause-unknown c = grind (arith, common_steps, err_from_is_err_and, not-found)

pub returns-in_err-reserve_entries-clause-unknown : goal.returns-in_err-reserve_entries-clause-unknown
returns-in_err-reserve_entries-clause-unknown c = grind (arith, common_steps, err_from_is_err_and, not-found)
