use Rattle.std.proofs.Common.{◌≡◌, ◌≤◌, ◌+◌, sym, subst, inr, length, arith, rules, Some}
use Rattle.std.proofs.lemmas.Grind.{common_steps}
use Rattle.crx_header.proofs.Counts.{types_of-push}
use Rattle.crx_header.proofs.Counts.{count_in_allowed}
use Rattle.crx_header.proofs.Counts.{AreCounts-with_count}
use Rattle.crx_header.{proofs.Counts.AreByLetter-with_count, specs.ObservationTypes.{with_line, with_count}}
use Rattle.crx_header.specs.{ObservationTypes.{AreCounts, AreByLetter}, declared.types.TheConstants.LETTERS}
use Rattle.crx_header.specs.{declared.types.TheConstants.SYSTEMS}
use Rattle.crx_header.specs.meaning.ObservationTypes.{count_in}
use Rattle.indexmap.specs.IndexMap.{spare}
use Rattle.crx_header.proofs.types.Types.accept_line.Goals as goal

pub returns-then-not-is_types-clause-declared : goal.returns-then-not-is_types-clause-declared
returns-then-not-is_types-clause-declared = grind (arith, common_steps, types_of-push)

pub returns-clause-ok : goal.returns-clause-ok
returns-clause-ok c = grind arith

pub returns-clause-declared : goal.returns-clause-declared
returns-clause-declared c = grind (arith, common_steps, returns-clause-ok, with_line, types_of-push)

pub invariant_of-self-2 : goal.invariant_of-self-2
invariant_of-self-2 c =
    let entries = c.self.inside.counts.entries in
    let letter = c.character-letter.result in
    let count = c.in-Some.count in
    let said : count_in c.args.line.now ≡ Some (letter, count) = search rules in
    let allowed = count_in_allowed c.args.line.now letter count said in
    let long : length c.self.inside.by_letter ≡ LETTERS = search in
    let with : c.put.new.counts.entries ≡ with_count entries letter count = search rules in
    let room : SYSTEMS ≤ length c.put.new.counts.entries + spare c.put.new.counts = search rules in (
      subst AreCounts (sym with)
          (AreCounts-with_count entries letter count c.self.invariant.0 allowed.0 allowed.1),
      subst (AreByLetter _) (sym with) (AreByLetter-with_count c.self.inside.by_letter entries letter count
          c.self.invariant.1 (omega (arith, long))),
      inr room,
    )
