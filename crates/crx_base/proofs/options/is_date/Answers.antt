use Rattle.std.proofs.Common.{◌≡◌, arith, rules, tests}
use Rattle.std.specs.List.{list_all}
use Rattle.std.proofs.lemmas.Iterator.{YieldsList-from_slice}
use Rattle.std.proofs.lemmas.Iterator.Search.{all_from_yields_List}
use Rattle.std.proofs.lemmas.Bool.Decides.{nat_tests}
use Rattle.crx_base.specs.meaning.Lines.{is_printable}
use Rattle.crx_base.proofs.options.is_date.Goals as goal

pub returns-then-date-le-DATE_LIMIT : goal.returns-then-date-le-DATE_LIMIT
returns-then-date-le-DATE_LIMIT c =
    let all : c.all.result ≡ list_all is_printable c.args.date.now =
    all_from_yields_List is_printable _ _ c.all.result c.all.ensures.ran
    (YieldsList-from_slice c.args.date.now cc) (λ x b q k. search (rules, tests)) in
    grind (arith, nat_tests)
