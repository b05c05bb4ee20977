use Rattle.crx_filter.proofs.Vocabulary.{◌≡◌, ℕ, zero, suc, List, [], ◌∷◌, refl, drop}
use Rattle.std.{proofs.lemmas.List.drop-drop, specs.List.slice_get}
use Rattle.crx_filter.specs.{Totals.found_held, meaning.Standard.report_lines}
use Rattle.crx_filter.proofs.checking.CheckingDirection.next_line.Goals as goal
use Rattle.std.proofs.Common.{arith}
use Rattle.std.proofs.lemmas.Grind.{common_steps}

-- the first line after `count` others
first-behind : (lines : List (List ℕ)) (count : ℕ) → slice_get (drop count lines) 0 ≡ slice_get lines count
first-behind [] zero = refl
first-behind [] (suc count) = refl
first-behind (line ∷ lines) zero = refl
first-behind (line ∷ lines) (suc count) = first-behind lines count

pub returns-then-print_report_line : goal.returns-then-print_report_line
returns-then-print_report_line c =
    let report = report_lines (found_held c.self.inside.noted.totals c.self.inside.reader.types
    c.self.inside.noted.not_standard) in
    let count = c.self.inside.handed_out in
    rw (← c.self.view_is) (
      grind (arith, common_steps, report, count, drop-drop 1 count report),
      grind (arith, common_steps, report, count, first-behind report count),
    )
