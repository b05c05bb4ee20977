-- A text whose expansion ends with status 0 is compact text of a whole file.
use Rattle.crx_filter.proofs
use proofs.Vocabulary.{ℕ, ◌≡◌, List, [], append-nil, map, reverse, Option, None, arith}
use proofs.Vocabulary.{ap, sym, ◌∙◌, subst, common_steps}
use proofs.Vocabulary.{lines_of, as_read, At}
use proofs.{Vocabulary.warnings_in, wayback.FirstTwoLines.{two-back, two-whole}}
use proofs.Vocabulary.{whole_compact, expanded, Choices, FilterResult}
use Rattle.crx_filter.proofs.wayback.{ExpandedStandard.{read-settled}, LinesCutAgain.input-stands}
use Rattle.crx_filter.specs.{meaning.CompactText.{IsCompactText}, CompactText.AcceptsExactly}
use Rattle.crx_runs.specs.meaning.Results.{status_after}
use Rattle.std.proofs.{lemmas.List.{reverse-reverse}}
use proofs.anywriter.{AnyText.any-text, TextCompactedHere.units-in_place, ReadingsOfText.{EndsBack, reading-back}}

-- ---- status 0

none-warned : (ws : List At) (o : Option At) → status_after ws o ≡ 0 → (ws ≡ []) × (o ≡ None)
none-warned ws o h3 = grind (arith, common_steps)

pub only-text : (text : List ℕ) (choices : Choices) → FilterResult.status (expanded text choices) ≡ 0
    → IsCompactText text
only-text text choices e =
    let skip = choices.skip in
    let lines = map as_read (lines_of text) in
    let w = whole_compact skip lines in
    let good = none-warned (reverse (warnings_in w.items)) w.fault e in
    let none : warnings_in w.items ≡ [] = sym (reverse-reverse (warnings_in w.items)) ∙ ap reverse good.0 in
    let two = two-back skip lines good.1 in
    let ends : EndsBack two.rest w = subst (EndsBack two.rest) (sym (two-whole skip lines two))
    (reading-back skip 3 two.rest) in
    let back = ends good.1 none in
    let settled = read-settled skip lines (input-stands text) good.1 in
    grind (arith, common_steps, units-in_place, append-nil)

pub accepts-exactly : AcceptsExactly
accepts-exactly text choices = grind (arith, common_steps, only-text text choices, any-text text choices)
