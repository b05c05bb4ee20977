use Rattle.std.{proofs.Common.{◌≡◌, ◌≤◌, ◌-◌, eqb, not, length, take, drop}, specs.List.list_all}
use Rattle.crx_text.specs.Texts.{is_allowed}
use Rattle.crx_text.proofs.lanes.all_allowed.Given as goal

-- no lane is set if all characters passed so far are allowed
abbrev pub invariant-loop-at : goal.invariant-loop-at
invariant-loop-at g l =
    (l.at ≤ length l.text)
    × (list_all (λ lane. eqb lane 0) l.others
    ≡ list_all (is_allowed (not (eqb g.row.IS_TEXT 0))) (take l.at l.text))

abbrev pub decreases-loop-at : goal.decreases-loop-at
decreases-loop-at g l = length l.text - l.at

-- the remaining characters decide
abbrev pub invariant-loop-character : goal.invariant-loop-character
invariant-loop-character g l =
    list_all (is_allowed (not (eqb g.row.IS_TEXT 0))) (drop l.character-index l.text)
    ≡ list_all (is_allowed (not (eqb g.row.IS_TEXT 0))) l.text
