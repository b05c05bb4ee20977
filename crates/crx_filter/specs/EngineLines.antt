-- The lines that an engine of either direction has taken.
use Rattle.std.specs.Prelude.{◌≡◌, true, List, [], ◌∷◌, map}
use Rattle.crx_base.specs.meaning.Lines.{InputLine}
use Rattle.crx_base.specs.meaning.AsRead.{ReadLine, as_read}
use Rattle.crx_runs.specs.Engines.{Awaited}
use Rattle.crx_filter.specs.LineByLine.{Direction, RunState, Notice, state_next}

-- an engine in this state has taken these lines, by the state after some lines; or, if a line is to be fed again, it
-- has taken the lines before that one and returned the warning that this line gives first
abbrev pub HasTaken : {U O K : Type 0}
    → Direction U O K → (List ReadLine → RunState O K) → RunState O K → List InputLine → List Awaited → Type 0
HasTaken direction state_after_lines now lines [] = now ≡ state_after_lines (map as_read lines)
HasTaken direction state_after_lines now lines (a ∷ []) = record { answer = Notice a.notice true; handed_out = []; next = now }
    ≡ state_next direction (state_after_lines (map as_read lines)) (as_read a.line)
HasTaken direction state_after_lines now lines (a ∷ b ∷ others) = ⊥
