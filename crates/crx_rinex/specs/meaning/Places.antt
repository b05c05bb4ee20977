-- Places among the lines of a file: RINEX 3.05, sections 5 and 6; files are read from the first line on.
use Rattle.std.specs.Prelude.{ℕ, ◌+◌, List, [], ◌∷◌, drop, Result, Ok, Err}
use Rattle.crx_base.specs.meaning.AsRead.{ReadLine, Content, Overlong}
use Rattle.crx_base.specs.declared.fault.Fault.{Fault}
use Rattle.crx_base.specs.declared.fault.Fault.TheVariants.{LineTooLong}

-- the result at a place: a thing and the count of its lines; a fault, and how many lines it is after the first
-- one; or neither yet, because more lines could make the thing
pub data Place (X : Type 0) : Type 0 where
  Done : X → ℕ → Place X
  Fails : ℕ → Fault → Place X
  NeedsMore : Place X

-- the result when `count` lines before it are counted too
abbrev pub after_lines : {X : Type 0} → ℕ → Place X → Place X
after_lines count (Done x more) = Done x (count + more)
after_lines count (Fails offset fault) = Fails (count + offset) fault
after_lines count NeedsMore = NeedsMore

-- the result at some lines, and then the next one, made from its thing and the lines after it
abbrev pub then_place : {X Y : Type 0} → Place X → List ReadLine → (X → List ReadLine → Place Y) → Place Y
then_place (Done x count) lines next = after_lines count (next x (drop count lines))
then_place (Fails offset fault) lines next = Fails offset fault
then_place NeedsMore lines next = NeedsMore

-- a thing of one line, or that line's fault
abbrev pub one_line : {X : Type 0} → Result X Fault → Place X
one_line (Ok x) = Done x 1
one_line (Err fault) = Fails 0 fault

-- the first of some lines, as it is read, if it exists and isn't too long
abbrev pub first_line : {X : Type 0} → List ReadLine → (List ℕ → Result X Fault) → Place X
first_line [] read = NeedsMore
first_line (Overlong ∷ lines) read = Fails 0 LineTooLong
first_line (Content line ∷ lines) read = one_line (read line)
