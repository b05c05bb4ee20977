-- The output and the messages that a filter defines, for the first lines of an input and for all of them.
use Rattle.std.specs.Prelude.{List, Option, Some, None, [], ◌∷◌, ◌++◌}
pub use Rattle.crx_runs.specs.meaning.Results.{lines_text}
pub use Rattle.crx_runs.specs.meaning.Results.{Course}
use Rattle.crx_base.specs.meaning.Lines.{InputLine}
use Rattle.crx_base.specs.declared.fault.At.{At}

-- the output and warnings that are due after some lines, before the end of the input is known, and after all
-- lines. `memory_after`: whether memory may be refused at a line that follows some lines, and if so after
-- which of the line's warnings
pub record Filter : Type 0 where
  pub so_far : List InputLine → Course
  pub whole : List InputLine → Course
  pub memory_after : List InputLine → InputLine → Option (List At)

-- some lines and one more
abbrev pub with_next : List InputLine → InputLine → List InputLine
with_next lines line = lines ++ line ∷ []

-- the next line after some lines, or the end of the input if there is none: the lines including it; the
-- output and warnings due after it; and after which of its warnings memory may be refused at it
abbrev pub lines_with : List InputLine → Option InputLine → List InputLine
lines_with lines (Some line) = with_next lines line
lines_with lines None = lines

abbrev pub course_with : Filter → List InputLine → Option InputLine → Course
course_with filter lines (Some line) = filter.so_far (with_next lines line)
course_with filter lines None = filter.whole lines

abbrev pub memory_with : Filter → List InputLine → Option InputLine → Option (List At)
memory_with filter lines (Some line) = filter.memory_after lines line
memory_with filter lines None = None
