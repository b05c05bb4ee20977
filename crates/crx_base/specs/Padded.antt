-- A line with a blank and more bytes after it.
use Rattle.std.specs.Prelude.{ℕ, List, take}
use Rattle.crx_base.specs.declared.padded.Padded.{Padded}

-- the line itself
abbrev pub line_in : Padded → List ℕ
line_in padded = take padded.len padded.bytes.now
