-- A writer that is set after its buffer was made: its contents.
use Rattle.std.specs.Prelude.{ℕ, List, Option, None, Some}
use Rattle.crx_program.specs.declared.late_writer.LateWriter.{LateWriter}

-- the bytes that a writer has taken, if they are known; nothing is known before the writer is set
abbrev pub contents_where : {W : Type 0} → (W → Option (List ℕ)) → Option W → Option (List ℕ)
contents_where contents None = None
contents_where contents (Some writer) = contents writer

abbrev pub late_contents : {W : Type 0} → (W → Option (List ℕ)) → LateWriter W → Option (List ℕ)
late_contents contents late = contents_where contents late.writer
