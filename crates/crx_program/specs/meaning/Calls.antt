-- The calls that open files.
use Rattle.std.specs.Prelude.{ℕ, List, [], ◌∷◌, ◌++◌, true}
use Rattle.std.specs.Fs.{new_options, with_read}
use Rattle.std.specs.declared.fs.options.OpenOptions.{OpenOptions}

-- a call that opens a file or fails to, with its name and its options
pub record Call : Type 0 where
  pub name : List ℕ
  pub how : OpenOptions

-- the options for opening a file for reading
abbrev pub options_to_read : OpenOptions
options_to_read = with_read new_options true

-- some calls and one more
abbrev pub with_call : List Call → List ℕ → OpenOptions → List Call
with_call calls name how = calls ++ (record { name = name; how = how } ∷ [])
