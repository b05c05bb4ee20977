-- The definitions that examples open, to compute.
pub use Rattle.crx_runs.specs.meaning.Messages.{warning_text}
pub use Rattle.crx_text.specs.meaning.{Codes.coded_number, Numbers.{number_of, number_text, size_of}}
pub use Rattle.std.specs.Fmt.{digits}
