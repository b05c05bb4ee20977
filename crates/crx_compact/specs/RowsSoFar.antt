-- The satellites of an epoch text, and the clock, in a history.
use Rattle.std.specs.Prelude.{◌≡◌, ℕ, List, [], length, true, Some, Ok}
use Rattle.crx_text.specs.meaning.Columns.{columns}
use Rattle.crx_base.specs.declared.limits.TheConstants.{HEAD_WIDTH}
use Rattle.crx_compact.specs.meaning.EpochText.{Satellite, names_in, satellites_named}
use Rattle.crx_header.specs.meaning.EpochColumns.{epoch_count}
use Rattle.crx_header.specs.meaning.ObservationTypes.{Count}
use Rattle.crx_compact.specs.Tails.{Tail}
use Rattle.crx_compact.specs.HeldRows.{past_of_tail}
use Rattle.crx_header.specs.meaning.Satellites.{are_apart}
use Rattle.crx_compact.specs.meaning.Cells.{ReadCell}
use Rattle.crx_compact.specs.meaning.CompactPlaces.{clock_line_read}
use Rattle.crx_compact.specs.ArcSteps.{arc_of_code, shown_value}

-- the satellites of an epoch text: the number that its columns announce, no two with one identifier
pub record AreAnnounced (text : List ℕ) (satellites : List Satellite) : Type 0 where
  pub counted : epoch_count (columns text 1 HEAD_WIDTH) ≡ Some (length satellites)
  pub apart : are_apart (λ (s : Satellite). s.name) satellites ≡ true

-- the satellites are those that the epoch text names, by the counts of types of some header
pub record NamesSatellites (text : List ℕ) (satellites : List Satellite) : Type 0 where
  pub earlier : List Count
  pub named : satellites_named earlier [] (names_in text (length satellites)) ≡ Ok satellites

-- the clock line was read after a tail: the new tail has the clock's arc after it, which shows the clock's value
pub record HasClock (before : Tail) (line : List ℕ) (old new : Tail) : Type 0 where
  pub cell : ReadCell
  pub read : clock_line_read (past_of_tail before) line ≡ Ok cell
  pub left : new ≡ record old { clock = arc_of_code cell.code before.clock }
  pub shown : shown_value new.clock ≡ cell.value
