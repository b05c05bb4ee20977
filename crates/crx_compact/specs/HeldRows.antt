-- A satellite's line, read after the satellite's history.
use Rattle.std.specs.Prelude.{◌≡◌, ◌≤◌, ℕ, true, List, length, [], Option, None, Some}
use Rattle.std.specs.Prelude.{Result, Ok}
use Rattle.std.specs.List.{list_all}
use Rattle.crx_base.specs.declared.limits.TheConstants.{LINE_LIMIT, OBSERVATION_WIDTH, CLOCK_WIDTH}
use Rattle.crx_header.specs.meaning.ObservationTypes.{IsAllowedCount}
use Rattle.crx_header.specs.meaning.Satellites.{is_identifier}
use Rattle.crx_compact.specs.meaning.EpochText.{Satellite}
use Rattle.crx_text.specs.meaning.Texts.{is_kept}
use Rattle.crx_text.specs.Texts.{patched}
use Rattle.crx_base.specs.declared.fault.Fault.{Fault}
use Rattle.crx_compact.specs.meaning.Sequences.{and_then}
use Rattle.crx_compact.specs.meaning.Past.{Past}
use Rattle.crx_compact.specs.meaning.CompactPlaces.{ReadRow, satellite_line_read}
use Rattle.crx_compact.specs.ArcTails.{ArcTail}
use Rattle.crx_compact.specs.Tails.{RowTail, Tail}
use Rattle.crx_compact.specs.Steps.{flags_of_tail, flags_held, tail_named, cell_of_tail, raw_row_tail_after}
use Rattle.crx_compact.specs.Cells.{arcs_of_codes, value_at_place}
use Rattle.crx_compact.specs.ArcSteps.{value_of_code}

-- the indicators of a history: at most the bytes of a line, of allowed characters
pub record AreHeldFlags (flags : List ℕ) : Type 0 where
  pub within : length flags ≤ LINE_LIMIT
  pub kept : list_all is_kept flags ≡ true

-- a satellite whose line may be expected: its identifier is well-formed, and its number of types is allowed
pub record IsAwaitedSatellite (satellite : Satellite) : Type 0 where
  pub named : is_identifier satellite.name ≡ true
  pub counted : IsAllowedCount satellite.count

-- the arcs of a satellite's history; none if there is no history
abbrev pub arcs_of_tail : Option RowTail → List (Option ArcTail)
arcs_of_tail None = []
arcs_of_tail (Some kept) = kept.cells

-- the past of a satellite's line, by the satellite's arcs and indicators; the epoch line and the clock line don't matter
abbrev pub past_of_row : List (Option ArcTail) → List ℕ → Past
past_of_row arcs flags =
    record {
      text = λ line. line;
      clock = λ code. Ok None;
      value = λ name place code. value_at_place arcs place code;
      flags = λ name marks. patched flags marks;
    }

-- a satellite's row after the row that was read
abbrev pub held_from : List (Option ArcTail) → List ℕ → ReadRow → RowTail
held_from arcs flags read =
    record {
      name = read.raw.name;
      flags = flags_held (length read.raw.codes) (patched flags read.raw.marks);
      cells = arcs_of_codes arcs read.raw.codes;
    }

-- a satellite's row after its line, by its arcs and indicators, or the line's first fault
abbrev pub row_held_from : List (Option ArcTail) → List ℕ → Satellite → List ℕ → Result RowTail Fault
row_held_from arcs flags satellite line =
    and_then (satellite_line_read (past_of_row arcs flags) satellite line) (λ read. Ok (held_from arcs flags read))

-- a satellite's row after its line, by the satellite's history, or by none
abbrev pub row_held : Option RowTail → Satellite → List ℕ → Result RowTail Fault
row_held kept satellite line = row_held_from (arcs_of_tail kept) (flags_of_tail kept) satellite line

abbrev pub past_of_tail : Tail → Past
past_of_tail tail =
    record {
      text = λ line. patched tail.text line;
      clock = λ code. value_of_code CLOCK_WIDTH code tail.clock;
      value = λ name place code. value_of_code OBSERVATION_WIDTH code (cell_of_tail place (tail_named name tail));
      flags = λ name marks. patched (flags_of_tail (tail_named name tail)) marks;
    }

abbrev pub held_row : Tail → ReadRow → RowTail
held_row before read = raw_row_tail_after (tail_named read.raw.name before) read.raw

-- a satellite's row after its line, by the history of all satellites
abbrev pub row_after : Tail → Satellite → List ℕ → Result RowTail Fault
row_after tail satellite line =
    and_then (satellite_line_read (past_of_tail tail) satellite line) (λ read. Ok (held_row tail read))
