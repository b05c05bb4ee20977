-- Compact text of some epochs, whoever wrote it (Hatanaka's Compact RINEX 3.0, data arcs, epoch line, clock line and satellite lines). It
-- is defined by the contents of the lines, not by how they are read. Arcs have their newest value first.
use Rattle.std.specs.Prelude.{◌≡◌, ◌⊎◌, ⊤, ℕ, ◌*◌, ℤ, true, List, [], ◌∷◌, ◌++◌, map, length, drop, Option, Some, None}
use Rattle.std.specs.Prelude.{if◌then◌else◌, slice_index_or, flat_map}
use Rattle.std.specs.List.{list_all}
use Rattle.std.specs.Option.{option_map}
use Rattle.crx_text.specs.meaning.Columns.{is_blank, without_end_blanks}
use Rattle.crx_text.specs.meaning.Codes.{code_of}
use Rattle.crx_text.specs.Texts.{patched}
use Rattle.crx_text.specs.declared.code.Code.{Code}
use Rattle.crx_text.specs.declared.code.Code.TheVariants.{Missing}
use Rattle.crx_rinex.specs.meaning.Observations.{Row, Epoch}
use Rattle.crx_header.specs.meaning.EpochColumns.{begins_epoch}
use Rattle.crx_compact.specs.meaning.Differences.{code_at}
use Rattle.crx_compact.specs.meaning.Compaction.{epoch_text}
use Rattle.crx_compact.specs.meaning.Sequences.{named}

-- ---- arcs

--- an arc so far: its order, its newest value, and its earlier values back to the start
pub record Arc : Type 0 where
  pub order : ℕ
  pub newest : ℤ
  pub older : List ℤ

--- the coded value of the newest value; a missing value has no arc, and its text is empty
abbrev pub code_now : Option Arc → Code
code_now None = Missing
code_now (Some arc) = code_at arc.order (arc.newest ∷ arc.older)

--- the arc without its newest value; none if that value started it
abbrev pub arc_before : Arc → Option Arc
arc_before arc = elim (arc.older) [
  | [] ↦ None
  | value ∷ values ↦ Some (record { order = arc.order; newest = value; older = values })
]

--- a missing value ends an arc; a value starts a new arc, of any order, or continues the arc before
abbrev pub MayFollow : Option Arc → Option Arc → Type 0
MayFollow before None = ⊤
MayFollow before (Some now) = (arc_before now ≡ None) ⊎ (arc_before now ≡ before)

-- ---- epochs

--- a satellite in an epoch: its identifier, the arc of each type, and its indicators
pub record WrittenRow : Type 0 where
  pub name : List ℕ
  pub arcs : List (Option Arc)
  pub flags : List ℕ

--- an epoch: columns 1 to 41 of its line, the clock's arc, and its satellites
pub record WrittenEpoch : Type 0 where
  pub head : List ℕ
  pub clock : Option Arc
  pub rows : List WrittenRow

--- the row and the epoch that are written: each value is the newest of its arc
abbrev pub row_now : WrittenRow → Row
row_now row =
    record { name = row.name; values = map (λ (arc : Option Arc). option_map (λ (a : Arc). a.newest) arc) row.arcs; flags = row.flags }

abbrev pub epoch_now : WrittenEpoch → Epoch
epoch_now written = record {
  head = written.head;
  clock = option_map (λ (a : Arc). a.newest) written.clock;
  rows = map row_now written.rows;
}

--- the empty epoch, which a full epoch refers to: an empty text, no arcs and no satellites
abbrev pub nothing_written : WrittenEpoch
nothing_written = record { head = []; clock = None; rows = [] }

--- the epoch that an epoch line refers to: the empty one if the line begins with >, whichever epochs precede it; otherwise the previous
--- epoch, or none
abbrev pub goes_on_from : Option WrittenEpoch → List ℕ → Option WrittenEpoch
goes_on_from before line = if begins_epoch line then Some nothing_written else before

-- ---- lines

--- a satellite's arc at a place, counted from 0, and its indicators in the previous epoch; none if that epoch doesn't hold it
abbrev pub arc_in : Option WrittenRow → ℕ → Option Arc
arc_in None place = None
arc_in (Some row) place = slice_index_or row.arcs place None

abbrev pub flags_in : Option WrittenRow → List ℕ
flags_in None = []
flags_in (Some row) = row.flags

--- a satellite's line: a text of each coded value, however it is spelled, each followed by one blank; then any marks that change the
--- indicators before into the new ones, with only blanks after these; blanks at the line's end are optional
pub record IsRowLine (before : Option WrittenRow) (now : WrittenRow) (line : List ℕ) : Type 0 where
  pub texts : List (List ℕ)
  pub marks : List ℕ
  pub spelled : map code_of texts ≡ map (λ (arc : Option Arc). Some (code_now arc)) now.arcs
  pub written : without_end_blanks line ≡ without_end_blanks (flat_map (λ (text : List ℕ). text ++ 32 ∷ []) texts ++ marks)
  pub marked : patched (flags_in before) marks ≡ without_end_blanks now.flags
  pub no_more : list_all is_blank (drop (2 * length now.arcs) marks) ≡ true
  pub follows : (place : ℕ) → MayFollow (arc_in before place) (arc_in (Some now) place)

--- one line for each satellite
abbrev pub AreRowLines : WrittenEpoch → List WrittenRow → List (List ℕ) → Type 0
AreRowLines before [] [] = ⊤
AreRowLines before [] (line ∷ lines) = ⊥
AreRowLines before (row ∷ rows) [] = ⊥
AreRowLines before (row ∷ rows) (line ∷ lines) =
    IsRowLine (named (λ (r : WrittenRow). r.name) row.name before.rows) row line × AreRowLines before rows lines

--- the lines of an epoch after another: any marks that change the text before into the new text; the clock's coded value, however it is
--- spelled, and optional blanks; and the satellites' lines
pub record AreLinesAfter (before now : WrittenEpoch) (line clock : List ℕ) (rows : List (List ℕ)) : Type 0 where
  pub marked : patched (epoch_text (epoch_now before)) line ≡ without_end_blanks (epoch_text (epoch_now now))
  pub spelled : code_of (without_end_blanks clock) ≡ Some (code_now now.clock)
  pub follows : MayFollow before.clock now.clock
  pub satellites : AreRowLines before now.rows rows

--- the lines of epoch `now` after the previous epoch, if there is one: `now` may always be full, and has to be if there is none
abbrev pub AreEpochLines : Option WrittenEpoch → WrittenEpoch → List (List ℕ) → Type 0
AreEpochLines before now (line ∷ clock ∷ rows) =
    (base : WrittenEpoch) × (goes_on_from before line ≡ Some base) × AreLinesAfter base now line clock rows
AreEpochLines before now lines = ⊥
