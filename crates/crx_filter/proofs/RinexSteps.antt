-- The steps of a reader of RINEX at the lines of an epoch, and at a line where one may begin.
use Rattle.crx_filter.proofs.Vocabulary
use Vocabulary.{common_steps, ◌≡◌, ◌⊎◌, inl, inr, ℕ, ◌+◌, ◌<◌, ◌∷◌, ◌++◌, [], true, false, List, length, Option}
use Vocabulary.{Some, Result, Ok, Err, ap, subst, ◌∙◌, arith, ⊤, Fault, Row, Epoch as ObservationEpoch, HeadLine}
use Vocabulary.{EventHead, EpochHead, ObservationHead, head_of, begins_epoch, is_event_line, OpenEpoch}
use Vocabulary.{beginning_of, opened, has_satellite, Count, row_of, EventLine, Written, made_of_epoch_step}
use Vocabulary.{made_of_beginning, records_announced, Made, Completes, is_open_stage, made_at, CompletedEpoch}
use Vocabulary.{MovesReader, RinexReader, Stage, Open, character_at, epoch_head, event_head, records_in}
use Rattle.crx_filter.specs.{RinexReaders.BeginsEpoch, RinexStages.is_rinex_stage}
use Rattle.crx_filter.specs.declared.stage.Stage.TheVariants.{Between, Looking}
use Rattle.crx_rinex.specs.EpochPlaces.{whole_or_going}

-- ---- the state of a reader then

abbrev pub open_by_rows : List Count → ObservationHead → List Row → OpenEpoch
open_by_rows types head rows = record { types = types; head = head; rows = rows }

-- the parts of a reader describe the epoch that was begun last
pub record HasParts (after : RinexReader)
    (types : List Count) (head : ObservationHead) (rows : List Row) : Type 0 where
  pub types_then : after.types ≡ types
  pub held : after.head ≡ Some head
  pub rows_then : after.rows.rows ≡ rows

-- the same if rows are still expected
part-taken : (made : Made ObservationEpoch OpenEpoch) (before after : RinexReader) (head : ObservationHead)
    (rows : List Row) → made ≡ made_of_epoch_step (whole_or_going (open_by_rows before.types head rows))
    → length rows < head.count → HasParts after before.types head rows → after.stage ≡ Open → MovesReader made
    before after
part-taken made before after head rows is part parts stage = grind arith

-- ---- a satellite line

pub record IsInEpoch (r : RinexReader) (head : ObservationHead) : Type 0 where
  pub stage : r.stage ≡ Open
  pub held : r.head ≡ Some head
  pub counted : r.count ≡ length r.rows.rows
  pub wants : r.count < head.count

pub in-epoch : (r : RinexReader) → is_open_stage r.stage ≡ true → (head : ObservationHead) × IsInEpoch r head
in-epoch r is = grind arith

pub in-its-epoch : (r : RinexReader) (head : ObservationHead)
    → is_open_stage r.stage ≡ true → r.head ≡ Some head → IsInEpoch r head
in-its-epoch r head is held = grind arith

-- if `count` rows aren't all rows of an epoch with this line, it stays open
pub stays-open : (stage : Stage) (held : Option ObservationHead) (head : ObservationHead) (count : ℕ)
    (rows : List Row) → stage ≡ Open → held ≡ Some head → count ≡ length rows → count < head.count
    → is_rinex_stage stage held count rows ≡ true
stays-open stage held head count rows is is_head counted more = grind arith

-- a row of an open epoch was read
module _ (before after : RinexReader) (head : ObservationHead) (line : List ℕ) (kept : Written)
    (is : is_open_stage before.stage ≡ true) (held : before.head ≡ Some head)
    (read : row_of before.types line ≡ Ok before.row) (other : begins_epoch line ≡ false)
    (new : has_satellite before.row.name before.rows.rows ≡ false) where
  -- it is the last one of its epoch
  pub last-row-taken : before.count + 1 ≡ head.count
      → HasParts after before.types head (before.rows.rows ++ before.row ∷ []) → after.stage ≡ Between
      → CompletedEpoch (made_at before line kept) before after
  last-row-taken full parts stage = grind (arith, common_steps, in-its-epoch)

  -- or others follow
  pub row-taken : before.count + 1 < head.count
      → HasParts after before.types head (before.rows.rows ++ before.row ∷ []) → after.stage ≡ Open
      → MovesReader (made_at before line kept) before after
  row-taken part parts stage = grind (arith, in-its-epoch, part-taken)

-- ---- the beginning of an epoch or an event

-- the meaning of a line's head for the line
abbrev OfHead : List ℕ → Result HeadLine Fault → Type 0
OfHead line (Ok (EventHead flag count)) = records_announced line ≡ count
OfHead line (Ok (EpochHead head count clock)) = (is_event_line line ≡ false) × (begins_epoch line ≡ true)
OfHead line (Err fault) = ⊤

of-event : (line : List ℕ) (o : Option ℕ) → records_in line ≡ o
    → OfHead line (event_head (character_at line 32) o)
of-event line v1 is = grind (arith)

of-epoch : (line : List ℕ) (o : Option ℕ)
    → is_event_line line ≡ false → begins_epoch line ≡ true → OfHead line (epoch_head line o)
of-epoch line v1 other begins = grind (arith)

of-head : (line : List ℕ) → OfHead line (head_of line)
of-head line = grind (arith, common_steps, of-event, of-epoch)

pub event-counts : (line : List ℕ) (flag count : ℕ)
    → head_of line ≡ Ok (EventHead flag count) → records_announced line ≡ count
event-counts line flag count is = subst (OfHead line) is (of-head line)

-- a reader may take such a line
abbrev pub Begins : RinexReader → List ℕ → Type 0
Begins r line = (r.stage ≡ Between) ⊎ ((r.stage ≡ Looking) × (begins_epoch line ≡ true))

pub begin-made : (before : RinexReader) (line : List ℕ) (kept : Written)
    → Begins before line → made_at before line kept ≡ made_of_beginning before.types (beginning_of line)
begin-made before line kept v1 = grind (arith)

pub event-made : (types : List Count) (line : List ℕ) (flag count : ℕ) → head_of line
    ≡ Ok (EventHead flag count) → made_of_beginning types (beginning_of line) ≡ Completes (EventLine line)
event-made types line flag count read = cc (read)

begun-made : (types : List Count) (line : List ℕ) (head : ObservationHead)
    → head_of line ≡ Ok (EpochHead head.head head.count head.clock)
    → made_of_beginning types (beginning_of line) ≡ made_of_epoch_step (whole_or_going (opened types head))
begun-made types line head read = cc (read)

-- the outcome of the line that begins an epoch
module _ (before after : RinexReader) (line : List ℕ) (kept : Written) (head : ObservationHead)
    (begins : Begins before line) (read : head_of line ≡ Ok (EpochHead head.head head.count head.clock)) where
  -- the epoch is whole with it
  pub begun-whole : head.count ≡ 0 → HasParts after before.types head [] → after.stage ≡ Between
      → BeginsEpoch (made_at before line kept) before after
  begun-whole none parts stage = grind (arith, begun-made, inr, begin-made, of-head)

  -- or rows follow
  pub begun-part : 0 < head.count → HasParts after before.types head [] → after.stage ≡ Open
      → BeginsEpoch (made_at before line kept) before after
  begun-part some parts stage = (
    parts.rows_then,
    inl (
      ap is_open_stage stage,
      part-taken (made_at before line kept) before after head []
          (begin-made before line kept begins ∙ begun-made before.types line head read) some parts stage,
    ),
  )
