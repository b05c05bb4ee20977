-- The lines of an epoch, whoever wrote them, are read as that epoch.
use Rattle.crx_compact.proofs.Vocabulary.{◌≡◌, refl, ℕ, List, [], ◌∷◌, ◌++◌, Bool, true, false}
use Rattle.crx_compact.proofs.Vocabulary.{Option, Some, Ok, map, length, arith, ap, sym, ◌∙◌, ◌+◌}
use Rattle.crx_compact.proofs.Vocabulary.{list_all, AllByRecursion, length-map, unwrap_or, if◌then◌else◌}
use Rattle.crx_compact.proofs.Vocabulary.{Count, IsWholeEpoch, epoch_text, at-without_end_blanks}
use Rattle.crx_compact.proofs.Vocabulary.{without_end_blanks, patched, is_printable}
use Rattle.crx_compact.proofs.Vocabulary.{ReadLine, Content, Done, Place, RawRow, RawEpoch, ReadRow}
use Rattle.crx_compact.proofs.Vocabulary.{rows_read, epoch_at, epoch_after, clock_line_read}
use Rattle.crx_compact.proofs.Vocabulary.{Satellite, satellites_of_line, begins_epoch}
use Rattle.crx_compact.proofs.Vocabulary.{past_of_tail, Tail, no_tail, tail_left, tail_for_line}
use Rattle.crx_compact.proofs.Vocabulary.{raw_row_tail_after, raw_tail_after, tail_named, CLOCK_WIDTH, Epoch}
use Rattle.crx_compact.proofs.SoundTexts.{patched-trimmed, trimmed-again}
use Rattle.crx_compact.proofs.reading.RawTailing.{place-by_tail, left-by_tail}
use Rattle.crx_compact.proofs.soundness.Soundness.{reads-soundly}
use Rattle.crx_compact.proofs.wayback.WritableEpochs.{IsTypedRow, typed-rows, text-kept}
use Rattle.crx_compact.proofs.wayback.Reading.{text-other, text-columns, text-good}
use Rattle.crx_compact.proofs.Vocabulary.{append-nil, map-map, rules}
use Rattle.crx_compact.specs.OpenEpochs.{held_after, placed_as}
use Rattle.crx_compact.specs.meaning.AnyWriter.{WrittenRow, WrittenEpoch, code_now, row_now, epoch_now}
use Rattle.crx_compact.specs.meaning.AnyWriter.{goes_on_from, nothing_written, AreRowLines, AreLinesAfter}
use Rattle.crx_compact.specs.AnyWriter.{value_now, row_left, epoch_left, EpochReads, IsLeft, ReadsAnyEpoch}
use Rattle.crx_compact.proofs.anywriter.{Arcs.{Goes, goes}, Rows.{any-row, marks-printable}}
use Rattle.crx_compact.proofs.anywriter.Rows.{at-same, all-same, CanFollow, row-follows}
use Rattle.crx_compact.proofs.anywriter.Texts.{spelled-characters, code-printable}
use Rattle.crx_compact.proofs.Vocabulary.{is_event_line, is_event_flag, is_observation_flag, character_at}
use Rattle.crx_compact.proofs.Vocabulary.{character_of, by_position, at, common_steps}
use Rattle.crx_compact.proofs.Vocabulary.{and_parts}
use Rattle.crx_compact.proofs.{Characters.{if_some, at-by_position}}
use Rattle.crx_compact.proofs.{wayback.WritableEpochs.{text-head, head-counted}}

-- ---- the satellites' lines

abbrev satellites_written : List WrittenRow → List Satellite
satellites_written rows = map (λ (r : WrittenRow). record { name = r.name; count = length r.arcs }) rows

record RowsRead (base : WrittenEpoch) (rows : List WrittenRow) (lines : List (List ℕ)) : Type 0 where
  reads : List ReadRow
  place : (rest : List ReadLine) → rows_read (past_of_tail (epoch_left base)) (satellites_written rows)
      (map Content lines ++ rest) ≡ Done reads (length rows)
  shown : map (λ (r : ReadRow). r.row) reads ≡ map row_now rows
  leaves : map (λ (r : RawRow). raw_row_tail_after (tail_named r.name (epoch_left base)) r)
      (map (λ (r : ReadRow). r.raw) reads)
      ≡ map row_left rows
  follow : AllByRecursion CanFollow lines

rows-read : (types : List Count) (base : WrittenEpoch) (rows : List WrittenRow) (lines : List (List ℕ))
    → AllByRecursion (IsTypedRow types) (map row_now rows) → AreRowLines base rows lines
    → RowsRead base rows lines
rows-read types base [] [] h k = record
    { reads = []; place = λ rest. refl; shown = refl; leaves = refl; follow = tt }
rows-read types base (r ∷ rs) (line ∷ lines) h k =
    let first = any-row base r line h.0.0 k.0 in
    let others = rows-read types base rs lines h.1 k.1 in
    let count : 1 + (length rs + 0) ≡ length (r ∷ rs) = omega arith in
    record {
      reads = first.read ∷ others.reads;
      place = λ rest. rw (first.reads, others.place rest)
          (ap {B = Place (List ReadRow)} (λ n. Done (first.read ∷ others.reads) n) count);
      shown = cc (first.row, others.shown);
      leaves = cc (first.leaves, others.leaves);
      follow = (row-follows base r line h.0.0 k.0, others.follow);
    }
rows-read types base rows lines h k = absurd k

-- ---- the epoch line

-- the flag of an epoch's text is that of an observation epoch, and so is its mark in a line from the empty text
flag-mark : (mark c : ℕ) → character_of 32 mark ≡ c → is_observation_flag c ≡ true
    → is_event_flag mark ≡ false
flag-mark mark c e h = grind (arith, h)

full-no_event : (types : List Count) (e : Epoch) (line : List ℕ) → IsWholeEpoch types e
    → patched [] line ≡ without_end_blanks (epoch_text e) → is_event_flag (character_at line 32) ≡ false
full-no_event types e line h made =
    let head = text-head types e h 31 (omega arith) in
    let same = at-same (by_position character_of [] line) (epoch_text e) made 31 in
    let flag : is_observation_flag (at e.head 31) ≡ true =
    grind (arith, common_steps, and_parts, if_some, head-counted types e h) in
    flag-mark (at line 31) (at e.head 31) (cc (at-by_position character_of refl [] line 31)) flag

-- the tail that a line is read after is the tail of the epoch that it refers to
pub tail-for : (before : Option WrittenEpoch) (tail : Option Tail) (line : List ℕ) (base : WrittenEpoch)
    → IsLeft before tail → goes_on_from before line ≡ Some base
    → tail_for_line tail line ≡ Some (epoch_left base)
tail-for before tail line base left found = grind (arith, left base)

-- ---- the epoch

module _ (types : List Count) (base now : WrittenEpoch) (line clock : List ℕ) (lines : List (List ℕ))
    (whole : IsWholeEpoch types (epoch_now now)) (h : AreLinesAfter base now line clock lines) where
  text-made : patched (without_end_blanks (epoch_text (epoch_now base))) line
      ≡ without_end_blanks (epoch_text (epoch_now now))
  text-made = patched-trimmed (epoch_text (epoch_now base)) line ∙ h.marked

  pub printable : list_all is_printable line ≡ true
  printable = search (rules, marks-printable, text-kept)

  satellites : satellites_of_line types (past_of_tail (epoch_left base)) line
      ≡ Ok (satellites_written now.rows)
  satellites = rw (printable, text-made)
      (text-good types (epoch_now now) whole ∙ ap Ok (simp (map-map, length-map)))

  clock-other : begins_epoch clock ≡ false
  clock-other = ap (λ c. begins_epoch (c ∷ [])) (sym (at-without_end_blanks clock 0))
      ∙ text-other (without_end_blanks clock)
      (spelled-characters (without_end_blanks clock) (code_now now.clock) h.spelled)

  clock-printable : list_all is_printable clock ≡ true
  clock-printable = search (rules, all-same, trimmed-again, code-printable, spelled-characters)

  clock-goes : Goes CLOCK_WIDTH base.clock now.clock
  clock-goes = goes CLOCK_WIDTH base.clock now.clock h.follows whole.sound.head_sound.ranged

  clock-good : clock_line_read (past_of_tail (epoch_left base)) clock
      ≡ Ok (record { code = code_now now.clock; value = value_now now.clock })
  clock-good = rw (clock-other, h.spelled, clock-goes.value) refl

  pub no-event : (before : Option WrittenEpoch) → goes_on_from before line ≡ Some base
      → is_event_line line ≡ false
  no-event before found = pick (begins_epoch line) refl found
    where
      pick : (b : Bool) → begins_epoch line ≡ b → (if b then Some nothing_written else before) ≡ Some base
          → is_event_line line ≡ false
      pick false e f = rw e refl
      pick true e f = rw (e, full-no_event types (epoch_now now) line whole (search rules)) refl

  rows-good : RowsRead base now.rows lines
  rows-good = rows-read types base now.rows lines (typed-rows types (epoch_now now) whole) h.satellites

  -- none of its other lines begins with >, and the line is no event's
  pub others-follow : AllByRecursion CanFollow (clock ∷ lines)
  others-follow = ((clock-printable, clock-other), rows-good.follow)

  abbrev raw : RawEpoch
  raw =
      record { line = line; clock = code_now now.clock; rows = map (λ (r : ReadRow). r.raw) rows-good.reads }

  epoch-reads : (tail : Option Tail) (rest : List ReadLine) → tail_for_line tail line ≡ Some (epoch_left base)
      → epoch_after types tail (map Content (line ∷ clock ∷ lines) ++ rest)
      ≡ Done (record { raw = raw; epoch = epoch_now now }) (2 + length now.rows)
  epoch-reads tail rest e =
      let count : 1 + (1 + (length now.rows + 0)) ≡ 2 + length now.rows = omega arith in
      rw (
        e,
        satellites,
        clock-good,
        rows-good.place rest,
        rows-good.shown,
        text-made,
        text-columns types (epoch_now now) whole,
        count,
      ) refl

  tail-next : raw_tail_after (epoch_left base) raw ≡ epoch_left now
  tail-next = cc (text-made, clock-goes.leaves, rows-good.leaves)

  -- read after a tail, line by line or at once
  pub held-reads : (tail : Option Tail) → tail_for_line tail line ≡ Some (epoch_left base)
      → placed_as (held_after tail) (epoch_after types tail (map Content (line ∷ clock ∷ lines)))
      ≡ Done (record { epoch = epoch_now now; tail = epoch_left now }) (2 + length now.rows)
  held-reads tail e =
      let here = epoch-reads tail [] e in
      let next = tail-next in
      grind (arith, append-nil)

  pub by_parts : (before : Option WrittenEpoch) (raws : List RawEpoch) → IsLeft before (tail_left raws)
      → goes_on_from before line ≡ Some base → EpochReads types raws now (line ∷ clock ∷ lines)
  by_parts before raws left found =
      let e = tail-for before (tail_left raws) line base left found in
      let here : (rest : List ReadLine) → epoch_at types raws (map Content (line ∷ clock ∷ lines) ++ rest)
      ≡ Done (record { raw = raw; epoch = epoch_now now }) (2 + length now.rows) =
      λ rest. place-by_tail types raws (map Content (line ∷ clock ∷ lines) ++ rest)
      ∙ epoch-reads (tail_left raws) rest e in
      let single = (reads-soundly types raws (map Content (line ∷ clock ∷ lines) ++ []) _ _
      (here [])).single in
      record {
        raw = raw;
        reads = here;
        leaves = left-by_tail raw raws single
            ∙ ap {B = Option Tail} (λ t. Some (raw_tail_after (unwrap_or t no_tail) raw)) e
            ∙ ap {B = Option Tail} Some tail-next;
      }

pub any-epoch : ReadsAnyEpoch
any-epoch types before raws now (line ∷ clock ∷ lines) left whole h = grind (arith, by_parts)
any-epoch types before raws now lines left whole h = absurd h
