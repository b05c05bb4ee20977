-- The lines after a text that is expanded without a fault are read after its units, and after its warning, if there is
-- one. They are read alike after another text that leaves the same types in force.
use Rattle.std.proofs.lemmas.Grind.{common_steps}
use Rattle.std.proofs.Common.{arith}
use Rattle.crx_filter.proofs.Vocabulary.{ℕ, ◌≡◌, ◌+◌, ◌⊎◌, inl, inr, Bool, true, false, cond, List, [], ◌∷◌, ◌++◌}
use Rattle.crx_filter.proofs.Vocabulary.{map, length, drop, Option, Some, None, refl, ap, sym, ◌∙◌, subst}
use Rattle.crx_filter.proofs.Vocabulary.{append-nil, ◌&&◌, ◌==◌, and_parts, drop-append-le, lines_of}
use Rattle.crx_filter.proofs.Vocabulary.{pieces_of, lines_text, ReadLine, Content, Overlong, as_read, At, Fault}
use Rattle.crx_filter.proofs.Vocabulary.{begins_epoch, is_event_line, Place, Done, Fails, NeedsMore, one_line}
use Rattle.crx_filter.proofs.Vocabulary.{Remains, ReadEpoch, Choices, Item, header_has_ended}
use Rattle.crx_filter.proofs.Vocabulary.{records_announced, records_left, types_in_force, Reading, WholeReading}
use Rattle.crx_filter.proofs.Vocabulary.{Stop, AtFault, AtLines, Looking, is_skipped, reading_from, fault_at_end}
use Rattle.crx_filter.proofs.Vocabulary.{ended_with, ended_reading}
use Rattle.crx_filter.proofs.Vocabulary.{compact_place, first_lines, whole_compact, expanded, IsBetweenUnits}
use Rattle.crx_filter.proofs.Vocabulary.{starts_anew, expanded_lines, continued_reading}
use Rattle.crx_filter.proofs.CasesOfTests.{by_bool}
use Rattle.crx_filter.proofs.following.LinesAtStops.{IsStopped, one_line-decided}
use Rattle.crx_filter.proofs.reading.Restarts.{AreReadAlike, depends-on_types}
use Rattle.crx_filter.proofs.reading.CompactPrefixes.{whole-at}
use Rattle.crx_filter.proofs.reading.ForwardCompact.{compact-forward, steady-first_lines}
use Rattle.crx_filter.proofs.reading.Resuming.{looked-here, resumed}
use Rattle.crx_filter.proofs.reading.Stopping.{reading-stopped}
use Rattle.crx_filter.proofs.reading.AcceptedUnits.{allowed, of-ended}
use Rattle.crx_filter.proofs.damage.BlockReading.{place-between}
use Rattle.crx_filter.proofs.damage.DamagedText.{each-ended, lines-append as pieces-append, text-append}
use Rattle.crx_filter.proofs.damage.ResumedEpochs.{with_warnings, warned-between, warned-types, GoesOnAt}
use Rattle.crx_filter.proofs.damage.ResumedEpochs.{open-goes_on}
use Rattle.crx_filter.proofs.damage.SavedText.{lines-warned}
use Rattle.crx_laws.specs.Blocks.{read_of_text, CanGoOn, HaveSameTypes, kind_of, GoOnWith, StandAlone}

-- ---- the place at which a reading with a good end has stopped

-- an end without a fault is good, or a warning
end-passed : (skip : Bool) (items : List (Item ReadEpoch)) (number : ℕ) (o : Option Fault)
    → (ended_with skip items number o).fault ≡ None
    → (o ≡ None) ⊎ ((fault : Fault) × (o ≡ Some fault) × (is_skipped skip items fault ≡ true))
end-passed skip items number None e = inl refl
end-passed skip items number (Some fault) e = by_bool (is_skipped skip items fault)
    (λ on. inr (fault, refl, on))
    (λ off.
    let never : ◌≡◌ {A = Option At} (Some (record { line = number; fault = fault })) None =
    rw (off, ended_with) at e in
    absurd (cc))

end-good : (items : List (Item ReadEpoch)) (rest : List ReadLine)
    → fault_at_end items rest ≡ None → IsBetweenUnits items × (rest ≡ [])
end-good [] rest e = absurd (cc)
end-good (item ∷ before) (line ∷ rest) e = absurd (cc)
end-good (item ∷ before) [] e = grind (arith, common_steps)

-- it is between two units, or an epoch is open and faults are skipped
lines-passed : (skip : Bool) (items : List (Item ReadEpoch)) (number : ℕ) (rest : List ReadLine)
    → (ended_with skip items number (fault_at_end items rest)).fault ≡ None
    → IsBetweenUnits items × ((rest ≡ []) ⊎ (skip ≡ true))
lines-passed skip items number rest e = either (end-passed skip items number (fault_at_end items rest) e)
  where
    either : (fault_at_end items rest ≡ None) ⊎ ((fault : Fault) × (fault_at_end items rest ≡ Some fault)
        × (is_skipped skip items fault ≡ true)) → IsBetweenUnits items × ((rest ≡ []) ⊎ (skip ≡ true))
    either (inl good) = let h = end-good items rest good in (h.0, inl h.1)
    either (inr (fault, is, on)) =
        let facts = allowed skip items fault on in (
          record { header = facts.0; none = facts.1 },
          inr (and_parts skip (header_has_ended items && ((records_left items == 0) && _)) on).0,
        )

-- ---- reading continues

pub record GoesOn (skip : Bool) (items : List (Item ReadEpoch)) (lines : List ReadLine)
    (r : Reading ReadEpoch) : Type 0 where
  pub between : IsBetweenUnits items
  pub warnings : List At
  pub number : ℕ
  pub same : r ≡ reading_from compact_place skip (with_warnings warnings items) number lines

wanted-no_event : (items : List (Item ReadEpoch)) (line : List ℕ) (rest : List ReadLine)
    → IsBetweenUnits items → compact_place items (Content line ∷ rest) ≡ NeedsMore → is_event_line line ≡
    false
wanted-no_event items line rest between e =
    grind (arith, common_steps, one_line-decided, one_line, place-between)

open-passed : (items : List (Item ReadEpoch)) (number : ℕ) (rest : List ReadLine) (line : List ℕ)
    (tail : List ReadLine) → IsBetweenUnits items → compact_place items rest ≡ NeedsMore
    → begins_epoch line ≡ true → GoesOn true items (Content line ∷ tail)
    (reading_from compact_place true items number (rest ++ Content line ∷ tail))
open-passed items number [] line tail between e begins =
    record { between = between; warnings = []; number = number; same = refl }
open-passed items number (Overlong ∷ rest) line tail between e begins =
    let never = sym (place-between items (Overlong ∷ rest) between) ∙ e in absurd (cc)
open-passed items number (Content first ∷ rest) line tail between e begins =
    let g : GoesOnAt 1 items (Content line ∷ tail)
    (reading_from compact_place true items number (Content first ∷ (rest ++ Content line ∷ tail))) =
    open-goes_on items number first rest line tail between
    (wanted-no_event items first rest between e) e begins in
    record { between = between; warnings = g.warnings; number = g.number; same = g.same }

pub goes-on : (skip : Bool) (items : List (Item ReadEpoch)) (stop : Stop) (next : ℕ) (line : List ℕ)
    (tail : List ReadLine) → IsStopped compact_place items stop next
    → (ended_reading skip (record { items = items; stop = stop })).fault ≡ None → begins_epoch line ≡ true
    → GoesOn skip items (Content line ∷ tail)
    (continued_reading compact_place skip (record { items = items; stop = stop }) (Content line ∷ tail))
goes-on skip items (AtFault at) next line tail stopped e begins = absurd (cc)
goes-on skip items (Looking number) next line tail stopped e begins = record {
  between = record { header = stopped.1; none = stopped.2 };
  warnings = [];
  number = number;
  same = looked-here (reading_from compact_place skip items) items number (Content line) tail begins;
}
goes-on skip items (AtLines number rest) next line tail stopped e begins =
    let passed = lines-passed skip items (number + length rest) rest e in
    either passed.0 passed.1
  where
    lines : List ReadLine
    lines = Content line ∷ tail

    either : IsBetweenUnits items → (rest ≡ []) ⊎ (skip ≡ true) → GoesOn skip items lines
        (continued_reading compact_place skip (record { items = items; stop = AtLines number rest }) lines)
    either between (inl none) = record {
      between = between;
      warnings = [];
      number = number;
      same = ap (λ ls. reading_from compact_place skip items number (ls ++ lines)) none;
    }
    either between (inr on) =
        subst (λ (s : Bool). GoesOn s items lines (reading_from compact_place s items number (rest ++ lines)))
        (sym on) (open-passed items number rest line tail between stopped.0 begins)

-- ---- a whole text, and more

-- how a text is read, and how it is read with more lines after it
pub record IsTextRead (text : List ℕ) (choices : Choices) : Type 0 where
  pub items : List (Item ReadEpoch)
  pub stop : Stop
  pub next : ℕ
  pub stopped : IsStopped compact_place items stop next
  pub whole : read_of_text text choices ≡ ended_reading choices.skip (record { items = items; stop = stop })
  pub further : (more : List ℕ) → read_of_text (text ++ more) choices
      ≡ ended_reading choices.skip (continued_reading compact_place choices.skip
      (record { items = items; stop = stop }) (map as_read (lines_of more)))

text-read : (text : List ℕ) (choices : Choices) → CanGoOn text choices → IsTextRead text choices
text-read text choices h = by_first (first_lines lines) refl
  where
    lines : List ReadLine
    lines = map as_read (lines_of text)

    by_first : (p : Place (List (List ℕ))) → first_lines lines ≡ p → IsTextRead text choices
    by_first (Fails offset fault) e =
        let never : ◌≡◌ {A = Option At} (Some (record { line = offset + 1; fault = fault })) None =
        rw (e, whole_compact) at h.good in absurd (cc)
    by_first NeedsMore e = let never = rw (e, whole_compact) at h.good in absurd (cc)
    by_first (Done two count) e =
        let r : Reading ReadEpoch =
        reading_from compact_place choices.skip [] (count + 1) (drop count lines) in
        record {
          items = r.items;
          stop = r.stop;
          next = (count + 1) + length (drop count lines);
          stopped = reading-stopped compact_place compact-forward choices.skip [] (count + 1) _
              (drop count lines) refl;
          whole = whole-at choices.skip lines two count e;
          further = λ more.
              let M : List ReadLine = map as_read (lines_of more) in
              let stays : Remains (length lines) (Done two count) (first_lines (lines ++ M)) =
              subst (λ q. Remains (length lines) q (first_lines (lines ++ M))) e
              (steady-first_lines lines M) in
              ap (whole_compact choices.skip) (pieces-append text more (each-ended (pieces_of text) h.lines))
              ∙ whole-at choices.skip (lines ++ M) two count stays.1
              ∙ ap (λ ls. ended_reading choices.skip (reading_from compact_place choices.skip []
              (count + 1) ls)) (drop-append-le count lines M stays.0)
              ∙ ap (ended_reading choices.skip) (resumed compact_place compact-forward choices.skip []
              (count + 1) (drop count lines) M);
        }

-- ---- the law

-- the end of the input writes nothing
pub ended-lines : (skip : Bool) (items : List (Item ReadEpoch)) (stop : Stop)
    → expanded_lines (ended_reading skip (record { items = items; stop = stop })).items ≡ expanded_lines items
ended-lines skip items stop =
    of-ended (λ is. expanded_lines is ≡ expanded_lines items) skip items stop refl (λ at on. refl)

-- a text, and the lines after it
pub record IsFurtherRead (text more : List ℕ) (choices : Choices) (lines : List ReadLine) : Type 0 where
  pub items : List (Item ReadEpoch)
  pub number : ℕ
  pub between : IsBetweenUnits items
  pub types : types_in_force items ≡ types_in_force (read_of_text text choices).items
  pub before : (expanded text choices).output ≡ lines_text (expanded_lines items)
  pub after : read_of_text (text ++ more) choices
      ≡ ended_reading choices.skip (reading_from compact_place choices.skip items number lines)

further-read : (text more : List ℕ) (choices : Choices) (line : List ℕ) (tail : List ReadLine)
    → CanGoOn text choices → map as_read (lines_of more) ≡ Content line ∷ tail → begins_epoch line ≡ true
    → IsFurtherRead text more choices (Content line ∷ tail)
further-read text more choices line tail h is begins =
    let t : IsTextRead text choices = text-read text choices h in
    let g : GoesOn choices.skip t.items (Content line ∷ tail) (continued_reading compact_place choices.skip
    (record { items = t.items; stop = t.stop }) (Content line ∷ tail)) =
    goes-on choices.skip t.items t.stop t.next line tail t.stopped
    (sym (ap (λ (w : WholeReading ReadEpoch). w.fault) t.whole) ∙ h.good) begins in
    record {
      items = with_warnings g.warnings t.items;
      number = g.number;
      between = warned-between g.warnings t.items g.between;
      types = warned-types g.warnings t.items ∙ of-ended (λ is. types_in_force t.items ≡ types_in_force is)
          choices.skip t.items t.stop refl (λ at on. refl)
          ∙ sym (ap (λ (w : WholeReading ReadEpoch). types_in_force w.items) t.whole);
      before = ap lines_text (ap (λ (w : WholeReading ReadEpoch). expanded_lines w.items) t.whole
          ∙ ended-lines choices.skip t.items t.stop ∙ sym (lines-warned g.warnings t.items));
      after = t.further more
          ∙ ap (λ ls. ended_reading choices.skip (continued_reading compact_place choices.skip
          (record { items = t.items; stop = t.stop }) ls)) is ∙ ap (ended_reading choices.skip) g.same;
    }

nothing-more : (text more : List ℕ) (choices : Choices) → CanGoOn text choices → map as_read (lines_of more) ≡
    [] → read_of_text (text ++ more) choices ≡ read_of_text text choices
nothing-more text more choices h none = grind (arith, common_steps, pieces-append, each-ended, append-nil)

by-lines : (more one other : List ℕ) (choices : Choices) (lines : List ReadLine) → CanGoOn one choices
    → CanGoOn other choices → HaveSameTypes one other choices → map as_read (lines_of more) ≡ lines
    → starts_anew 0 lines ≡ true → GoOnWith more one other choices
by-lines more one other choices [] h k types is anew =
    let first : read_of_text (one ++ more) choices ≡ read_of_text one choices =
    nothing-more one more choices h is in
    let second : read_of_text (other ++ more) choices ≡ read_of_text other choices =
    nothing-more other more choices k is in
    record {
      lines = [];
      first = ap (λ (w : WholeReading ReadEpoch). lines_text (expanded_lines w.items)) first
          ∙ sym (append-nil (expanded one choices).output);
      second = ap (λ (w : WholeReading ReadEpoch). lines_text (expanded_lines w.items)) second
          ∙ sym (append-nil (expanded other choices).output);
      ended = ap (λ (w : WholeReading ReadEpoch). kind_of w.fault) first ∙ ap kind_of (h.good ∙ sym k.good)
          ∙ sym (ap (λ (w : WholeReading ReadEpoch). kind_of w.fault) second);
    }
by-lines more one other choices (Overlong ∷ tail) h k types is anew = absurd (cc)
by-lines more one other choices (Content line ∷ tail) h k types is anew =
    let begins : begins_epoch line ≡ true = (and_parts
    (begins_epoch line) (cond (is_event_line line) (starts_anew
    (records_announced line) tail) true) anew).0 in
    let lines : List ReadLine = Content line ∷ tail in
    let a : IsFurtherRead one more choices lines = further-read one more choices line tail h is begins in
    let b : IsFurtherRead other more choices lines = further-read other more choices line tail k is begins in
    let r : Reading ReadEpoch = reading_from compact_place choices.skip a.items a.number lines in
    let s : Reading ReadEpoch = reading_from compact_place choices.skip b.items b.number lines in
    let same : AreReadAlike ⊥ choices.skip a.items b.items r s = depends-on_types ⊥ choices.skip
    a.items b.items a.number b.number lines a.between b.between (a.types ∙ types ∙ sym b.types) anew
    (λ never. absurd never) in
    record {
      lines = same.lines;
      first = ap (λ (w : WholeReading ReadEpoch). lines_text (expanded_lines w.items)) a.after
          ∙ ap lines_text (ended-lines choices.skip r.items r.stop ∙ same.first)
          ∙ text-append (expanded_lines a.items) (same.lines)
          ∙ ap (λ t. t ++ lines_text (same.lines)) (sym a.before);
      second = ap (λ (w : WholeReading ReadEpoch). lines_text (expanded_lines w.items)) b.after
          ∙ ap lines_text (ended-lines choices.skip s.items s.stop ∙ same.second)
          ∙ text-append (expanded_lines b.items) (same.lines)
          ∙ ap (λ t. t ++ lines_text (same.lines)) (sym b.before);
      ended = ap (λ (w : WholeReading ReadEpoch). kind_of w.fault) a.after ∙ same.ended
          ∙ sym (ap (λ (w : WholeReading ReadEpoch). kind_of w.fault) b.after);
    }

pub stand-alone : (more one other : List ℕ) (choices : Choices) → StandAlone more one other choices
stand-alone more one other choices h k types anew =
    by-lines more one other choices (map as_read (lines_of more)) h k types refl anew
