-- Our own writer's epochs are ones that any writer may write.
use Rattle.std.proofs.lemmas.List.Folds.{flat_map-map}
use Rattle.crx_compact.proofs.Vocabulary.{◌≡◌, refl, ℕ, ℤ, suc, List, [], ◌∷◌, Bool, true, false, Option, Some}
use Rattle.crx_compact.proofs.Vocabulary.{None, map, length, arith, ap, sym, ◌∙◌, ◌≤◌, drop}
use Rattle.crx_compact.proofs.Vocabulary.{list_all, AllByRecursion, option_map, rules}
use Rattle.crx_compact.proofs.Vocabulary.{if◌then◌else◌, slice_index_or, get_or_past}
use Rattle.crx_compact.proofs.Vocabulary.{Count, Row, Epoch, Marked, AreWhole}
use Rattle.crx_compact.proofs.Vocabulary.{IsWholeEpoch, epoch_text, newest_text, since_full, run_of}
use Rattle.crx_compact.proofs.Vocabulary.{arc_of, clock_arc, row_named, stretch, named, codes_of}
use Rattle.crx_compact.proofs.Vocabulary.{indicators_before, satellite_line, epoch_line, compact_epoch}
use Rattle.crx_compact.proofs.Vocabulary.{without_end_blanks, text_difference}
use Rattle.crx_compact.proofs.Vocabulary.{is_blank, common_steps}
use Rattle.crx_compact.proofs.Vocabulary.{code_at, code_text, code_of-code_text, WRITTEN_ORDER, each_place}
use Rattle.crx_compact.proofs.Vocabulary.{map-each_place, index-each_place, each_place-same, length-each_place}
use Rattle.crx_compact.proofs.Identifiers.{each-own}
use Rattle.crx_compact.proofs.anywriter.Texts.{code-characters}
use Rattle.crx_compact.proofs.wayback.Overlays.{patched-again}
use Rattle.crx_compact.proofs.wayback.Runs.{marked, rows_before, named-made, begins_full, begins_later}
use Rattle.crx_compact.proofs.wayback.Rows.{IsRowOf, run-begins, rows-of_run}
use Rattle.crx_compact.proofs.wayback.Rows.{run-printable, clock-printable, values-again}
use Rattle.crx_compact.proofs.wayback.Reading.{no-end_blanks}
use Rattle.crx_compact.proofs.SoundTexts.{difference-length, trimmed-again}
use Rattle.std.proofs.Common.{drop_of_length-le}
use Rattle.crx_compact.proofs.wayback.WritableEpochs.{unmarked, text-kept, text-begins}
use Rattle.crx_compact.specs.AnyWriter.{value_now}
use Rattle.crx_compact.specs.meaning.AnyWriter.{Arc, WrittenRow, WrittenEpoch, code_now, MayFollow}
use Rattle.crx_compact.specs.meaning.AnyWriter.{row_now, epoch_now, nothing_written, arc_in, flags_in}
use Rattle.crx_compact.specs.meaning.AnyWriter.{IsRowLine, AreRowLines, AreLinesAfter, AreEpochLines}

-- ---- arcs

abbrev pub arc_written : List ℤ → Option Arc
arc_written [] = None
arc_written (x ∷ xs) = Some (record { order = WRITTEN_ORDER; newest = x; older = xs })

code-written : (xs : List ℤ) → code_now (arc_written xs) ≡ code_at WRITTEN_ORDER xs
code-written xs = grind arith

follow : (o : Option ℤ) (os : List (Option ℤ))
    → MayFollow (arc_written (stretch os)) (arc_written (stretch (o ∷ os)))
follow o os = grind arith

value-written : (o : Option ℤ) (os : List (Option ℤ)) → value_now (arc_written (stretch (o ∷ os))) ≡ o
value-written o os = grind arith

-- ---- epochs

abbrev pub row_written : List Row → Row → WrittenRow
row_written run row =
    record {
      name = row.name;
      arcs = each_place (length row.values) (λ j. arc_written (arc_of j run));
      flags = row.flags;
    }

abbrev pub epoch_written : Marked → List Marked → WrittenEpoch
epoch_written m older =
    record {
      head = m.epoch.head;
      clock = arc_written (clock_arc (m ∷ older));
      rows = map (λ (r : Row). row_written (run_of r.name (m ∷ older)) r) m.epoch.rows;
    }

row-same : (r : Row) (rs : List Row) → row_now (row_written (r ∷ rs) r) ≡ r
row-same r rs = search (rules, map-each_place, each_place-same, value-written, values-again)

module _ (full : Bool) (e : Epoch) (older : List Marked) where
  rows-same : (rows : List Row) → AllByRecursion (λ (r : Row). row_named r.name e.rows ≡ Some r) rows
      → map row_now (map (λ (r : Row). row_written (run_of r.name (marked full e ∷ older)) r) rows) ≡ rows
  rows-same [] h = refl
  rows-same (r ∷ rs) h = search (rules, run-begins, row-same, rows-same rs h.1)

pub epoch-same : (types : List Count) (full : Bool) (e : Epoch) (older : List Marked) → IsWholeEpoch types e
    → epoch_now (epoch_written (marked full e) older) ≡ e
epoch-same types full e older h =
    let rows = rows-same full e older e.rows (each-own (λ (r : Row). r.name) e.rows h.sound.apart) in
    search (rules, value-written)

-- ---- a satellite in the previous epoch

abbrev base_of : Bool → List Marked → WrittenEpoch
base_of true older = nothing_written
base_of false [] = nothing_written
base_of false (m ∷ older) = epoch_written m older

abbrev found_in : WrittenEpoch → List ℕ → Option WrittenRow
found_in base name = named (λ (r : WrittenRow). r.name) name base.rows

found-written : (name : List ℕ) (m : Marked) (older : List Marked) → found_in (epoch_written m older) name
    ≡ option_map (row_written (run_of name (m ∷ older))) (row_named name m.epoch.rows)
found-written name m older = named-made (λ (r : Row). r.name) (λ (t : WrittenRow). t.name)
    (λ n r. row_written (run_of n (m ∷ older)) r) (λ n r. refl) name m.epoch.rows

arc-left : (full : Bool) (name : List ℕ) (older : List Marked) (j : ℕ)
    → arc_in (found_in (base_of full older) name) j ≡ arc_written (arc_of j (rows_before full name older))
arc-left full name older j = grind (arith, common_steps, found-written, index-each_place, get_or_past)

flags-left : (full : Bool) (name : List ℕ) (older : List Marked) (r : Row)
    → flags_in (found_in (base_of full older) name) ≡ indicators_before (r ∷ rows_before full name older)
flags-left full name older r = grind (arith, common_steps, found-written)

-- ---- a satellite's line

no-more : (n : ℕ) (old new : List ℕ) → length old ≤ n → length new ≤ n
    → list_all is_blank (drop n (text_difference old new)) ≡ true
no-more n old new h k = search (rules, drop_of_length-le, difference-length)

follows-at : (before : Option Arc) (n : ℕ) (a : ℕ → Option Arc) (j : ℕ) → MayFollow before (a j)
    → MayFollow before (slice_index_or (each_place n a) j None)
follows-at before (suc n) a (suc j) h = follows-at before n (λ i. a (suc i)) j h
follows-at before n a j h = search rules

row-line : (types : List Count) (found : Option WrittenRow) (r : Row) (rs : List Row)
    → AllByRecursion (IsRowOf types r.name) (r ∷ rs)
    → ((j : ℕ) → arc_in found j ≡ arc_written (arc_of j rs)) → flags_in found ≡ indicators_before (r ∷ rs)
    → IsRowLine found (row_written (r ∷ rs) r) (satellite_line (r ∷ rs) r)
row-line types found r rs h arcs flags =
    let n = length r.values in
    let marks = text_difference (indicators_before (r ∷ rs)) r.flags in
    let printable = run-printable types r.name (r ∷ rs) h in
    let many : length (each_place n (λ j. arc_written (arc_of j (r ∷ rs)))) ≡ n = length-each_place n _ in
    record {
      texts = map code_text (codes_of n (r ∷ rs));
      marks = marks;
      spelled = search (rules, map-each_place, each_place-same, code_of-code_text, code-written);
      written = grind (arith, trimmed-again, flat_map-map);
      marked = grind (arith, patched-again, unmarked);
      no_more = grind (arith, many, no-more);
      follows = λ j. rw (arcs j) (search (rules, follows-at, follow));
    }

module _ (types : List Count) (full : Bool) (e : Epoch) (older : List Marked)
    (h : AreWhole types (since_full (marked full e ∷ older))) where
  row-here : (r : Row) → row_named r.name e.rows ≡ Some r → IsRowLine (found_in (base_of full older) r.name)
      (row_written (run_of r.name (marked full e ∷ older)) r)
      (satellite_line (run_of r.name (marked full e ∷ older)) r)
  row-here r own = rw (run-begins full e older r own)
      (row-line types (found_in (base_of full older) r.name) r (rows_before full r.name older)
      (rows-of_run types full e older h r own) (arc-left full r.name older) (flags-left full r.name older r))

  rows-here : (rows : List Row) → AllByRecursion (λ (r : Row). row_named r.name e.rows ≡ Some r) rows
      → AreRowLines (base_of full older)
      (map (λ (r : Row). row_written (run_of r.name (marked full e ∷ older)) r) rows)
      (map (λ (r : Row). satellite_line (run_of r.name (marked full e ∷ older)) r) rows)
  rows-here [] own = tt
  rows-here (r ∷ rs) own = (row-here r own.0, rows-here rs own.1)

-- ---- an epoch's lines

old-same : (types : List Count) (full : Bool) (e : Epoch) (older : List Marked)
    → AreWhole types (since_full (marked full e ∷ older))
    → epoch_text (epoch_now (base_of full older)) ≡ (if full then [] else newest_text older)
old-same types false e (m ∷ older) h = ap epoch_text (epoch-same types m.in_full m.epoch older h.1.0)
old-same types full e older h = refl

lines-after : (types : List Count) (full : Bool) (e : Epoch) (older : List Marked)
    → AreWhole types (since_full (marked full e ∷ older))
    → AreLinesAfter (base_of full older) (epoch_written (marked full e) older)
    (epoch_line (marked full e) older)
    (code_text (code_at WRITTEN_ORDER (clock_arc (marked full e ∷ older))))
    (map (λ (r : Row). satellite_line (run_of r.name (marked full e ∷ older)) r) e.rows)
lines-after types full e older h =
    let printable = clock-printable types (since_full (marked full e ∷ older)) h in
    record {
      marked = rw (old-same types full e older h)
          (patched-again _ (epoch_text e) (unmarked (epoch_text e) (text-kept types e h.0))
          ∙ ap (λ q. without_end_blanks (epoch_text q)) (sym (epoch-same types full e older h.0)));
      spelled = grind (arith, no-end_blanks, code-characters, printable, code_of-code_text, code-written);
      follows = grind (arith, follow);
      satellites =
          rows-here types full e older h e.rows (each-own (λ (r : Row). r.name) e.rows h.0.sound.apart);
    }

-- a full epoch, after any other or none; and an epoch that refers to the previous one
pub full-lines : (types : List Count) (e : Epoch) (older : List Marked) (before : Option WrittenEpoch)
    → AreWhole types (since_full (marked true e ∷ older))
    → AreEpochLines before (epoch_written (marked true e) older) (compact_epoch (marked true e ∷ older))
full-lines types e older before h =
    (nothing_written, search (rules, begins_full, text-begins), lines-after types true e older h)

pub later-lines : (types : List Count) (e : Epoch) (m : Marked) (older : List Marked)
    → AreWhole types (since_full (marked false e ∷ m ∷ older))
    → AreEpochLines (Some (epoch_written m older)) (epoch_written (marked false e) (m ∷ older))
    (compact_epoch (marked false e ∷ m ∷ older))
later-lines types e m older h =
    let lines = lines-after types false e (m ∷ older) h in
    (epoch_written m older, search (rules, begins_later, text-begins), lines)
