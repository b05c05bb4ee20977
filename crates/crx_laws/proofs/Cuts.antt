-- An input that is cut off at the end of a line.
use Rattle.crx_filter.proofs.Vocabulary
use Vocabulary.{ℕ, ◌≡◌, ◌≤◌, ◌+◌, Bool, true, false, List, [], ◌∷◌, ◌++◌, map, length, refl, arith, ap, ◌∙◌, inl}
use Vocabulary.{inr}
use Vocabulary.{common_steps, length-append, length-map, map-append, Option, None, Some, ReadLine, Place, FileUnit}
use Vocabulary.{Item, Accepted, Warned, Fault, as_read, InputLine, lines_of, rinex_place, WholeReading}
use Vocabulary.{whole_reading}
use Vocabulary.{reading_from, ended_reading, ended_with, AtLines, AtFault, Looking, Stop, by_bool, nat_lt}
use Vocabulary.{header_has_ended, records_left, IsReadForward, Reading, fault_at_end, whole_compact, compact_place}
use Vocabulary.{compacted, expanded, Choices, sym, continued_reading}
use Rattle.crx_filter.proofs.accounts.LineFates.{told, FateAt}
use Rattle.crx_filter.proofs.reading.{Forward.rinex-forward, ForwardCompact.compact-forward, Resuming.resumed}
use Rattle.crx_filter.proofs.reading.StepInvariants.{IsKept, within-kept, looked-kept}
use Rattle.crx_filter.proofs.wayback.FirstTwoLines.{FirstBack, two-back, two-whole}
use Rattle.crx_filter.specs.OwnStretches.{read_of_file}
use Rattle.crx_laws.specs.{Blocks.read_of_text, Cuts.{IsNoticed, IsOfAnEnd}}

module _ {E : Type 0} (place : List (Item E) → List ReadLine → Place (FileUnit E)) (h : IsReadForward place)
    (start : ℕ) where
  -- a reading continues from these items
  abbrev From : List (Item E) → List (Item E) → List ReadLine → Type 0
  From begun items lines = (later : List (Item E)) × (items ≡ later ++ begun)

  on-from : (begun : List (Item E)) → IsKept place false (From begun)
  on-from begun = record {
    here = λ items lines unit count e b. (Accepted unit ∷ b.0, ap (λ its. Accepted unit ∷ its) b.1);
    passed = λ items lines at n on b. (Warned at ∷ b.0, ap (λ its. Warned at ∷ its) b.1);
  }

  goes-on : (items : List (Item E)) (number : ℕ) (lines : List ReadLine)
      → From items (reading_from place false items number lines).items []
  goes-on items number lines =
      (within-kept place false (From items) (on-from items) (length lines + 1) items number lines
      ([], refl)).1

  -- without `-s`, a good end leaves the items
  same-items : (items : List (Item E)) (stop : Stop)
      → WholeReading.fault (ended_reading false (record { items = items; stop = stop })) ≡ None
      → WholeReading.items (ended_reading false (record { items = items; stop = stop })) ≡ items
  same-items items (AtFault at) f = absurd (cc f)
  same-items items (Looking number) f = refl
  same-items items (AtLines number lines) f = by_fault (fault_at_end items lines) f
    where
      by_fault : (o : Option Fault) → WholeReading.fault (ended_with false items (number + length lines) o)
          ≡ None
          → WholeReading.items (ended_with false items (number + length lines) o) ≡ items
      by_fault None g = refl
      by_fault (Some fault) g = absurd (cc g)

  end-fault : (items : List (Item E)) (lines : List ReadLine) (fault : Fault)
      → fault_at_end items lines ≡ Some fault → IsOfAnEnd fault
  end-fault [] lines fault e = inl (cc e)
  end-fault (item ∷ before) (line ∷ lines) fault e = inr (inr (cc e))
  end-fault (item ∷ before) [] fault e = by_bool (header_has_ended (item ∷ before))
      (λ on. by_bool (nat_lt 0 (records_left (item ∷ before)))
      (λ some. let is = rw (on, some) at e in inr (inr (cc is)))
      (λ none. let is = rw (on, none) at e in absurd (cc is)))
      (λ off. let is = rw off at e in inr (inl (cc is)))

  noticed : (lines more : List ReadLine) (count : ℕ) → count + 1 ≡ start + length lines
      → (whole_reading place false start (lines ++ more)).fault ≡ None
      → IsNoticed (whole_reading place false start (lines ++ more))
      (whole_reading place false start lines) count
  noticed lines more count many f = by_stop r.items r.stop refl (told place h false start lines)
    where
      r : Reading E
      r = reading_from place false [] start lines

      all-same : WholeReading.items (whole_reading place false start (lines ++ more))
          ≡ (continued_reading place false r more).items
      all-same = same-items (reading_from place false [] start (lines ++ more)).items
          (reading_from place false [] start (lines ++ more)).stop f
          ∙ ap (λ (s : Reading E). s.items) (resumed place h false [] start lines more)

      by_stop : (items : List (Item E)) (stop : Stop) → r ≡ record { items = items; stop = stop }
          → FateAt place h false start lines (record { items = items; stop = stop })
          → IsNoticed (whole_reading place false start (lines ++ more))
          (whole_reading place false start lines) count
      by_stop items (AtFault at) is k = absurd (cc (f, resumed place h false [] start lines more, is))
      by_stop items (Looking number) is k =
          let rest = (looked-kept place false (From items) items (reading_from place false items) number more
          (λ n. ([], refl)) (λ n ls b. within-kept place false (From items) (on-from items)
          (length ls + 1) items n ls
          ([], refl))).1 in
          inl (cc is, (rest.0, rw is at all-same ∙ rest.1 ∙ ap (λ its. rest.0 ++ its) (cc is)))
      by_stop items (AtLines number rest) is (n, ls, s, left) = by_fault (fault_at_end items rest) refl
        where
          by_fault : (o : Option Fault) → fault_at_end items rest ≡ o → IsNoticed
              (whole_reading place false start (lines ++ more)) (whole_reading place false start lines) count
          by_fault None e =
              let later = goes-on items number (rest ++ more) in
              inl (
                cc (is, e),
                (
                  later.0,
                  rw is at all-same ∙ later.1
                      ∙ ap (λ its. later.0 ++ its) (cc (is, e)),
                ),
              )
          by_fault (Some fault) e =
              let far : number + length rest ≡ count + 1 = omega (
                arith,
                left.0,
                s.number_is,
                ap length s.all_is,
                length-append s.front ls,
                ap length left.1,
                many,
              ) in
              inr (fault, cc (is, e, far), end-fault items rest fault e)

abbrev lines-are : (file cut : List ℕ) (more : List InputLine) → lines_of file ≡ lines_of cut ++ more
    → map as_read (lines_of file) ≡ map as_read (lines_of cut) ++ map as_read more
lines-are file cut more e = ap (map as_read) e ∙ map-append as_read (lines_of cut) more

pub file-noticed : (choices : Choices) (file cut : List ℕ) (more : List InputLine) → choices.skip ≡ false
    → (compacted file choices).fault ≡ None → lines_of file ≡ lines_of cut ++ more
    → IsNoticed (read_of_file file choices) (read_of_file cut choices) (length (lines_of cut))
file-noticed choices file cut more off f e =
    let is = lines-are file cut more e in
    rw (off, is) (noticed rinex_place rinex-forward 1 (map as_read (lines_of cut)) (map as_read more)
    (length (lines_of cut)) (omega (arith, length-map (lines_of cut) as_read)) (rw (off, is) at f))

-- ---- compact text

two-of : (one two : ReadLine) (rest more : List ReadLine) → FirstBack (one ∷ two ∷ (rest ++ more))
    → FirstBack (one ∷ two ∷ rest)
two-of one two rest more b = record {
  version = b.version;
  program = b.program;
  rest = rest;
  is = cc (b.is);
  first = b.first;
  second = b.second;
}

text-by : (lines more : List ReadLine) (count : ℕ) → length lines ≡ count → 2 ≤ count
    → (whole_compact false (lines ++ more)).fault ≡ None
    → IsNoticed (whole_compact false (lines ++ more)) (whole_compact false lines) count
unfolding two-of
text-by [] more count n two f = absurd (omega (arith, n, two))
text-by (one ∷ []) more count n two f = absurd (omega (arith, n, two))
text-by (one ∷ second ∷ rest) more count n two f =
    let b = two-back false (one ∷ second ∷ (rest ++ more)) f in
    let same : b.rest ≡ rest ++ more = cc (b.is) in
    let all = two-whole false _ b ∙ ap (whole_reading compact_place false 3) same in
    let few = two-whole false _ (two-of one second rest more b) in
    rw (all, few) (noticed compact_place compact-forward 3 rest more count (omega (arith, n))
    (sym (ap (λ (w : WholeReading _). w.fault) all) ∙ f))

pub text-noticed : (choices : Choices) (text cut : List ℕ) (more : List InputLine) → choices.skip ≡ false
    → (expanded text choices).fault ≡ None → lines_of text ≡ lines_of cut ++ more → 2 ≤ length (lines_of cut)
    → IsNoticed (read_of_text text choices) (read_of_text cut choices) (length (lines_of cut))
text-noticed choices text cut more off f e two =
    let is = lines-are text cut more e in
    rw (off, is) (text-by (map as_read (lines_of cut)) (map as_read more) (length (lines_of cut))
    (length-map (lines_of cut) as_read) two (rw (off, is) at f))
