-- The compact text of a file, followed by the lines after the next file's header, expands to both.
use Rattle.crx_filter.proofs.Vocabulary
use Vocabulary.{common_steps, arith, [], ℕ, ◌≡◌, true, List, ◌∷◌, ◌++◌, map, drop, length}
use Vocabulary.{refl, ap, sym, ◌∙◌, subst, append-nil, append_assoc, drop-append_seam, false≢true, lines_of}
use Vocabulary.{lines_text, as_read, Epoch, HeaderLine, EventLine, EventRecord, Observation, Choices, compacted}
use Vocabulary.{Item, Accepted, Warned, header_has_ended, records_left, types_in_force, AreInPlace}
use Vocabulary.{compact_lines, compact_unit, lines_after, is_interrupted, BeginsAnew, WholeReading, printed_items}
use Vocabulary.{whole_of, HasNormalForm, warnings_in, written_well}
use Rattle.std.proofs.lemmas.List.{append_cancel_left}
use Rattle.crx_filter.specs.OwnStretches.{read_of_file, IsReadWhole}
use Rattle.crx_filter.proofs.damage.DamagedText.{text-append}
use Rattle.crx_filter.proofs.stretches.StretchesCompactedHere.{file-settled}
use Rattle.crx_filter.proofs.wayback.{NormalForm.whole-none, Standard.same-reading}
use Rattle.crx_laws.proofs.blockwise.PieceBack.{own-piece}
use Rattle.crx_laws.specs.{Again.{EndWithHeader, MakeADay}, Blocks.IsOwnPieceAfter}

-- ---- a header

record IsHeader (header : List (Item Epoch)) : Type 0 where
  pub ended : header_has_ended header ≡ true
  pub none : records_left header ≡ 0
  pub interrupted : is_interrupted header ≡ true

is-header : (header : List (Item Epoch)) → EndWithHeader header → IsHeader header
is-header [] h = absurd h
is-header (Accepted (HeaderLine line) ∷ before) h =
    record { ended = grind (arith, common_steps, h); none = refl; interrupted = refl }
is-header (Accepted (EventLine line) ∷ before) h = absurd (false≢true h)
is-header (Accepted (EventRecord line) ∷ before) h = absurd (false≢true h)
is-header (Accepted (Observation epoch) ∷ before) h = absurd (false≢true h)
is-header (Warned at ∷ before) h = absurd (false≢true h)

-- the text after it starts again
begins-anew : (choices : Choices) (header later : List (Item Epoch)) → IsHeader header
    → AreInPlace (later ++ header) → warnings_in (later ++ header) ≡ [] → BeginsAnew choices header later
begins-anew choices header [] h placed none = tt
begins-anew choices header (Warned at ∷ []) h placed none = absurd (grind (arith, none))
begins-anew choices header (Accepted (HeaderLine line) ∷ []) h placed none =
    absurd (false≢true (sym placed.0.0 ∙ h.ended))
begins-anew choices header (Accepted (EventLine line) ∷ []) h placed none = tt
begins-anew choices header (Accepted (EventRecord line) ∷ []) h placed none =
    let some = placed.0.1 in let left = h.none in absurd (omega (arith, some, left))
begins-anew choices header (Accepted (Observation epoch) ∷ []) h placed none =
    grind (arith, common_steps, h.interrupted)
begins-anew choices header (Accepted unit ∷ item ∷ items) h placed none =
    begins-anew choices header (item ∷ items) h placed.1 none
begins-anew choices header (Warned at ∷ item ∷ items) h placed none = absurd (grind (arith, none))

-- ---- the text after it

record IsBehind (choices : Choices) (later before : List (Item Epoch)) : Type 0 where
  pub more : List (List ℕ)
  pub is : compact_lines choices (later ++ before) ≡ compact_lines choices before ++ more

behind : (choices : Choices) (later before : List (Item Epoch)) → IsBehind choices later before
behind choices [] before = record { more = []; is = sym (append-nil (compact_lines choices before)) }
behind choices (Accepted unit ∷ later) before =
    let last = compact_unit choices (later ++ before) unit in
    let h = behind choices later before in record {
      more = h.more ++ last;
      is = ap (λ (ls : List (List ℕ)). ls ++ last) h.is
          ∙ append_assoc (compact_lines choices before) h.more last;
    }
behind choices (Warned at ∷ later) before =
    let h = behind choices later before in record { more = h.more; is = h.is }

text-behind : (choices : Choices) (later before : List (Item Epoch)) (rest : List ℕ)
    → lines_text (compact_lines choices (later ++ before)) ≡ lines_text (compact_lines choices before) ++ rest
    → rest ≡ lines_text (lines_after choices before (later ++ before))
text-behind choices later before rest e =
    let h = behind choices later before in
    let first = compact_lines choices before in
    let same : rest ≡ lines_text h.more = append_cancel_left (lines_text first) rest (lines_text h.more)
    (sym e ∙ ap lines_text h.is ∙ text-append first h.more) in
    let left : lines_after choices before (later ++ before) ≡ h.more =
    ap (λ (ls : List (List ℕ)). drop (length first) ls) h.is ∙ drop-append_seam first h.more in
    same ∙ ap lines_text (sym left)

-- ---- both

read-same : (file : List ℕ) (choices : Choices) → HasNormalForm file
    → read_of_file file choices ≡ whole_of file
read-same file choices h = same-reading choices.skip (map as_read (lines_of file)) h.good

read-whole : (file : List ℕ) (choices : Choices) → HasNormalForm file → IsReadWhole file choices
read-whole file choices h = grind (arith, common_steps, read-same)

pub make-a_day : (first second : List ℕ) (header later : List (Item Epoch)) (rest : List ℕ)
    (compacting expanding : Choices) → MakeADay first second header later rest compacting expanding
make-a_day first second header later rest compacting expanding dated h e =
    let one = read-same first compacting h.first_good in
    let two = read-same second compacting h.second_good in
    let whole = read-whole second compacting h.second_good in
    let items : (read_of_file second compacting).items ≡ later ++ header =
    ap (λ (w : WholeReading Epoch). w.items) two ∙ h.parts in
    let settled = file-settled second compacting whole in
    let placed : AreInPlace (later ++ header) = subst AreInPlace items settled.in_place in
    let head = is-header header h.ended in
    let none : warnings_in (later ++ header) ≡ [] =
    ap warnings_in (sym h.parts) ∙ whole-none (map as_read (lines_of second)) in
    let written : lines_text (compact_lines compacting (later ++ header)) ≡ lines_text
    (compact_lines compacting header) ++ rest = ap (λ (is : List (Item Epoch)).
    lines_text (compact_lines compacting is)) (sym items) ∙ e in
    let piece : IsOwnPieceAfter second first compacting ((compacted first compacting).output ++ rest) =
    record {
      file_good = whole;
      front_good = read-whole first compacting h.first_good;
      before = header;
      piece = later;
      later = [];
      parts = items;
      header = head.ended;
      whole = (head.none, ap records_left (sym items) ∙ settled.none);
      types = ap (λ (w : WholeReading Epoch). types_in_force w.items) one ∙ h.types;
      anew = begins-anew compacting header later head placed none;
      text_is = ap (λ (t : List ℕ). (compacted first compacting).output ++ t)
          (text-behind compacting later header rest written);
    } in
    own-piece second first compacting expanding ((compacted first compacting).output ++ rest) dated piece
    ∙ ap (λ (w : WholeReading Epoch).
    written_well (lines_text (printed_items w.items ++ printed_items later))) one
    ∙ ap written_well (text-append (printed_items (whole_of first).items) (printed_items later))
