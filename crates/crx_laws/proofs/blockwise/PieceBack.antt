-- The lines of some units, read after other units that leave the same types.
use Rattle.crx_filter.proofs.Vocabulary.{append-nil, ℕ, ◌≡◌, ◌+◌, true, List, [], ◌∷◌, ◌++◌, map, length, None}
use Rattle.crx_filter.proofs.Vocabulary.{refl, ap}
use Rattle.crx_filter.proofs.Vocabulary.{sym, ◌∙◌, subst, map-append, lines_of, lines_text, ReadLine}
use Rattle.crx_filter.proofs.Vocabulary.{Content, as_read, Epoch, FileUnit, ReadEpoch}
use Rattle.crx_filter.proofs.Vocabulary.{Choices, is_date, Item, Accepted, Warned}
use Rattle.crx_filter.proofs.Vocabulary.{AtLines, reading_from, ended_reading, compact_lines, compact_place}
use Rattle.crx_filter.proofs.Vocabulary.{expanded_unit, whole_compact, expanded}
use Rattle.crx_filter.proofs.Vocabulary.{printed_items, written_well, result_of}
use Rattle.crx_filter.proofs.Vocabulary.{continued_reading, raws_kept, records_left}
use Rattle.crx_filter.specs.meaning.{UnitsAndText.{as_items, rinex_text}, WrittenStandard.rinex_items}
use Rattle.crx_filter.specs.OwnStretches.{read_of_file}
use Rattle.crx_filter.proofs.anywriter.AnyText.{AreRead, AreReadOn, all-read, read-on}
use Rattle.crx_filter.proofs.anywriter.AnyText.{in-place, none-left, units-well, whole-read}
use Rattle.crx_filter.proofs.anywriter.TextCompactedHere.{own-on, printed-append, state_on, units-append, units-printed}
use Rattle.crx_filter.proofs.damage.{ItemTexts.rest-in_place, TextAfter.lines_on}
use Rattle.crx_filter.proofs.reading.{ForwardCompact.compact-forward, Resuming.resumed}
use Rattle.crx_filter.proofs.stretches.KeptUnits.{CanGoOnAs, like-block}
use Rattle.crx_filter.proofs.stretches.StretchesCut.{AreGood, good-before, kept-lines, kept-clean}
use Rattle.crx_filter.proofs.stretches.StretchesCompactedHere.{begins-own, file-good, file-settled, file-whole}
use Rattle.crx_filter.proofs.stretches.StretchesCompactedHere.{units-before}
use Rattle.crx_filter.proofs.stretches.{StretchesRead.header-on}
use Rattle.crx_filter.specs.meaning.CompactText.{AreUnitsInPlace}
use Rattle.crx_filter.proofs.wayback.{UnitsReadAgain.{started, units-like}, LinesCutAgain.front-cut, Units.units_in}
use Rattle.crx_filter.proofs.wayback.{WayBack.IsSettled}
use Rattle.crx_compact.proofs.Vocabulary.{tail_left}
use Rattle.crx_laws.specs.Blocks.{IsPieceAfter, IsOwnPieceAfter}

rinex-append : (later before : List (Item ReadEpoch))
    → rinex_items (later ++ before) ≡ rinex_items later ++ rinex_items before
rinex-append [] before = refl
rinex-append (Accepted unit ∷ later) before = cc (rinex-append later before)
rinex-append (Warned at ∷ later) before = cc (rinex-append later before)

pub piece-alone : (front before piece : List (FileUnit Epoch)) (text : List ℕ) (expanding : Choices)
    → IsPieceAfter front before piece text
    → expanded text expanding ≡ written_well (rinex_text (piece ++ front))
piece-alone front before piece text expanding h =
    let skip = expanding.skip in
    let t = h.begun in
    let f : AreRead skip 3 front t.lines t.last =
    all-read skip 3 front t.lines t.last (in-place front (h.file).in_place) t.written in
    let number : ℕ = 3 + length t.lines in
    let can : CanGoOnAs before f.items = record {
      header = h.header;
      left = h.begins;
      between =
          record { header = (f.like).header ∙ (h.file).header; none = (f.like).left ∙ (h.file).complete };
      types = (f.like).types ∙ h.types;
    } in
    let o : AreReadOn skip f.items number before piece h.lines h.last =
    read-on skip f.items number before piece h.lines None
    h.last (like-block before f.items can) (none-left (tail_left (raws_kept f.items)))
    (in-place (piece ++ before) h.in_place) h.written in
    let all : List (Item ReadEpoch) = o.more ++ f.items in
    let last : ℕ = number + length h.lines in
    let lines : List ReadLine = map Content t.lines ++ map Content h.lines in
    let cut : map as_read (lines_of text) ≡ Content t.version ∷ Content t.program ∷ lines =
    t.cut ∙ ap (λ ls. Content t.version ∷ Content t.program ∷ (map Content t.lines ++ ls)) h.rest in
    let read : reading_from compact_place skip [] 3 lines ≡ record { items = all; stop = AtLines last [] } =
    resumed compact_place compact-forward skip [] 3 (map Content t.lines) (map Content h.lines)
    ∙ ap (λ r. continued_reading compact_place skip r (map Content h.lines)) f.reads ∙ o.reads in
    let known : rinex_items all ≡ as_items (piece ++ front) = rinex-append o.more f.items
    ∙ ap (λ is. is ++ rinex_items f.items) o.known ∙ ap (λ is. as_items piece ++ is) f.known
    ∙ sym (map-append Accepted piece front) in
    ap (result_of expanded_unit)
    (ap (whole_compact skip) cut ∙ whole-read skip t.version t.program lines t.first t.second
    ∙ ap (ended_reading skip) read)
    ∙ units-well skip all last (piece ++ front) ((o.like).header ∙ header-on piece before h.header)
    ((o.like).left ∙ h.ends) known

-- ---- of a compaction

pub own-piece : (file front : List ℕ) (choices expanding : Choices) (text : List ℕ)
    → is_date choices.date ≡ true → (h : IsOwnPieceAfter file front choices text) → expanded text expanding
    ≡ written_well (lines_text (printed_items (read_of_file front choices).items ++ printed_items h.piece))
own-piece file front choices expanding text dated h =
    let first : List (Item Epoch) = (read_of_file front choices).items in
    let settled : IsSettled first = file-settled front choices h.front_good in
    let good : AreGood (h.piece ++ h.before) =
    good-before h.later (h.piece ++ h.before) (subst AreGood h.parts (file-good file choices h.file_good)) in
    let placed = rest-in_place h.piece h.before good.in_place in
    let lines : List (List ℕ) = lines_on choices.every h.piece h.before in
    let units = units-append h.piece h.before in
    let text_is : text ≡ lines_text (compact_lines choices first) ++ lines_text lines = h.text_is
    ∙ ap (λ ls. lines_text (compact_lines choices first) ++ lines_text ls)
    (kept-lines choices h.piece h.before good.in_place h.header) in
    let begun = begins-own choices first (lines_text lines) dated (file-good front choices h.front_good)
    (started first settled.header) in
    let same = ap (λ us. printed_items (as_items us)) (sym (units-append h.piece first))
    ∙ units-printed (h.piece ++ first)
    ∙ printed-append h.piece first in
    ap (λ t. expanded t expanding) text_is
    ∙ piece-alone (units_in first) (units_in h.before) (units_in h.piece)
    (lines_text (compact_lines choices first) ++ lines_text lines) expanding (record {
      file = file-whole front choices h.front_good;
      in_place = subst AreUnitsInPlace units (units-before (units_in h.later) (units_in (h.piece ++ h.before))
          (subst AreUnitsInPlace (ap units_in h.parts ∙ units-append h.later (h.piece ++ h.before))
          (file-whole file choices h.file_good).in_place));
      header = sym (units-like h.before placed).header ∙ h.header;
      begins = sym (units-like h.before placed).left ∙ (h.whole).0;
      ends = ap (λ us. records_left (as_items us)) (sym units) ∙ sym (units-like (h.piece ++ h.before)
          good.in_place).left ∙ (h.whole).1;
      types = sym (units-like first settled.in_place).types ∙ h.types ∙ (units-like h.before placed).types;
      begun = begun;
      lines = lines;
      last = state_on None choices.every h.before h.piece;
      written = own-on None choices h.before h.piece good.in_place (λ e. h.anew);
      rest = simp append-nil at (front-cut lines [] (kept-clean choices h.piece h.before good));
    }) ∙ ap (λ ls. written_well (lines_text ls)) same
