-- The compact text of a file that is compacted here, damaged in stretches, cut into lines: those of its units, and
-- those in the stretches.
use Rattle.crx_filter.proofs.Vocabulary
use Vocabulary.{common_steps, arith, ℕ, ◌≡◌, ◌⊎◌, inl, inr, true, List, [], ◌∷◌, ◌++◌, map, refl, Option}
use Vocabulary.{append-nil, AllByRecursion, list_all, drop-append_seam, Piece}
use Vocabulary.{pieces_of, lines_of, lines_text, Content, as_read, Epoch, Choices, Item}
use Vocabulary.{header_has_ended, lines_after, OfCopiedLines, HaveNoReturns, AreInPlace, Stretch}
use Rattle.crx_filter.proofs.damage.{ItemTexts.{rest-in_place, text-parts}, DamagedText.each-ended}
use Rattle.crx_filter.proofs.damage.{DamagedText.{lines-append, front-cut}, TextAfter.{lines_on, written-on}}
use Rattle.crx_filter.proofs.reading.ListsOfUnits.{header-append, all-parts}
use Rattle.crx_filter.proofs.wayback.{LinesCutAgain.{IsClean, CanStand}, Reading.lines_back}
use Rattle.crx_filter.proofs.wayback.{Units.units_in, WayBack.lines-clean}
use Rattle.crx_filter.specs.meaning.Stretches.{stretches_lines}
use Rattle.crx_filter.specs.OwnStretches.{OwnStretch, up_to_own_end, up_to_own_next}
use Rattle.crx_filter.specs.OwnStretches.{with_own, own_text, AreOwnStretches}

-- ---- the units of a file, and those before some of them

pub record AreGood (items : List (Item Epoch)) : Type 0 where
  pub in_place : AreInPlace items
  pub copied : OfCopiedLines CanStand items
  pub no_returns : HaveNoReturns items

copied-rest : (P : List ℕ → Type 0) (later before : List (Item Epoch))
    → OfCopiedLines P (later ++ before) → OfCopiedLines P before
copied-rest P [] before h = h
copied-rest P (item ∷ later) before h = grind (arith, copied-rest P later before)

pub good-before : (later before : List (Item Epoch)) → AreGood (later ++ before) → AreGood before
good-before later before h = search (rest-in_place, copied-rest)

pub good-up_to : (before : List (Item Epoch)) (stretches : List OwnStretch)
    → AreGood (with_own before stretches) → AreGood before
good-up_to before [] h = h
good-up_to before (s ∷ later) h = grind (arith, good-before, good-up_to (up_to_own_next before s) later h)

-- ---- the kept units

-- their lines are the lines of the longer text after those of the shorter
pub kept-lines : (choices : Choices) (kept block : List (Item Epoch)) → AreInPlace (kept ++ block)
    → header_has_ended block ≡ true
    → lines_after choices block (kept ++ block) ≡ lines_on choices.every kept block
kept-lines choices kept block h header = search (text-parts, header-append, drop-append_seam)

pub kept-clean : (choices : Choices) (kept block : List (Item Epoch)) → AreGood (kept ++ block)
    → AllByRecursion IsClean (lines_on choices.every kept block)
kept-clean choices kept block h =
    (all-parts IsClean (lines_back choices.every block) (lines_on choices.every kept block) (rw (← written-on
    choices.every kept block) (lines-clean choices.every (kept ++ block) h.in_place h.copied h.no_returns))).1

-- ---- its stretches are stretches of a text, whoever wrote it

abbrev pub as_stretch : Option ℕ → List (Item Epoch) → OwnStretch → Stretch
as_stretch every before s = record {
  lost = units_in s.lost;
  instead = map as_read (lines_of s.instead);
  kept = units_in s.kept;
  lines = lines_on every s.kept (up_to_own_end before s);
}

abbrev pub as_stretches : Option ℕ → List (Item Epoch) → List OwnStretch → List Stretch
as_stretches every before [] = []
as_stretches every before (s ∷ later) =
    as_stretch every before s ∷ as_stretches every (up_to_own_next before s) later

-- ---- the lines of the text

-- bytes that end with a line, followed by others, if there are any
ended-cut : (instead : List ℕ) (lines : List (List ℕ)) (text : List ℕ) → AllByRecursion IsClean lines
    → ((lines ≡ []) × (text ≡ [])) ⊎ (list_all (λ (piece : Piece). piece.is_ended) (pieces_of instead) ≡ true)
    → map as_read (lines_of (instead ++ (lines_text lines ++ text)))
    ≡ map as_read (lines_of instead) ++ (map Content lines ++ map as_read (lines_of text))
ended-cut instead lines text clean (inl (e, f)) = rw (e, f, append-nil instead) (grind (arith, common_steps))
ended-cut instead lines text clean (inr ended) = search (lines-append, each-ended, front-cut)

pub stretches-cut : (choices : Choices) (before : List (Item Epoch)) (stretches : List OwnStretch)
    → AreOwnStretches choices before stretches → AreGood (with_own before stretches)
    → header_has_ended before ≡ true → map as_read (lines_of (own_text choices before stretches))
    ≡ stretches_lines (as_stretches choices.every before stretches)
stretches-cut choices before [] h good header = refl
stretches-cut choices before (s ∷ later) h good header =
    let block = up_to_own_end before s in
    let next = up_to_own_next before s in
    let here = good-up_to next later good in
    let block-header = header-append s.lost before header in
    let rest = stretches-cut choices next later h.1 good (header-append s.kept block block-header) in
    grind (arith, common_steps, block, next, here, block-header, rest, kept-lines, ended-cut, kept-clean)
