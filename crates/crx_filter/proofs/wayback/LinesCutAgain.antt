-- Lines that are written and cut again are these lines; and a line read from an input holds no LF and isn't too long.
use Rattle.crx_filter.proofs.Vocabulary
use Vocabulary.{◌++◌, common_steps, arith, ℕ, ◌≡◌, ◌≤◌, true, false, List, [], ◌∷◌, map, length, refl}
use Vocabulary.{ap, append_assoc, ⊤, AllByRecursion, All-head, All-tail, All-cons, All-nil, ltb-false}
use Vocabulary.{eqb_tells, Piece, pieces_of, ends_with_return, without_return, line_of}
use Vocabulary.{lines_of, HasNoFeed, ReadLine, Content, Overlong, as_read, LINE_LIMIT, lines_text}
use Rattle.{crx_lines.proofs.PieceLemmas.{pieces-first, NoFeed}, std.proofs.lemmas.Bool.le-ltb}

-- a line that is read as it was written
pub record IsClean (line : List ℕ) : Type 0 where
  pub one_line : HasNoFeed line
  pub no_return : ends_with_return line ≡ false
  pub short : length line ≤ LINE_LIMIT

pub return-kept : (line : List ℕ) → ends_with_return line ≡ false → without_return line ≡ line
return-kept [] e = refl
return-kept (b ∷ []) e = rw e refl
return-kept (b ∷ c ∷ bs) e = ap (λ l. b ∷ l) (return-kept (c ∷ bs) e)

as-read-clean : (line : List ℕ)
    → IsClean line → as_read (line_of (record { bytes = line; is_ended = true })) ≡ Content line
as-read-clean line h = grind (arith, common_steps, return-kept, le-ltb, line_of)

-- the first of some lines, cut off their text
pub first-cut : (line : List ℕ) (lines : List (List ℕ)) → HasNoFeed line → pieces_of
    (lines_text (line ∷ lines)) ≡ record { bytes = line; is_ended = true } ∷ pieces_of (lines_text lines)
first-cut line lines one = search (append_assoc, pieces-first)

-- and so are some lines before a text
pub front-cut : (lines : List (List ℕ)) (text : List ℕ) → AllByRecursion IsClean lines
    → map as_read (lines_of (lines_text lines ++ text)) ≡ map Content lines ++ map as_read (lines_of text)
front-cut [] text h = refl
front-cut (line ∷ lines) text h = search (front-cut lines text h.1, append_assoc, pieces-first, as-read-clean)

-- ---- the reading of an input

-- a line's content holds no LF and isn't too long
abbrev pub CanStand : List ℕ → Type 0
CanStand line = HasNoFeed line × (length line ≤ LINE_LIMIT)

-- `P` holds of a line's content
abbrev pub OfContent : (List ℕ → Type 0) → ReadLine → Type 0
OfContent P (Content line) = P line
OfContent P Overlong = ⊤

abbrev FeedsNone : Piece → Type 0
FeedsNone p = HasNoFeed p.bytes

pieces-no_feed : (input : List ℕ) → AllByRecursion FeedsNone (pieces_of input)
pieces-no_feed [] = tt
pieces-no_feed (b ∷ bs) = grind (arith, common_steps, All-nil, pieces-no_feed bs, eqb_tells b 10)

no_feed-without_return : (bytes : List ℕ) → HasNoFeed bytes → HasNoFeed (without_return bytes)
no_feed-without_return [] h = h
no_feed-without_return (b ∷ []) h = grind (arith, All-nil)
no_feed-without_return (b ∷ c ∷ bs) h = All-cons NoFeed b _
    (All-head NoFeed b (c ∷ bs) h) (no_feed-without_return (c ∷ bs) (All-tail NoFeed b (c ∷ bs) h))

pieces-stand : (ps : List Piece)
    → AllByRecursion FeedsNone ps → AllByRecursion (OfContent CanStand) (map as_read (map line_of ps))
pieces-stand [] h = tt
pieces-stand (p ∷ ps) h = grind (arith, common_steps, pieces-stand ps h.1, ltb-false, no_feed-without_return)

pub input-stands : (input : List ℕ) → AllByRecursion (OfContent CanStand) (map as_read (lines_of input))
input-stands input = pieces-stand (pieces_of input) (pieces-no_feed input)
