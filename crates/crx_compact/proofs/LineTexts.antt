-- Lines that a text is cut into, each followed by LF.
use Rattle.crx_compact.proofs.Vocabulary.{◌≡◌, ◌≤◌, ◌<◌, ℕ, suc, ◌+◌, ◌-◌, List, [], ◌∷◌, ◌++◌, length, set}
use Rattle.crx_compact.proofs.Vocabulary.{take, drop, get_or, slice_get, Some, ap, arith, drop-append_seam, rules}
use Rattle.crx_compact.proofs.Vocabulary.{take-take, length-append, length-set, length-take-le, take_more_set, cut}
use Rattle.crx_compact.proofs.Vocabulary.{AreCut, common_steps}
use Rattle.std.proofs.lemmas.List.{drop-append-le, drop-drop, drop-take, drop_more}
use Rattle.std.proofs.{Common.append_assoc, lemmas.List.{take-append-drop, take-append-le, length-drop}}
use Rattle.std.proofs.Math.Seq.{take-append_seam, drop-append-add, take-append-add, take-set-lt}
use Rattle.std.proofs.Math.ListN.{drop_of_length-le}
use Rattle.crx_text.proofs.WrittenTexts.{counted-line, line-ended}
use Rattle.crx_compact.specs.Blocks.{IsBlock, IsLinePut, lines_text}
use Rattle.crx_compact.specs.declared.block.TheConstants.{FIRST_LINES, LINES_LIMIT, LINE_ROOM}

-- the first of some lines ends within the text, and the others are its rest
first-ended : (count : ℕ) (counts text : List ℕ) → lines_text (cut (count ∷ counts) text) ≡ text
    → (count < length text) × (lines_text (cut counts (drop (suc count) text)) ≡ drop (suc count) text)
first-ended (suc count) counts (c ∷ cs) e = grind (arith, first-ended count counts cs (ap (drop 1) e))
first-ended x counts y e = grind (arith, common_steps)

pub cut-more : (counts text line : List ℕ) → lines_text (cut counts text) ≡ text
    → cut (counts ++ length line ∷ []) (text ++ (line ++ 10 ∷ [])) ≡ cut counts text ++ line ∷ []
cut-more (count ∷ counts) text line e =
    grind (
      arith,
      common_steps,
      first-ended,
      take-append-le,
      drop-append-le,
      cut-more counts (drop (suc count) text) line,
    )
cut-more x text line e = grind (arith, common_steps, take-append_seam)

pub text-more : (lines : List (List ℕ)) (line : List ℕ)
    → lines_text (lines ++ line ∷ []) ≡ lines_text lines ++ (line ++ 10 ∷ [])
text-more [] line = simp append_assoc
text-more (first ∷ lines) line = grind (arith, common_steps, append_assoc, lines_text, text-more lines line)

-- ---- the next line

-- the rest of the first bytes after a place
drop-taken : (filled past : ℕ) (bytes : List ℕ)
    → past ≤ filled → drop past (take filled bytes) ≡ take (filled - past) (drop past bytes)
drop-taken filled past bytes within =
    let all : filled ≡ past + (filled - past) = omega arith in cc (drop-take past (filled - past) bytes)

-- the next of some lines that are held in bytes, and the rest after it
pub record NextLine (lengths bytes : List ℕ) (filled past past_bytes count : ℕ) : Type 0 where
  pub is : Some (take count (drop past_bytes bytes))
      ≡ slice_get (cut (drop past lengths) (drop past_bytes (take filled bytes))) 0
  pub within : past_bytes + count < filled
  pub left : cut (drop (past + 1) lengths) (drop (past_bytes + count + 1) (take filled bytes))
      ≡ drop 1 (cut (drop past lengths) (drop past_bytes (take filled bytes)))
  pub still : AreCut lengths (take filled bytes) (past + 1) (past_bytes + count + 1)

pub next-line : (lengths bytes : List ℕ) (filled past past_bytes count : ℕ)
    → AreCut lengths (take filled bytes) past past_bytes → filled ≤ length bytes → past < length lengths
    → count ≡ get_or lengths past count → NextLine lengths bytes filled past past_bytes count
next-line lengths bytes filled past past_bytes count c kept past_within here =
    let text : List ℕ = take filled bytes in
    let rest : List ℕ = drop past_bytes text in
    let counts : List ℕ = drop (past + 1) lengths in
    let there : drop past lengths ≡ count ∷ counts = cc (drop_more lengths past count past_within) in
    let first = first-ended count counts rest (rw there at c.whole) in
    let within : past_bytes + count < filled = grind (arith, common_steps, length-drop) in
    let next : past_bytes + count + 1 ≡ past_bytes + suc count = omega arith in
    let after : drop (past_bytes + count + 1) text ≡ drop (suc count) rest =
    cc (drop-drop (suc count) past_bytes text) in
    let state = drop-taken filled past_bytes bytes (omega (arith, within)) in
    search (rules, take-take)

-- ---- all lines that are left

pub all-lines : (lengths bytes : List ℕ) (filled past past_bytes : ℕ)
    → AreCut lengths (take filled bytes) past past_bytes → filled ≤ length bytes → take (filled - past_bytes)
    (drop past_bytes bytes) ≡ lines_text (cut (drop past lengths) (drop past_bytes (take filled bytes)))
all-lines lengths bytes filled past past_bytes c kept = search (rules, length-take-le, drop-taken)

pub none-left : (lengths bytes : List ℕ) (filled past : ℕ)
    → length lengths ≤ past → cut (drop past lengths) (drop filled (take filled bytes)) ≡ []
none-left lengths bytes filled past within = grind (arith, common_steps, cut, drop_of_length-le)

pub none-cut : (lengths bytes : List ℕ) (many filled : ℕ)
    → many ≤ length lengths → filled ≤ length bytes
    → AreCut (take many lengths) (take filled bytes) many filled
none-cut lengths bytes many filled counted within =
    grind (arith, common_steps, length-take-le, none-left, drop_of_length-le)

-- ---- a line that was put after others

-- a block with a line after the others
pub record BlockPushed (lengths bytes new line : List ℕ)
    (count many filled past past_bytes front memory : ℕ) : Type 0
  where
    pub is : cut (drop past (take (many + 1) (set lengths many count)))
        (drop past_bytes (take (filled + (count + 1)) new))
        ≡ cut (drop past (take many lengths)) (drop past_bytes (take filled bytes)) ++ line ∷ []
    pub still : IsBlock (set lengths many count) new (many + 1) (filled + (count + 1)) past past_bytes
        front memory

pub block-pushed : (lengths bytes new line : List ℕ)
    (count many filled past past_bytes front memory memory' : ℕ)
    → IsBlock lengths bytes many filled past past_bytes front memory → memory' ≡ memory
    → 0 < FIRST_LINES + LINES_LIMIT - many → count ≡ length line → count < LINE_ROOM
    → take (filled + (count + 1)) new ≡ take filled bytes ++ (line ++ 10 ∷ [])
    → filled + (count + 1) ≤ length new
    → BlockPushed lengths bytes new line count many filled past past_bytes front memory'
block-pushed lengths bytes new line count many filled past past_bytes front memory memory' block held left
    counts short put long =
    grind (arith, common_steps, length-set, take_more_set, drop-append-le, cut-more, length-append, text-more)

-- the line of a row, which was written after the used bytes, and its LF
pub row-pushed : (lengths bytes used new line : List ℕ)
    (many filled room count past past_bytes front memory memory' : ℕ)
    → IsBlock lengths bytes many filled past past_bytes front memory → memory' ≡ memory
    → 0 < FIRST_LINES + LINES_LIMIT - many → room < LINE_ROOM → take filled used ≡ take filled bytes
    → filled ≤ length used → IsLinePut line room filled used new count → BlockPushed lengths bytes
    (set new (filled + count) 10) line count many filled past past_bytes front memory'
row-pushed lengths bytes used new line many filled room count past past_bytes front memory memory' block held
    left short same within put =
    grind (
      arith,
      common_steps,
      line-ended new used line filled count put.written put.within,
      length-set new (filled + count) 10,
      block-pushed lengths bytes (set new (filled + count) 10) line count
          many filled past past_bytes front memory memory' block held left
          (counted-line new used line filled count
          put.written put.within within),
    )

-- ---- lines in front

cut-first : (counts line rest : List ℕ)
    → cut (length line ∷ counts) ((line ++ 10 ∷ []) ++ rest) ≡ line ∷ cut counts rest
cut-first counts line rest =
    grind (arith, common_steps, take-append_seam line (10 ∷ rest), drop-append-add line (10 ∷ rest) 1)

-- a line that is written directly before the other lines of a text, over earlier bytes
front-written : (bytes new line : List ℕ) (filled start past_bytes : ℕ) → start + length line + 1 ≡ past_bytes
    → past_bytes ≤ filled → filled ≤ length bytes → take past_bytes new
    ≡ take start bytes ++ (line ++ 10 ∷ []) → drop past_bytes new ≡ drop past_bytes bytes
    → drop start (take filled new) ≡ (line ++ 10 ∷ []) ++ drop past_bytes (take filled bytes)
front-written bytes new line filled start past_bytes at within room written same =
    let ended : List ℕ = line ++ 10 ∷ [] in
    let left : ℕ = filled - past_bytes in
    let before = length-take-le start bytes (omega arith) in
    let more : filled - start ≡ length ended + left = omega (arith, length-append line (10 ∷ [])) in
    let whole = append_assoc (take start bytes) ended (drop past_bytes bytes) in
    let parts = take-append-drop past_bytes new in
    let from : drop start new ≡ ended ++ drop past_bytes bytes = search (rules, drop-append_seam) in
    let all = drop-taken filled start new (omega arith) in
    cc (take-append-add ended (drop past_bytes bytes) left, drop-taken filled past_bytes bytes within)

-- a line that is put before the other lines of a text, over earlier bytes, with its length before theirs
pub record PutFront (lengths bytes new line : List ℕ)
    (many filled past next past_bytes start : ℕ) : Type 0 where
  pub is : cut (drop next (take many (set lengths next (length line)))) (drop start (take filled new))
      ≡ line ∷ cut (drop past (take many lengths)) (drop past_bytes (take filled bytes))
  pub still : AreCut (take many (set lengths next (length line))) (take filled new) next start

pub put-front : (lengths bytes new line : List ℕ) (many filled past next past_bytes start : ℕ)
    → AreCut (take many lengths) (take filled bytes) past past_bytes → many ≤ length lengths
    → filled ≤ length bytes → past ≡ next + 1 → start + length line + 1 ≡ past_bytes → take past_bytes new
    ≡ take start bytes ++ (line ++ 10 ∷ []) → drop past_bytes new ≡ drop past_bytes bytes
    → PutFront lengths bytes new line many filled past next past_bytes start
put-front lengths bytes new line many filled past next past_bytes start c some room one at written same =
    grind (
      arith,
      common_steps,
      take-set-lt,
      front-written bytes new line filled start past_bytes at,
      cut-first,
    )
