-- The lines of an epoch, one after another in one text, each followed by LF.
use Rattle.std.specs.Prelude.{◌≡◌, ◌≤◌, ◌<◌, ◌++◌, ◌+◌, ◌-◌, ◌*◌, ℕ, suc, List, [], ◌∷◌, length, take, drop, Vec, vec_capacity}
use Rattle.crx_compact.specs.declared.history.TheConstants.{EPOCH_TEXT_LIMIT}
use Rattle.crx_compact.specs.declared.block.TheConstants.{FIRST_LINES, FRONT, LINES_LIMIT, LINE_ROOM}
pub use Rattle.crx_base.specs.meaning.Lines.{lines_text}

-- the lines of these lengths in a text that has one character after each of them
abbrev pub cut : List ℕ → List ℕ → List (List ℕ)
cut [] text = []
cut (count ∷ counts) text = take count text ∷ cut counts (drop (suc count) text)

-- lengths and a text that belong together; `past`: how many lines were borrowed already, `past_bytes`: how many bytes with them
pub record AreCut (lengths text : List ℕ) (past past_bytes : ℕ) : Type 0 where
  pub past_within : past ≤ length lengths
  pub bytes_within : past_bytes ≤ length text
  pub whole : lines_text (cut (drop past lengths) (drop past_bytes text)) ≡ drop past_bytes text

-- the pending lines; how many can be put after them, and how many in front of them
pub record PendingLines : Type 0 where
  pub lines : List (List ℕ)
  pub left : ℕ
  pub front : ℕ

abbrev pub no_lines : PendingLines
no_lines = record { lines = []; left = LINES_LIMIT; front = FIRST_LINES }

-- a line was put after the others
pub record HasTakenLine (old new : PendingLines) : Type 0 where
  pub left : new.left + 1 ≡ old.left
  pub front : new.front ≡ old.front

-- a line was put into bytes from `at` on: it has `count` bytes, at most `room`, and a byte is left after it, for its LF
pub record IsLinePut (line : List ℕ) (room at : ℕ) (old new : List ℕ) (count : ℕ) : Type 0 where
  pub written : take (at + count) new ≡ take at old ++ line
  pub within : at + count < length new
  pub short : count ≤ room

-- a list has the same memory, and its items are at the same indices
pub record KeepsItems {X Z : Type 0} (old new : Vec X Z) : Type 0 where
  pub items : (n : ℕ) → n ≤ length old.items → take n new.items ≡ take n old.items
  pub memory : vec_capacity new ≡ vec_capacity old

-- there is space in front for `front` lines, each at most as long as an epoch text, among these lines and bytes
abbrev pub HasFront : ℕ → ℕ → ℕ → Type 0
HasFront front lines bytes = (front ≤ lines) × (front * (EPOCH_TEXT_LIMIT + 1) ≤ bytes)

-- `count` lines and `filled` bytes, those in front included: each line has at most its room, and there are lengths and memory for exactly
-- the greatest number of lines
abbrev pub HasPlace : ℕ → ℕ → ℕ → ℕ → Type 0
HasPlace count filled lengths memory = (FIRST_LINES ≤ count) × (FRONT ≤ filled)
    × (filled ≤ FRONT + (count - FIRST_LINES) * LINE_ROOM) × (lengths ≡ FIRST_LINES + LINES_LIMIT)
    × (memory ≡ FRONT + LINES_LIMIT * LINE_ROOM)

-- the parts of a block fit together: the lengths of its lines, and their bytes; how many of both are in use, and how many were borrowed
-- already; for how many lines space is left in front; and the memory of the bytes
abbrev pub IsBlock : List ℕ → List ℕ → ℕ → ℕ → ℕ → ℕ → ℕ → ℕ → Type 0
IsBlock lengths bytes count filled past past_bytes front memory =
    AreCut (take count lengths) (take filled bytes) past past_bytes × (count ≤ length lengths) × (filled ≤ length bytes)
    × HasFront front past past_bytes × HasPlace count filled (length lengths) memory
