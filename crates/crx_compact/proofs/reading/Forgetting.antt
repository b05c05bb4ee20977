-- A line that begins with > forgets the lines before it.
use Rattle.crx_compact.proofs.Vocabulary.{◌≡◌, ◌+◌, length, ℕ, true, List, ◌∷◌, take, map}
use Rattle.crx_compact.proofs.Vocabulary.{rules, arith}
use Rattle.crx_compact.proofs.Vocabulary.{ReadLine, Content, Count, RawEpoch, begins_epoch, Forgets}
use Rattle.crx_compact.proofs.soundness.Soundness.{epoch-facts}

first-line : (count more : ℕ) (line other : List ℕ) (lines : List ReadLine) (own : List (List ℕ))
    → count ≡ 2 + more → take count (Content line ∷ lines) ≡ map Content (other ∷ own) → other ≡ line
first-line count more line other lines own counted cut = grind (arith, counted, cut)

pub forgets : (types : List Count) (older : List RawEpoch) (line : List ℕ) (lines : List ReadLine)
    → begins_epoch line ≡ true → Forgets types older line lines
forgets types older line lines h = record {
  place = search rules;
  block = λ read count e.
      let facts = epoch-facts types older (Content line ∷ lines) read count e in
      let same = first-line count (length facts.rows) line facts.line lines (facts.clock_line ∷ facts.own)
      facts.counted facts.cut in
      grind (arith, facts.is_read, same);
}
