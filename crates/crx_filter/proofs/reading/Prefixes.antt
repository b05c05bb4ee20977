-- The output and messages for some lines are prefixes of the output and messages for more lines.
use Rattle.crx_filter.proofs
use proofs.Vocabulary.{arith, ◌≡◌, List, [], ◌∷◌, ◌++◌, ap, sym, ◌∙◌, append_assoc, append-nil, ReadLine, Choices}
use proofs.Vocabulary.{flat_map-append, ℕ, InputLine, RunState, Direction, lines_text, Begins, IsWrittenFirst, At}
use proofs.Vocabulary.{compacted, compacted_so_far, expanded, expanded_so_far, compact_lines, expanded_lines}
use proofs.Vocabulary.{whole_rinex, whole_compact}
use proofs.following.{CompactedOn.compacted-on, ExpandedOn.expanded-on}
use proofs.reading.EndOfInput.{compaction-ended, expansion-ended}
use Rattle.crx_filter.specs.{Compacted.compaction_so_far, EngineLaws.GoesLineByLine}
use Rattle.crx_filter.specs.{Expanded.expansion_so_far}
use Rattle.crx_runs.specs.meaning.Filters.{Filter}

-- a list that grows with each element grows with several
pub grown : {X Y : Type 0} (made : List X → List Y)
    → ((xs : List X) (x : X) → (ys : List Y) × (made (xs ++ x ∷ []) ≡ made xs ++ ys))
    → (xs more : List X) → (ys : List Y) × (made (xs ++ more) ≡ made xs ++ ys)
grown made one xs [] = ([], ap made (append-nil xs) ∙ sym (append-nil (made xs)))
grown made one xs (x ∷ more) =
    let first = one xs x in
    let rest = grown made one (xs ++ x ∷ []) more in
    (first.0 ++ rest.0, grind (arith, append_assoc, first, rest))

-- the same in the words of a filter that works line by line
module _ {U O K : Type 0} {direction : Direction U O K} {lines_at_end_after : List InputLine → List (List ℕ)}
    {state_after : List ReadLine → RunState O K}
    {filter : Filter} (goes : GoesLineByLine direction lines_at_end_after state_after filter)
    (lines more : List InputLine) where
  pub output-grows : Begins (filter.so_far (lines ++ more)).output (filter.so_far lines).output
  output-grows =
      let g = grown (λ ls. (filter.so_far ls).output) (λ ls l. (_, (goes.follows ls l).output)) lines more in
      record { rest = g.0; same = g.1 }

  pub output-goes_on : Begins (filter.whole (lines ++ more)).output (filter.so_far lines).output
  output-goes_on = grind (arith, output-grows, goes.ends (lines ++ more), append_assoc)

  pub warnings-go_on : (later : List At)
      × ((filter.whole (lines ++ more)).warnings ≡ (filter.so_far lines).warnings ++ later)
  warnings-go_on =
      let g = grown (λ ls. (filter.so_far ls).warnings) (λ ls l. (_, (goes.follows ls l).warnings)) lines more
      in (_, rw (g.1, append_assoc) at (goes.ends (lines ++ more)).warnings)

text-grows : (some_lines all : List (List ℕ)) → (rest : List (List ℕ)) × (all ≡ some_lines ++ rest)
    → Begins (lines_text all) (lines_text some_lines)
text-grows some_lines all more = grind (arith, flat_map-append)

module _ (choices : Choices) (lines : List ReadLine) where
  compaction-grows : (more : List ReadLine) → (rest : List (List ℕ)) × (compaction_so_far choices (lines ++
      more) ≡ compaction_so_far choices lines ++ rest)
  compaction-grows = grown (compaction_so_far choices) (λ ls l. (_, (compacted-on choices ls l).handed_out))
      lines

  pub compacted-first : IsWrittenFirst compacted_so_far (λ input (c : Choices). (compacted input c).output)
      choices lines
  compacted-first = record {
    longer = λ more. text-grows _ _ (compaction-grows more);
    whole = λ input more cut. text-grows _ _ (
      _,
      ap (λ ls. compact_lines choices (whole_rinex choices.skip ls).items)
          cut ∙ (compaction-ended choices (lines ++ more)).written ∙ (compaction-grows more).1,
    );
  }

  expansion-grows : (more : List ReadLine) → (rest : List (List ℕ)) × (expansion_so_far choices (lines ++
      more) ≡ expansion_so_far choices lines ++ rest)
  expansion-grows = grown (expansion_so_far choices) (λ ls l. (_, (expanded-on choices ls l).handed_out))
      lines

  pub expanded-first : IsWrittenFirst expanded_so_far (λ input (c : Choices). (expanded input c).output)
      choices lines
  expanded-first = record {
    longer = λ more. text-grows _ _ (expansion-grows more);
    whole = λ input more cut. text-grows _ _ (
      _,
      ap (λ ls. expanded_lines (whole_compact choices.skip ls).items)
          cut ∙ (expansion-ended choices (lines ++ more)).written ∙ (expansion-grows more).1,
    );
  }
