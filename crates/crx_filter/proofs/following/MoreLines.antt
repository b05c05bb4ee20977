-- One more line after some, if the reading begins with no items, at a line of any number.
use Rattle.crx_filter.proofs.following.{Agreement.{Meaning, IsCarriedOut, place}}
use Rattle.crx_filter.proofs.following.{LinesAtStops.{FollowsAs, seen_after}}
use Rattle.crx_filter.proofs.{following.LinesAtStops.{last_made, next-line}, reading.Resuming.resumed}
use Rattle.crx_filter.proofs.{reading.Stopping.reading-stopped, Vocabulary.{ℕ, ◌≡◌, ◌+◌, List, [], ◌∷◌, ◌++◌}}
use Rattle.crx_filter.proofs.Vocabulary.{length, ReadLine, Reading, reading_from, RunState, fed}

module _ {E U O K : Type 0} {m : Meaning E U O K} (h : IsCarriedOut m) where
  abbrev pub read_from : ℕ → List ReadLine → Reading E
  read_from number lines = reading_from (place m) m.choices.skip [] number lines

  -- the state of an engine that has taken some lines
  abbrev pub state_from : ℕ → ℕ → List ReadLine → RunState O K
  state_from number count lines = seen_after h count (read_from number lines)

  -- a reading and an engine agree on one more line
  pub more-line : (number count next : ℕ) (lines more : List ReadLine) (line : ReadLine) → number + length
      lines ≡ count + 1 → next ≡ count + 1 → more ≡ lines ++ line ∷ []
      → FollowsAs h next (read_from number lines).items (read_from number more)
      (fed m.direction (state_from number count lines) line)
      (last_made m.direction (state_from number count lines) line)
  more-line number count next lines more line counted after all =
      let before = read_from number lines in
      rw (after, all) (rw (resumed (place m) h.forward m.choices.skip [] number lines (line ∷ []))
      (next-line h before.items before.stop count line (reading-stopped (place m) h.forward m.choices.skip []
      number (count + 1) lines counted)))
