-- How many bytes a call uses of those that the input may still have.
use Rattle.std.proofs.lemmas.Grind.{common_steps}
use Rattle.rnxcmp_c.proofs.Vocabulary.{◌≡◌, ℕ, ◌-◌, ◌<◌, false, true, List, length, take, arith, length-append}
use Rattle.rnxcmp_c.proofs.Vocabulary.{INPUT_LIMIT}
use Rattle.rnxcmp_c.proofs.Vocabulary.{HandleState, BothTexts, Task, run_for, texts_of_held, ready_in, READY_LIMIT}
use Rattle.rnxcmp_c.specs.{Going.IsTaken, Past.StopsSoon, meaning.Handles.TakesBytes}

module _ (task : Task) (fed : List ℕ) (taken : BothTexts) (bytes allowed : List ℕ)
    (first : allowed ≡ take (INPUT_LIMIT - length fed) bytes) (old new : HandleState) (used : ℕ) where
  -- the run continues
  pub takes-some : (0 < length bytes → 0 < length allowed) → IsTaken old new (length allowed) used
      → (0 < used → StopsSoon (run_for task) fed taken allowed used)
      → TakesBytes (run_for task) fed taken bytes used (texts_of_held old) (texts_of_held new) false
  takes-some some count soon = grind (arith, common_steps, length-append)

  -- all bytes that the input may still have ended it
  pub takes-all : used ≡ length allowed → (0 < length allowed → ready_in old < READY_LIMIT)
      → TakesBytes (run_for task) fed taken bytes used (texts_of_held old) (texts_of_held new) true
  takes-all all low = grind (arith, common_steps, length-append)
