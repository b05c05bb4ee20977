-- An epoch, or its fault, at compact lines doesn't depend on the lines after it.
use Rattle.crx_compact.proofs.Vocabulary.{ℕ, List, [], ◌∷◌, Option, Count, Satellite, Past, BegunEpoch, rows_read}
use Rattle.crx_compact.proofs.Vocabulary.{epoch_after_line, epoch_against, arith, rules}
use Rattle.crx_rinex.specs.Steady.{IsSteady}
use Rattle.crx_rinex.proofs.SteadyPlaces.{steady-here, steady-first_line, steady-then}

pub steady-rows_read : (past : Past) (satellites : List Satellite) → IsSteady (rows_read past satellites)
steady-rows_read past [] = steady-here []
steady-rows_read past (s ∷ ss) = grind (arith, steady-rows_read past ss)

pub steady-after_line : (begun : BegunEpoch) → IsSteady (epoch_after_line begun)
steady-after_line begun = search (rules, steady-then, steady-first_line, steady-rows_read, steady-here)

pub steady-epoch_against : (types : List Count) (past_of : List ℕ → Option Past)
    → IsSteady (epoch_against types past_of)
steady-epoch_against types past_of = search (rules, steady-then, steady-first_line, steady-after_line)
