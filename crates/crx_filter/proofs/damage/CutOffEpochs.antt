-- If an epoch of compact text expects more lines, a line that begins with > cuts it off.
use Rattle.crx_filter.proofs.Vocabulary.{common_steps, ℕ, suc, ◌≡◌, true, List, [], ◌∷◌, ◌++◌, length, Result, Err}
use Rattle.crx_filter.proofs.Vocabulary.{arith, ReadLine, Content, Fault, Truncated, begins_epoch, Count, Place}
use Rattle.crx_filter.proofs.Vocabulary.{Done, Fails, NeedsMore, then_place, one_line, first_line, Satellite}
use Rattle.crx_filter.proofs.Vocabulary.{RawEpoch, Past, BegunEpoch, rows_read, epoch_after_line, epoch_at}
use Rattle.crx_compact.proofs.reading.SteadyEpochs.{steady-rows_read}
use Rattle.{crx_filter.proofs.following.LinesAtStops.one_line-decided, crx_rinex.proofs.SteadyPlaces.steady-first_line}

abbrev IsCutOff : {X : Type 0} → (List ReadLine → Place X) → Type 0
IsCutOff place = (lines : List ReadLine) (line : List ℕ) → begins_epoch line ≡ true
    → place lines ≡ NeedsMore → place (lines ++ Content line ∷ []) ≡ Fails (length lines) Truncated

cut-here : {X : Type 0} (x : X) → IsCutOff (λ lines. Done x 0)
cut-here x lines line begins e = absurd (cc)

cut-first : {X : Type 0} (read : List ℕ → Result X Fault) → ((line : List ℕ)
    → begins_epoch line ≡ true → read line ≡ Err Truncated) → IsCutOff (λ lines. first_line lines read)
cut-first read h e line begins p = grind (arith, common_steps, one_line, one_line-decided)

-- ---- an epoch's lines

rows-cut : (past : Past) (satellites : List Satellite) → IsCutOff (rows_read past satellites)
rows-cut past [] = cut-here []
rows-cut past (satellite ∷ satellites) =
    grind (arith, common_steps, cut-first, steady-rows_read, cut-here, rows-cut past satellites)

begun-cut : (r : Result BegunEpoch Fault) (first : ReadLine) (lines : List ReadLine) (line : List ℕ)
    → begins_epoch line ≡ true → then_place (one_line r) (first ∷ lines) (λ begun others.
    epoch_after_line begun others) ≡ NeedsMore → then_place (one_line r) (first ∷ (lines ++ Content line ∷
    [])) (λ begun others. epoch_after_line begun others) ≡ Fails (suc (length lines)) Truncated
begun-cut v1 first lines line begins e =
    grind (arith, steady-first_line, cut-first, steady-rows_read, rows-cut, cut-here)

-- an epoch whose first line has been read
pub epoch-cut : (types : List Count) (older : List RawEpoch) (first : List ℕ) (lines : List ReadLine)
    (line : List ℕ) → begins_epoch line ≡ true → epoch_at types older (Content first ∷ lines) ≡ NeedsMore →
    epoch_at types older (Content first ∷ (lines ++ Content line ∷ [])) ≡ Fails (suc (length lines)) Truncated
epoch-cut types older first lines line begins e = begun-cut _ _ _ _ begins e
