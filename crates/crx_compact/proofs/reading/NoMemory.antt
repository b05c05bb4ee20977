-- OutOfMemory is no fault of a line of an epoch.
use Rattle.crx_compact.proofs.Vocabulary.{◌≡◌, ℕ, suc, ℤ, [], ◌∷◌, Err, Code, common_steps}
use Rattle.crx_compact.proofs.Vocabulary.{cells_read, OutOfMemory, Content, List, Option, Result, Fault, arith}
use Rattle.crx_compact.proofs.Vocabulary.{step_in, next_step, RowTail, Tail}
use Rattle.crx_compact.specs.OpenEpochs.{OpenRawEpoch, OpenClock, Faulty, ColumnsState, line_step}
use Rattle.crx_compact.specs.OpenEpochs.{whole_or_awaiting}

cells-none : (value : ℕ → Code → Result (Option ℤ) Fault) → ((place : ℕ) (code : Code)
    → value place code ≡ Err OutOfMemory → ⊥) → (texts : List (List ℕ))
    → cells_read value texts ≡ Err OutOfMemory → ⊥
cells-none value h [] e = cc
cells-none value h (text ∷ texts) e =
    grind (arith, common_steps, h 0, cells-none (λ place. value (suc place)) (λ place. h (suc place)) texts)

whole-none : (tail : Tail) (count : ℕ) (row : Option RowTail)
    → whole_or_awaiting tail count row ≡ Faulty OutOfMemory → ⊥
whole-none tail count row e = grind arith

open-none : (begun : OpenRawEpoch) (clock : OpenClock) (line : List ℕ)
    → line_step begun clock line ≡ Faulty OutOfMemory → ⊥
open-none begun clock line e = grind (arith, common_steps, cells-none, whole-none)

pub no-memory-at-next : (begun : OpenRawEpoch) (line : List ℕ) (fault : Fault)
    → next_step begun (Content line) ≡ Faulty fault → fault ≡ OutOfMemory → ⊥
no-memory-at-next begun line fault is out = grind (arith, open-none)

pub no-memory-in-epoch : (state : ColumnsState) (line : List ℕ) (fault : Fault)
    → step_in state (Content line) ≡ Faulty fault → fault ≡ OutOfMemory → ⊥
no-memory-in-epoch state line fault is out = grind (arith, common_steps, no-memory-at-next)
