-- The state of a reader of compact text after a line.
use Rattle.crx_filter.proofs.Vocabulary.{common_steps, arith, ◌≡◌, Bool, true, List, ℕ, Option, None, Result}
use Rattle.crx_filter.proofs.Vocabulary.{Ok, Content, Fault}
use Rattle.crx_filter.proofs.Vocabulary.{Count, Satellite, Tail, and_then, RawStep}
use Rattle.crx_filter.{proofs.Vocabulary.first_step, specs.CompactStages.{wants_line, wants_lines}}
use Rattle.crx_compact.specs.OpenEpochs.{ColumnsState, Going, Whole, Faulty, HasMade, opened_raw, awaited_row}
use Rattle.crx_compact.specs.OpenEpochs.{before_clock, opening, tail_for_line, tail_opened}

-- whether an epoch that continues expects lines
abbrev wants_more : RawStep → Bool
wants_more (Going begun) = wants_line begun.clock (awaited_row begun)
wants_more (Whole held) = true
wants_more (Faulty fault) = true

satellites-wanted : (line : List ℕ) (before : Tail) (read : Result (List Satellite) Fault)
    → wants_more (opening (and_then read (λ (satellites : List Satellite).
    Ok (before_clock (tail_opened before line satellites))))) ≡ true
satellites-wanted line before read = grind (arith, common_steps)

opened-wants : (types : List Count) (line : List ℕ) (tail : Option Tail)
    → wants_more (opening (opened_raw types line tail)) ≡ true
opened-wants types line tail = grind (arith, common_steps, satellites-wanted)

pub begun-wants : (types : List Count) (tail : Option Tail) (line : List ℕ) (after : ColumnsState)
    → HasMade (first_step types tail (Content line)) after None → wants_lines after ≡ true
begun-wants types tail line after (begun, going, is) = cc (opened-wants types line (tail_for_line tail line))
