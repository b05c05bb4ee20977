use Rattle.std.proofs.Common.{arith, ◌-◌, ◌+◌, ◌≡◌, ◌∙◌, ap, drop, take, sym}
use Rattle.std.proofs.lemmas.List.{drop-take, length-take-le, take-replicate}
use Rattle.crx_rinex.proofs.row_buffer.RowBuffer.filled_count.Goals as goal

pub returns : goal.returns
returns c =
    let i = c.self.inside in
    let kept = c.self.invariant in
    let left = i.count - i.filled in
    let sum : i.filled + left ≡ i.count = omega (arith, kept.2) in
    let many = length-take-le i.count i.values (omega (arith, kept.1)) in
    rw (← c.self.view_is) (record {
      missing = (
        omega (arith, many, kept.2),
        rw many (ap (λ n. drop i.filled (take n i.values)) (sym sum) ∙ drop-take i.filled left i.values
            ∙ ap (take left) kept.3.missing ∙ take-replicate left _ _ (omega (arith, kept.1))),
      );
    })
