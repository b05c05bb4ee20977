use Rattle.std.proofs.Common.{Fits, w8, refl, sym, rules, arith}
use lib.Lanes.{Each1}
use Rattle.crx_text.proofs.DigitRows.{first_digits_of, front_bytes, grouped, products_small}
use Rattle.crx_text.proofs.DigitRows.{read_row, row_lanes, total_is}
use Rattle.crx_text.proofs.code_digits.row_number.Goals as goal

pub dot4-groups : goal.dot4-groups
dot4-groups c =
    let bytes : Each1 (Fits w8) (grouped (row_lanes c.args.text.now)) = search rules in
    products_small (row_lanes c.args.text.now) _ c.requires.few bytes

pub returns : goal.returns
returns c =
    let bytes : Each1 (Fits w8) (row_lanes c.args.text.now) = search rules in
    let few = c.requires.few in
    let read = read_row _ _ _ c.requires.row (front_bytes 8 _ (λ i. (c.type_inv.text i).fits))
    (sym c.if-ends-count.false) few (total_is _ _ refl bytes few) in
    record { digits = first_digits_of _ _ _ (omega (arith, few)) c.requires.row read.0 read.1 }
