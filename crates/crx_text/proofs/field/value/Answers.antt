use Rattle.std.proofs.{Common.{◌^◌, ◌<◌, w64, rules, ◌∙◌}, lemmas.Int.to_z-of_z}
use mir.Val.{SFits}
use Rattle.crx_text.proofs.{LaneBits.some_of_field, PlainSizes.{plain_size_is_small, size_from_parts}}
use Rattle.crx_text.proofs.Sizes.{signed_in_range}
use Rattle.crx_text.proofs.field.value.Goals as goal

pub returns-clause-value : goal.returns-clause-value
returns-clause-value c =
    search (rules, some_of_field, c.of_groups-size.ensures, size_from_parts, w64, to_z-of_z, c.with_sign.ensures)

pub returns-clause-in_range : goal.returns-clause-in_range
returns-clause-in_range c =
    let size = c.of_groups-size.ensures ∙ size_from_parts c.args.columns c.fits-columns.0 c.fits-columns.1 in
    let small : c.of_groups-size.result < 10 ^ 12 =
    rw size (plain_size_is_small c.args.columns c.fits-columns.0 c.requires) in
    let fits : SFits w64 c.with_sign.result = search rules in
    rw (to_z-of_z w64 c.with_sign.result fits, c.with_sign.ensures)
    (signed_in_range 14 c.of_groups-size.result _ small)
