use Rattle.std.proofs.{Common.{◌≡◌, eqb, false}, lemmas.{Bool.ne_eqb}}
use Rattle.crx_text.proofs.LaneWords.{kept_lanes, printable_lanes}
use Rattle.crx_text.proofs.lanes.with_others.Goals as goal

pub returns-then-not-this : goal.returns-then-not-this
returns-then-not-this g c = record {
  both = rw c.if-not-this.true (printable_lanes c.args.characters c.fits-characters.0 c.args.others
      c.fits-others.0 c.fits-characters.1);
}

pub returns : goal.returns
returns g c =
    let is : eqb g.row.IS_TEXT 0 ≡ false = ne_eqb _ _ c.if-not-this.false in record {
      both = rw is (kept_lanes c.args.characters c.fits-characters.0 c.args.others c.fits-others.0
          c.fits-characters.1);
    }
