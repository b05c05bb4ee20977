use Rattle.std.proofs.{lemmas.Simd.{take_more_put_chunk, length-chunk, length-zip2}}
use Rattle.crx_text.proofs.LaneTexts.{zip2-chunk}
use Rattle.crx_text.proofs.lanes.write_lanes.Goals as goal

pub returns-clause-written : goal.returns-clause-written
returns-clause-written g c =
    search (
      length-zip2,
      c.requires.same_length.0,
      c.apply_to.ensures.value,
      zip2-chunk,
      length-chunk,
      take_more_put_chunk,
      c.requires.same_length.1,
    )
