use Rattle.crx_compact.proofs.soundness.Soundness.{reads-soundly}
use Rattle.crx_compact.proofs.reading.RawTailing.{place-by_tail, left-by_tail}
use Rattle.crx_laws.proofs.compact_reading.tail_decides.Goals as goal

pub returns : goal.returns
returns c = record {
  law = λ types older lines. record {
    place = place-by_tail types older lines;
    next = λ read count e.
        left-by_tail read.raw older (reads-soundly types older lines read count e).single;
  };
}
