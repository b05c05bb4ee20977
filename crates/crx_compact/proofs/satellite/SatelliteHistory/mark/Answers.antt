use Rattle.crx_compact.proofs.Vocabulary.{rules, length-each_place, length-take-le}
use Rattle.crx_compact.proofs.CellsFor.{cells-again}
use Rattle.crx_compact.proofs.SoundTexts.{before-trimmed, same-text}
use Rattle.crx_compact.proofs.satellite.SatelliteHistory.mark.Goals as goal

pub returns-then-is_same_text : goal.returns-then-is_same_text
returns-then-is_same_text c =
    search (rules, before-trimmed, same-text, length-take-le, cells-again, length-each_place)
