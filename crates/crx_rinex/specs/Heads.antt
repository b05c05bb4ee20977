-- The reading of a line where an epoch may begin: RINEX 3.05, table A3, EPOCH record.
use Rattle.crx_rinex.specs.meaning.EpochLines.{HeadLine, EventHead, EpochHead}
use Rattle.crx_rinex.specs.declared.epoch_line.Head.{Head}
use Rattle.crx_rinex.specs.declared.epoch_line.Head.TheVariants.{Event, Epoch}

-- an event with its flag and the count of its records, or an observation epoch with the parts of its line
abbrev pub head_line : Head → HeadLine
head_line (Event flag count) = EventHead flag count
head_line (Epoch line) = EpochHead line.head line.count line.clock
