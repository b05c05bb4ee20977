use Rattle.crx_compact.specs.OpenEpochs.{tail_held}
use Rattle.crx_laws.proofs.reading.BorrowedLines.{back-given, back-refused}
use Rattle.crx_laws.proofs.read_back.read_back.Goals as goal

pub returns-clause-epoch : goal.returns-clause-epoch
returns-clause-epoch c = λ m older h e k. back-given c.read_coded.result c.args.types.now
    (tail_held c.args.columns.now)
    c.args.coded.now.lines c.read_coded.new.columns m older c.read_coded.ensures.given h e k

pub returns-clause-refused : goal.returns-clause-refused
returns-clause-refused c = λ m older h e k. back-refused c.read_coded.result c.args.types.now
    (tail_held c.args.columns.now) c.args.coded.now.lines m older c.read_coded.ensures.refused h e k
