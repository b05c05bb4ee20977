use Rattle.crx_compact.proofs.Vocabulary.{◌≡◌, tail_of_history, shown_epoch}
use Rattle.crx_compact.proofs.history.History.epoch.Given as goal

-- the rows up to an index are put into the epoch
abbrev pub invariant-loop-index : goal.invariant-loop-index
invariant-loop-index l = l.epoch ≡ shown_epoch (tail_of_history l.self) l.index
