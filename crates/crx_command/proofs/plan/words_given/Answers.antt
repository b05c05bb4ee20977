use Rattle.std.proofs.{Common.{◌∙◌, ap}, lemmas.Iterator.Adapters.{YieldsList-from_skip, YieldsList-from_vec}}
use Rattle.std.{specs.Vec.Iter.{into_iter_items, into_iter_len}, proofs.lemmas.Iterator.items_from_collect}
use Rattle.crx_command.proofs.plan.words_given.Goals as goal

pub returns : goal.returns
returns c = record {
  words = items_from_collect c.collect.result c.collect.ensures.ran (YieldsList-from_skip 1
      (YieldsList-from_vec (into_iter_items c.args.arguments) (ap into_iter_items c.skip.ensures.source)
      (ap into_iter_len c.skip.ensures.source ∙ c.args.arguments.rest.ok.0)) c.skip.ensures.count);
}
