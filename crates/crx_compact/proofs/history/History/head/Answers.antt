use Rattle.crx_compact.proofs.Vocabulary.{ap, ◌∙◌, ◌≡◌, columns, HEAD_WIDTH, Epoch}
use Rattle.crx_compact.proofs.{Vocabulary.{OpenHistory}, ShownEpochs.{line-made, made-line}}
use Rattle.std.proofs.Common.{is_some, arith}
use Rattle.crx_compact.proofs.history.History.head.Goals as goal
use Rattle.std.proofs.lemmas.Grind.{common_steps}

pub unwrap-requires : goal.unwrap-requires
unwrap-requires c =
    let same : c.padded.result ≡ columns c.args.self.now.text 1 HEAD_WIDTH =
    c.padded.ensures.value ∙ ap (λ t. columns t 1 HEAD_WIDTH) (ap (λ (t : OpenHistory). t.text)
    c.self.view_is) in
    grind (arith, common_steps, same, line-made, is_some)

pub returns-clause-head : goal.returns-clause-head
returns-clause-head c =
    ap (λ (e : Epoch). e.head) (made-line c.new.result c.padded.result c.value.result
    c.new.ensures.value c.unwrap.ensures)
    ∙ c.padded.ensures.value ∙ ap (λ t. columns t 1 HEAD_WIDTH) (ap (λ (t : OpenHistory). t.text)
    c.self.view_is)

pub returns-clause-clock : goal.returns-clause-clock
returns-clause-clock c = grind (arith, common_steps, made-line)
