use Rattle.std.proofs.Common.{◌≡◌, ℕ, ◌+◌, ◌*◌, rules}
use Rattle.crx_header.proofs.Spelling.{put-there}
use Rattle.crx_header.specs.Identifiers.{index_of}
use Rattle.crx_header.proofs.identifiers.Identifiers.put.Goals.{in-32, in_default}
use Rattle.crx_header.proofs.identifiers.Identifiers.put.Goals as goal

pub returns-clause-put : goal.returns-clause-put
returns-clause-put c other is =
    let at : (c.saturating_sub-letter.result * 11 + c.match-character.tens) * 10
    + c.saturating_sub-units.result ≡ index_of c.args.name =
    elim c.match-character.branch [ in-32 w ↦ search rules | in_default w ↦ search rules ] in
    rw (← c.self.view_is, at) (put-there c.self.inside.there c.args.name other (search) c.requires.named is)
