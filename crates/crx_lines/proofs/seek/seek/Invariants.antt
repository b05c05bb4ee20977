use Rattle.std.{proofs.Common.{◌≡◌}, specs.List.Contains}
use Rattle.crx_lines.specs.{Seeking.Seeking, Window.kept}
use Rattle.crx_lines.proofs.seek.seek.Given as goal

abbrev pub invariant-seeking : goal.invariant-seeking
invariant-seeking g l =
    Seeking (λ given. g.R.Source.gave l.initial.reader given l.reader) (kept l.initial.window) (kept l.window)
    l.before l.room l.passed l.searched
    × (g.R.Source.failures l.reader ≡ g.R.Source.failures l.initial.reader)
    × (g.R.Source.ends l.reader ≡ g.R.Source.ends l.initial.reader) ×
    (Contains (kept l.initial.window) 10 → l.reader ≡ l.initial.reader)

abbrev pub decreases-seeking : goal.decreases-seeking
decreases-seeking g l = l.room
