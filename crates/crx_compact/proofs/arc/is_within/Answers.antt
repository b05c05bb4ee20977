use Rattle.std.proofs.{Common.{◌≤◌, ◌^◌, arith}, Math.Nat.pow-le-pow_right, lemmas.Int.ints}
use Rattle.crx_compact.proofs.arc.is_within.Goals as goal
use Rattle.crx_compact.proofs.Vocabulary.{rules}

pub pow-lowest-requires : goal.pow-lowest-requires
pow-lowest-requires c =
    let few : c.saturating_sub.result ≤ 15 = omega arith in
    let high : 10 ^ c.saturating_sub.result ≤ 10 ^ 15 = search (rules, pow-le-pow_right) in
    omega (arith, ints, high)

pub pow-highest-requires : goal.pow-highest-requires
pow-highest-requires c =
    let few : c.saturating_sub-2.result ≤ 15 = omega arith in
    let high : 10 ^ c.saturating_sub-2.result ≤ 10 ^ 15 = search (rules, pow-le-pow_right) in
    omega (arith, ints, high)
