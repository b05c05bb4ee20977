use Rattle.crx_compact.proofs.Vocabulary.{◌≡◌, ◌∙◌, ◌-◌, ◌*◌, ◌++◌, List, ℕ, ap, arith, drop, length, min}
use Rattle.crx_compact.proofs.Vocabulary.{replicate, take, length-take-le, take_at, columns}
use Rattle.crx_compact.proofs.{Marks.patched-kept, SoundTexts.columns-held}
use Rattle.std.proofs.lemmas.List.{take_min}
use Rattle.crx_text.proofs.Blanks.{columns_are}
use Rattle.crx_compact.proofs.satellite.patch_indicators.Goals as goal
use Rattle.std.proofs.lemmas.Grind.{common_steps}

put-columns : (all : ℕ) (old held text : List ℕ) (first : ℕ) → length old ≡ all → first ≡ min all (length
    text) → held ≡ take first text ++ replicate (length old - length (take first text)) 32 → held ≡ columns
    text 1 all
put-columns all old held text first many is put =
    cc (put, is, take_min all text, many, columns_are text 1 all)

pub returns : goal.returns
returns c =
    let all : ℕ = 2 * c.args.count in
    let before : List ℕ = take all c.args.indicators.now in
    let marks : List ℕ = c.args.marks.now in
    let many : length before ≡ all = length-take-le all c.args.indicators.now c.requires.fitting in
    let text = c.bytes-text.ensures.value ∙ c.in-Ok.ensures.ok in
    let same = c.put_flags.auto.held in
    let made = ap length text in
    let put = put-columns all before _ _ _ many c.min.ensures c.put_flags.ensures.put
    ∙ ap (λ (t : List ℕ). columns t 1 all) text in
    let whole = take_at c.put_flags.new.held (drop all c.args.indicators.now) all (omega (
      arith,
      many,
      same,
    )) in
    grind (arith, common_steps, before, marks, made, put, whole, columns-held, patched-kept)
