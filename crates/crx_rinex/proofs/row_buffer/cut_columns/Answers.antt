use Rattle.std.proofs.Common.{◌≡◌, ℕ, ◌+◌, ◌-◌, ◌*◌, ◌/◌, ◌%◌, length, take, drop, ap, sym, ◌∙◌, arith}
use Rattle.std.proofs.lemmas.List.{length-drop, length-take, length-take-le}
use Rattle.crx_base.specs.Padded.{line_in}
use Rattle.crx_text.specs.meaning.Columns.{columns}
use Rattle.crx_rinex.proofs.Cells.{cut_columns, field_columns}
use Rattle.crx_rinex.proofs.row_buffer.cut_columns.Goals as goal

pub returns-then-left-eq-OBSERVATION_WIDTH : goal.returns-then-left-eq-OBSERVATION_WIDTH
returns-then-left-eq-OBSERVATION_WIDTH c =
    let line = line_in c.args.line in
    let bytes = c.padded.result.now in
    let n : ℕ = c.saturating_sub-after_name.result in
    let is : n ≡ length line - 3 = omega (arith, c.saturating_sub-after_name.ensures, c.len.ensures.value) in
    let field : n % 16 ≡ 14 = c.if-left-eq-OBSERVATION_WIDTH.true in
    let place : ℕ = n - n % 16 + 3 in
    let start : 16 * ((length line - 3) / 16) + 3 ≡ place = omega (arith, is) in
    field_columns (take 16 (take (length bytes - place) (drop place bytes)))
    (length-take-le 16 (take (length bytes - place) (drop place bytes)) (omega (
      arith,
      is,
      c.padded.ensures.room,
      length-take (length bytes - place) (drop place bytes),
      length-drop place bytes,
    )))
    ∙ cut_columns line bytes place 14 c.padded.ensures.line (omega (arith, is, c.padded.ensures.room))
    (omega (arith, is)) (omega (arith, is, field)) ∙ ap (λ first. columns line (first + 1) 16) (sym start)

pub returns : goal.returns
returns c =
    let line = line_in c.args.line in
    let n : ℕ = c.saturating_sub-after_name.result in
    let is : n ≡ length line - 3 = omega (arith, c.saturating_sub-after_name.ensures, c.len.ensures.value) in
    let start : 16 * ((length line - 3) / 16) + 3 ≡ n - n % 16 + 3 = omega (arith, is) in
    cut_columns line c.padded.result.now (n - n % 16 + 3) (n % 16) c.padded.ensures.line
    (omega (arith, is, c.padded.ensures.room)) (omega (arith, is)) (omega (arith, is))
    ∙ ap (λ first. columns line (first + 1) 16) (sym start)
