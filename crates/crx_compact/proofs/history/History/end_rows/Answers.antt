use Rattle.crx_compact.proofs.Vocabulary.{rules, ◌≡◌, ◌++◌, ◌+◌, ◌*◌, List, ℕ, ap, ◌∙◌, sym, without_end_blanks}
use Rattle.crx_compact.proofs.Vocabulary.{text_difference, take, length, arith, code_text}
use Rattle.crx_compact.proofs.Vocabulary.{code_of_value, epoch_text, flat_map}
use Rattle.crx_compact.proofs.Vocabulary.{OpenHistory, Row, RowTail, row_tail_in}
use Rattle.crx_compact.proofs.{Vocabulary.{epoch_by_rows}, SoundTexts.difference-trimmed}
use Rattle.crx_compact.proofs.{OneByOne.ok-unless}
use Rattle.std.proofs.lemmas.List.Folds.{flat_map-map}
use Rattle.crx_text.proofs.CodeTexts.{code_text_length}
use Rattle.crx_compact.proofs.wayback.LinesInFiles.{difference-length}
use Rattle.crx_compact.proofs.history.History.end_rows.Goals.{After-bytes-2}
use Rattle.crx_compact.proofs.history.History.end_rows.Goals as goal
use Rattle.std.proofs.lemmas.Grind.{common_steps}

-- an empty text has space for a coded value
pub unwrap-requires : goal.unwrap-requires
unwrap-requires c = search (rules, ok-unless, code_text_length)

-- the first lines are at most as long as an epoch text
pub put_front-requires-clause-short : goal.put_front-requires-clause-short
put_front-requires-clause-short c = search (rules, code_text, c.bytes.ensures.value, code_text_length)

-- the difference of two epochs' texts
marks : (c : After-bytes-2) → c.bytes-2.result.now
    ≡ text_difference (take c.self.inside.length c.self.inside.text) c.trim_end-next_text.result.now
marks c = grind (arith, common_steps)

-- the new text is at most as long as an epoch text
pub put_front-requires-2-clause-short : goal.put_front-requires-2-clause-short
put_front-requires-2-clause-short c = grind (arith, difference-length 3038)

-- the rows of an epoch that has ended, and its text
pub returns-clause-written : goal.returns-clause-written
returns-clause-written c = λ after rows written.
    let head = c.args.head.now in
    let whole = epoch_text (epoch_by_rows head rows) in
    let width = ap (λ (t : List ℕ). length t) c.columns.ensures.value ∙ c.columns.ensures.sound.width in
    let first =
    ap (λ n. take n c.put_first.new.bytes) (sym width) ∙ c.put_first.ensures ∙ c.columns.ensures.value in
    let named = ap (λ (h : OpenHistory). h.satellites.rows) c.self.view_is in
    let is = named ∙ written.rows_after in
    let counted =
    c.count.ensures.value ∙ sym c.requires.counted ∙ ap (λ (rs : List RowTail). length rs) (sym named) in
    let names : flat_map (λ (row : RowTail). row.name) c.self.inside.satellites.rows
    ≡ flat_map (λ (row : Row). row.name) rows =
    search (rules, flat_map-map, row_tail_in, is) in
    let text : c.trim_end-next_text.result.now ≡ without_end_blanks whole =
    c.trim_end-next_text.ensures.value
    ∙ ap (λ n. without_end_blanks (take (41 + 3 * n) c.put_names.new.text)) counted
    ∙ ap without_end_blanks (c.put_names.ensures ∙ (λ j. first j ++ names j)) in
    let clock = ap (λ (h : OpenHistory). h.clock) c.self.view_is ∙ written.clock in
    let before = ap (λ (h : OpenHistory). h.text) c.self.view_is ∙ written.text in
    let first : c.bytes-2.result.now ≡ text_difference after.text whole =
    marks (goal.at.returns-clause-written c).After-bytes-2 ∙ (λ j. text_difference (before j) (text j))
    ∙ difference-trimmed after.text whole in
    let code = c.push.ensures.code ∙ (λ j. code_of_value (c.clock.ensures.value j) (clock j)) in
    search (rules, c.put_first-2.ensures, c.put_front-2.ensures.lines, c.put_front.ensures.lines)
