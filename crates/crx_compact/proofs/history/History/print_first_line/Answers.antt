use Rattle.crx_compact.proofs.Vocabulary.{◌≡◌, ◌≤◌, sym, ap, ◌∙◌, arith, ℕ, List, length, take}
use Rattle.crx_compact.proofs.Vocabulary.{columns, HEAD_WIDTH}
use Rattle.crx_compact.proofs.Vocabulary.{OpenHistory, few_kept, length-columns, printed_head, shown_value}
use Rattle.crx_compact.proofs.Vocabulary.{tail_of_history, without_end_blanks}
use Rattle.crx_compact.proofs.{PrintedBlocks.{head-printed}, Vocabulary.rules}
use Rattle.crx_text.proofs.Blanks.{end_blanks-more}
use Rattle.crx_text.specs.meaning.Numbers as numbers
use Rattle.crx_compact.proofs.history.History.print_first_line.Goals as goal
use Rattle.std.proofs.lemmas.Grind.{common_steps}

-- the columns without the blanks at their end are no longer than the columns
few : (text line : List ℕ) → line ≡ without_end_blanks (columns text 1 HEAD_WIDTH) → length line ≤ 41
few text line is = omega (
  arith,
  ap length is,
  few_kept (columns text 1 HEAD_WIDTH),
  length-columns text 1 HEAD_WIDTH,
)

pub put-requires-clause-short : goal.put-requires-clause-short
put-requires-clause-short c =
    omega (
      arith,
      few (take c.self.inside.length c.self.inside.text) c.trim_end_columns.result.now
          c.trim_end_columns.ensures.value,
    )

pub returns-in_default : goal.returns-in_default
unfolding numbers.number_text
returns-in_default c =
    let clock = ap (λ (h : OpenHistory). shown_value h.clock) (sym c.self.view_is)
    ∙ sym c.in_default.ensures.value in
    let line = c.trim_end_columns.ensures.value ∙ ap (λ (h : OpenHistory). without_end_blanks (columns h.text 1
    HEAD_WIDTH)) c.self.view_is
    ∙ sym (end_blanks-more (columns c.args.self.now.text 1 HEAD_WIDTH) 15)
    ∙ ap (printed_head (columns c.args.self.now.text 1 HEAD_WIDTH)) (sym clock) in
    grind (arith, common_steps, line, head-printed 0 (tail_of_history c.args.self.now))

pub returns : goal.returns
returns c = record { printed = search (rules, head-printed) }
