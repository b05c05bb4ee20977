use Rattle.std.proofs.Common.{rules}
use Rattle.rnxcmp_c.proofs.EndedLemmas.{KeepsPromises, keeps-promises}
use Rattle.rnxcmp_c.proofs.RunLemmas.{answers-alone, take-enough}
use Rattle.rnxcmp_c.proofs.PromisesOfCalls.{zero-answered}
use Rattle.crx_filter.proofs.anywriter.AcceptedTexts.{only-text}
use Rattle.rnxcmp_c.proofs.{RunLemmas.answers-within, Vocabulary.{◌≤◌, length, map, refl, subst, sym, ap, ◌∙◌}}
use Rattle.rnxcmp_c.proofs.Vocabulary.{INPUT_LIMIT, lines_of, as_read, whole_compact, FilterResult, AnswersWithin}
use Rattle.rnxcmp_c.proofs.Vocabulary.{Choices, HasNoMemory, rooms, Expand}
use Rattle.rnxcmp_c.proofs.{exports.rnxcmp_c_expand.Goals.After-answer_of}
use Rattle.crx_filter.specs.meaning.{ByResults.ExpansionKeeps, Expanded.expanded_unit, Written.result_of}
use Rattle.rnxcmp_c.proofs.exports.rnxcmp_c_expand.Goals as goal

-- the call returned this result, and copied its texts into the caller's buffers
abbrev Has : After-answer_of → FilterResult → Type 0
Has c whole = AnswersWithin c.args.max_output whole c.answer_of.result
    (rooms c.args.output.now c.args.messages.now) (rooms c.answer_of.new.output_room
    c.answer_of.new.messages_room)

promised : (c : After-answer_of) → length c.args.input.now ≤ INPUT_LIMIT →
    (HasNoMemory c.answer_of.result → ⊥)
    → KeepsPromises (Has c) c.in-Ok.options c.args.input.now
promised c within memory =
    let run = c.expand-outcome.ensures.runs in
    keeps-promises (Has c) _ _ (answers-within (Expand c.in-Ok.options 0) run.2
    (sym c.new-reader.ensures ∙ run.1)
    within (rooms _ _) (rooms _ _) c.new-written.ensures c.new-reported.ensures c.answer_of.ensures memory)

pub answer_of-requires : goal.answer_of-requires
answer_of-requires c = take-enough (Expand c.in-Ok.options 0) c.expand-outcome.ensures.runs.2
    c.new-written.ensures
    c.new-reported.ensures refl refl

-- of the options only `skip` matters
pub returns : goal.returns
returns c =
    let a = (goal.at.returns c).After-answer_of in
    let kept = promised a in
    let skipping = ap (λ (o : Choices). o.skip) c.in-Ok.ensures.value.0 in record {
      long = search rules;
      memory = answers-alone c.answer_of.ensures;
      runs = λ choices same within memory. subst (λ skip. Has a
          (result_of expanded_unit (whole_compact skip (map as_read (lines_of c.args.input.now)))))
          (skipping ∙ sym same) (kept within memory).whole;
      lossless = λ within memory. (kept within memory).lossless;
      any_writer = λ within memory. (kept within memory).any_writer;
      no_other = λ within memory e. only-text c.args.input.now c.in-Ok.options
          (zero-answered c.args.max_output _ c.answer_of.result _ _ (kept within memory).whole e);
      way_back = λ within memory. (kept within memory).way_back;
      salvage = λ skips within memory. (kept within memory).salvage (skipping ∙ skips);
      damage = λ skips within memory. (kept within memory).damage (skipping ∙ skips);
      whole_units = λ within memory. (kept within memory).whole_units;
      keeps = λ within memory. subst (λ skip. ExpansionKeeps (Has a) skip c.args.input.now) skipping
          (kept within memory).keeps;
    }
