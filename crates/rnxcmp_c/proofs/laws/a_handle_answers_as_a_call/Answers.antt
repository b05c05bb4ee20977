use Rattle.std.proofs.Common.{rules}
use Rattle.rnxcmp_c.proofs.{ReaderLemmas.{lawful-for, length-begins, one_more-first, output-for}, Vocabulary.◌≡◌}
use Rattle.rnxcmp_c.proofs.Vocabulary.{length, arith}
use Rattle.rnxcmp_c.proofs.Vocabulary.{result_for, Answer, fault_code_in, line_in, placed, rooms}
use Rattle.rnxcmp_c.proofs.Vocabulary.{status_in, handle_answer, run_for}
use Rattle.rnxcmp_c.specs.meaning.Answers.{ExceedsLimit}
use Rattle.rnxcmp_c.proofs.laws.a_handle_answers_as_a_call.Goals as goal

pub returns-clause-limit : goal.returns-clause-limit
returns-clause-limit c = λ task fed made kept answer call before after ended answers.
    let more : ExceedsLimit (run_for task).limit (result_for task fed).output =
    search (rules, output-for, one_more-first, lawful-for, length-begins, ended.is) in
    let over = (answers.over more).0 in
    let result = ended.result in
    let answered : answer ≡ handle_answer ended.result.status ended.result.fault kept =
    grind (arith, ended.ends, ended.is.result_is) in (
      more,
      cc (over, answered, ended.is.result_is),
      cc (over, answered, ended.is.result_is),
      cc (over, answered, ended.is.result_is),
    )

pub returns-clause-instance : goal.returns-clause-instance
returns-clause-instance c = λ task fed within.
    let result = result_for task fed in
    let made = rooms result.output result.messages in
    let call : Answer = record {
      line = line_in result.fault;
      output_length = length result.output;
      messages_length = length result.messages;
      status = status_in result (length result.output);
      code = fault_code_in result.fault;
    } in (
      made,
      handle_answer result.status result.fault made,
      call,
      made,
      rooms (placed result.output result.output) (placed result.messages result.messages),
      search rules,
      record {
        within = λ few. search rules;
        over = λ (more : ExceedsLimit (run_for task).limit _). absurd (omega (arith, within more.0, more.1));
      },
      omega arith,
    )
