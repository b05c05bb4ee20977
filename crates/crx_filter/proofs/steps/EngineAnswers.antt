-- From the steps of an engine of either direction to the answers of every engine, and to the lines taken.
use Rattle.crx_filter.proofs
use proofs.Vocabulary.{common_steps, arith, ℕ, ◌≡◌, inl, inr, ◌+◌, true}
use proofs.Vocabulary.{false, List, [], ◌∷◌, map, length, Some, None}
use proofs.Vocabulary.{Result, Ok, Err, refl, ap, sym, subst, ◌∙◌, append-nil, ◌≤◌, rules, and_parts, reverse}
use proofs.Vocabulary.{InputLine, is_long, ReadLine, Content, Overlong, as_read, At, LINE_LIMIT}
use proofs.Vocabulary.{Choices, step_made, Steps, is_again, fed_once, fed_twice, fed, LookingOn}
use proofs.Vocabulary.{RunState, Direction, Made, Rejects, Notice, LineStep, made_in, is_in_epoch}
use proofs.Vocabulary.{is_skipped_in, step_of_made, state_next, can_go_on, ◌++◌}
use proofs.Vocabulary.{by_bool, Completes, answer_of_step, noticed_by, false-true}
use proofs.Vocabulary.{failed_by, Phase}
use Rattle.std.specs.Prelude.{IfOk, Bool, ◌&&◌}
use Rattle.crx_filter.specs.DirectionParts.{EngineParts, IsAfterLines, ComesAfter}
use Rattle.crx_filter.specs.EngineLaws.{GoesLineByLine, IsLawfulDirection}
use Rattle.crx_filter.specs.{EngineLines.HasTaken, EngineSteps.out_of_memory}
use Rattle.crx_filter.specs.EngineState.{EngineGoes, KnowsAfter, TakesEnd, TakesLine}
use Rattle.crx_filter.specs.EngineState.{engine_seen, engine_state, engine_took}
use Rattle.std.proofs.Common.{append_assoc}
use Rattle.crx_filter.specs.{Laws.{Fed, is_ready}, LineByLine.{Answer, Failed, state_end_with}}
use Rattle.crx_filter.specs.declared.direction.Direction.{Ghosts}
use Rattle.crx_runs.specs.Engines.{Awaited, IsAwaited, awaited_notices, EngineAnswers}
use Rattle.crx_runs.specs.{declared.engine.Step.{Step, TheVariants.Warned}, meaning.Filters.Filter}
use Rattle.crx_filter.specs.{LineByLine.noticed_again, Memory.may_reserve}
use proofs.ReadyLines.{again-lines, quiet-next, taken-either}
use proofs.steps.StepCounts.{steps-choices}
use proofs.following.Agreement.{fed-once as feeds-once, fed-twice as feeds-twice, failed-ends, failed-skipped}

-- ---- a line that is fed again

-- a line that is to be fed again is in an epoch whose fault is skipped, and one is looked for then
pub record ComesAgain {U O K : Type 0} (direction : Direction U O K) (before next : RunState O K)
    (line : ReadLine) : Type 0 where
  pub skips : before.choices.skip ≡ true
  pub epoch : is_in_epoch before.phase ≡ true
  pub fits : can_go_on line ≡ true
  pub phase : next.phase ≡ LookingOn
  pub number : next.number ≡ before.number
  pub choices : next.choices ≡ before.choices
  pub types : next.types ≡ before.types
  pub kept : next.kept ≡ direction.emptied before.kept

again-by-made : {U O K : Type 0} (direction : Direction U O K)
    (before next : RunState O K) (line : ReadLine) (at : At) (handed_out : List (List ℕ)) (made : Made U O)
    → record { answer = Notice at true; handed_out = handed_out; next = next }
    ≡ step_of_made direction before line made → ComesAgain direction before next line
again-by-made direction before next line at handed_out (Rejects fault) e =
    by_bool (is_skipped_in before fault)
    (λ on. grind (arith, common_steps, e, failed-skipped direction before line fault on, and_parts))
    (λ off. grind (arith, common_steps, e, failed-ends direction before line fault off))
again-by-made direction before next line at handed_out (Completes unit) e =
    grind (arith, common_steps, e, again-lines (direction.written before unit))
again-by-made direction before next line at handed_out made e = grind (arith, common_steps)

pub comes-again : {U O K : Type 0}
    (direction : Direction U O K) (before next : RunState O K) (line : ReadLine) (at : At)
    (handed_out : List (List ℕ)) → record { answer = Notice at true; handed_out = handed_out; next = next }
    ≡ state_next direction before line → ComesAgain direction before next line
comes-again direction before next line at handed_out e = again-by-made direction before next line at
    handed_out (made_in direction before.phase before.types before.kept line) e

-- ---- a line at which memory may run out

reserves-stay : {O : Type 0} (first next : Bool) (phase : Phase O) (line : ReadLine)
    → may_reserve first next phase line ≡ true → (is_in_epoch phase && can_go_on line) ≡ false
reserves-stay first next phase line may = grind (arith, common_steps)

once-again : (answer : Answer) → is_again answer ≡ false → noticed_again answer ≡ []
once-again answer e = grind (arith, common_steps)

-- ---- one answer

noticed-last : (answer : Answer) (next : At)
    → reverse (noticed_by answer ++ next ∷ []) ≡ (next ∷ []) ++ noticed_by answer
noticed-last (Notice at again) next = refl
noticed-last answer next = refl

failed-is : (result : Result Step At) (at : At) → answer_of_step result ≡ Failed at → result ≡ Err at
failed-is result at is = grind (arith, common_steps)

module _ {U O K : Type 0} {direction : Direction U O K} {lines_at_end_after : List InputLine → List (List ℕ)}
    {state_after_lines : List ReadLine → RunState O K} {filter : Filter}
    (goes : GoesLineByLine direction lines_at_end_after state_after_lines filter)
    (has_ended : List InputLine → Type 0) where
  -- ---- a line that is fed once, or again

  fed-once : (before : RunState O K) (line : ReadLine) (step : LineStep O K) → step ≡ state_next direction
      before line → is_again step.answer ≡ false → fed direction before line ≡ fed_once step
  fed-once before line step e once = grind (arith, common_steps, feeds-once, is_again, fed_once)

  fed-again : (before : RunState O K) (line : ReadLine) (step : LineStep O K) → step
      ≡ state_next direction before line → is_again step.answer ≡ true → fed direction before line
      ≡ fed_twice step (state_next direction step.next line)
  fed-again before line step e again =
      grind (arith, common_steps, feeds-twice, is_again, fed_twice, state_next)

  module _ (lines : List InputLine) (line : InputLine) where
    abbrev first : RunState O K
    first = state_after_lines (map as_read lines)

    module _ (shows : List InputLine → List Awaited → Type 0) (now : RunState O K) (ready : List (List ℕ))
        (showing : (ls : List InputLine) (ns : List Awaited) → HasTaken direction state_after_lines now ls ns
        → shows ls ns) where
      -- the answer if the line was fed so and isn't fed again
      fed-answers : (notices : List Awaited) (warned : List At) (result : Result Step At)
          → fed direction first (as_read line) ≡ record {
            warned = warned;
            failed = failed_by (answer_of_step result);
            handed_out = ready;
            next = now;
          } → reverse warned ≡ awaited_notices notices ++ noticed_by (answer_of_step result)
          → is_again (answer_of_step result) ≡ false → (is_ready (answer_of_step result) ≡ false → ready ≡ [])
          → EngineAnswers filter shows has_ended ready lines notices (Some line) result
      fed-answers notices warned result e noted once quiet =
          grind (arith, common_steps, append-nil)

      first-time : (result : Result Step At) → step_made result ready now ≡ state_next direction first
          (as_read line) → EngineAnswers filter shows has_ended ready lines [] (Some line) result
      first-time (Ok (Warned next true)) s =
          let made = step_made (Ok (Warned next true)) ready now in
          let second = (state_next direction now (as_read line)).answer in
          let none : ready ≡ [] = quiet-next direction first (as_read line) made s refl in
          let before = (filter.so_far lines).warnings in
          let added = (goes.follows lines line).warnings ∙ ap (λ (f : Fed O K). before ++ reverse f.warned)
          (fed-again first (as_read line) made s refl)
          ∙ ap (λ (ws : List At). before ++ ws) (noticed-last second
          next) ∙ sym (append_assoc before (next ∷ []) (noticed_by second)) in
          (showing lines _ (rw none at s), refl, (noticed_by second, added))
      first-time result s = fed-answers [] (noticed_by (answer_of_step result)) result
          (fed-once first (as_read line) (step_made result ready now) s refl) refl refl
          (quiet-next direction first (as_read line) (step_made result ready now) s)

      second-time : (notice : At) (before : RunState O K) (result : Result Step At) → record
          { answer = Notice notice true; handed_out = []; next = before } ≡ state_next direction first
          (as_read line) → step_made result ready now ≡ state_next direction before (as_read line) →
          EngineAnswers filter shows has_ended ready lines (record { notice = notice; line = line } ∷ [])
          (Some line) result
      second-time notice before (Ok (Warned next true)) one s =
          let again = comes-again direction before now (as_read line) next ready s in
          let looking = comes-again direction first before (as_read line) notice [] one in
          false-true (sym (ap is_in_epoch looking.phase) ∙ again.epoch)
      second-time notice before result one s =
          let step : LineStep O K = record { answer = Notice notice true; handed_out = []; next = before } in
          fed-answers (record { notice = notice; line = line } ∷ [])
          (noticed_by (answer_of_step result) ++ notice ∷ []) result
          (fed-again first (as_read line) step one refl
          ∙ ap (λ (two : LineStep O K). fed_twice step two) (sym s)) refl refl
          (quiet-next direction before (as_read line) (step_made result ready now) s)

  -- an engine's own step is an answer
  answers-step : (shows : List InputLine → List Awaited → Type 0) (before now : RunState O K)
      (lines : List InputLine) (notices : List Awaited) (line : InputLine) (ready : List (List ℕ))
      (result : Result Step At)
      → ((ls : List InputLine) (ns : List Awaited) → HasTaken direction state_after_lines now ls ns → shows ls
      ns) → HasTaken direction state_after_lines before lines notices → IsAwaited notices line
      → step_made result ready now ≡ state_next direction before (as_read line)
      → EngineAnswers filter shows has_ended ready lines notices (Some line) result
  answers-step shows before now lines notices line ready result showing taken awaited e =
      elim (taken-either direction state_after_lines before lines notices line taken awaited) as
      (λ _. EngineAnswers filter shows has_ended ready lines notices (Some line) result) [
        | inl h ↦ rw h.0 (first-time lines line shows now ready showing result (subst (λ (s : RunState O K).
            step_made result ready now ≡ state_next direction s (as_read line)) h.1 e))
        | inr h ↦ rw h.1 (second-time lines line shows now ready showing h.0 before result h.2 e)
      ]

  quiet-there : (state : RunState O K) (line : ReadLine) (made : Made U O)
      → (is_in_epoch state.phase && can_go_on line) ≡ false
      → is_again (step_of_made direction state line made).answer ≡ false
  quiet-there state line made e = grind (arith, common_steps)

  -- a line at which memory may run out isn't fed again
  reserves-once : (first next : Bool) (before : RunState O K) (line : ReadLine) → may_reserve first next before.phase
      line ≡ true → noticed_again (state_next direction before line).answer ≡ []
  reserves-once first next before line may = once-again (state_next direction before line).answer
      (quiet-there before line (made_in direction before.phase before.types before.kept line)
      (reserves-stay first next before.phase line may))

  -- memory that ran out is one
  answers-lost : (shows : List InputLine → List Awaited → Type 0) (before now : RunState O K)
      (lines : List InputLine) (notices : List Awaited) (line : InputLine) (ready : List (List ℕ))
      (result : Result Step At) → HasTaken direction state_after_lines before lines notices
      → IsAwaited notices line → may_reserve direction.reserves_first direction.reserves_next before.phase (as_read line) ≡ true
      → step_made result ready now ≡ out_of_memory direction before
      → EngineAnswers filter shows has_ended ready lines notices (Some line) result
  answers-lost shows before now lines notices line ready result taken awaited allowed made =
      let is = failed-is result _ (ap (λ (s : LineStep O K). s.answer) made) in
      elim (taken-either direction state_after_lines before lines notices line taken awaited) as
      (λ _. EngineAnswers filter shows has_ended ready lines notices (Some line) result) [
        | inl h ↦
            let same = ap (λ (s : RunState O K). s.number) h.1 ∙ goes.number lines in
            rw (h.0, is) (inl (
              refl,
              ap (λ n. n + 1) same,
              goes.cut lines line ∙ ap Some (reserves-once _ _ _ (as_read line)
                  (subst (λ (s : RunState O K). may_reserve direction.reserves_first direction.reserves_next s.phase
                  (as_read line) ≡ true) h.1 allowed)),
            ))
        | inr h ↦
            let again = comes-again direction (state_after_lines (map as_read lines)) before _ h.0 [] h.2 in
            let same = again.number ∙ goes.number lines in
            rw (h.1, is)
            (inl (
              refl,
              ap (λ n. n + 1) same,
              goes.cut lines line
                  ∙ ap (λ (s : LineStep O K). Some (noticed_again s.answer)) (sym h.2),
            ))
      ]

  -- ---- the end of the input

  concludes : (shows : List InputLine → List Awaited → Type 0) (before now : RunState O K)
      (lines : List InputLine) (ready : List (List ℕ)) (result : Result Step At)
      → HasTaken direction state_after_lines before lines []
      → step_made result ready now ≡ state_end_with direction (lines_at_end_after lines) before
      → IfOk result (λ step. has_ended lines) → EngineAnswers filter shows has_ended ready lines [] None
      result
  concludes shows before now lines ready result taken e ended =
      grind (arith, common_steps, goes.ends, append-nil)

-- ---- lines as they are seen

pub as-read-long : (line : InputLine) → is_long line ≡ true → as_read line ≡ Overlong
as-read-long line e = rw e refl

pub as-read-short : (line : InputLine) → is_long line ≡ false → as_read line ≡ Content line.content
as-read-short line e = rw e refl

pub short-line : (line : InputLine) → length line.content ≤ LINE_LIMIT → is_long line ≡ false
short-line line h = search (rules, h)

pub as-read-within : (line : InputLine) (bytes : List ℕ)
    → length line.content ≤ LINE_LIMIT → bytes ≡ line.content → as_read line ≡ Content bytes
as-read-within line bytes h e = grind (arith, common_steps, as-read-short, short-line)

-- ---- an engine with its options

module _ {U O K : Type 0} {direction : Direction U O K} {lines_at_end_after : List InputLine → List (List ℕ)}
    {state_after_lines : List ReadLine → RunState O K} {filter : Filter}
    (goes : GoesLineByLine direction lines_at_end_after state_after_lines filter) where
  -- an engine that has taken some lines has counted these lines
  pub taken-lines : (now : RunState O K) (lines : List InputLine) (notices : List Awaited)
      → HasTaken direction state_after_lines now lines notices → now.number ≡ length lines
  taken-lines now lines [] taken = ap (λ (s : RunState O K). s.number) taken ∙ goes.number lines
  taken-lines now lines (a ∷ []) taken = (comes-again direction (state_after_lines (map as_read lines)) now
      (as_read a.line) a.notice [] taken).number ∙ goes.number lines
  taken-lines now lines (a ∷ b ∷ others) taken = absurd taken

-- an answer shows the notes, too
answers-known : (knows : List InputLine → Type 0) (lines : List InputLine) (line : InputLine) (filter :
    Filter) (shows : List InputLine → List Awaited → Type 0) (has_ended : List InputLine → Type 0)
    (ready : List (List ℕ)) (notices : List Awaited) (result : Result Step At) → KnowsAfter knows lines line
    result
    → EngineAnswers filter shows has_ended ready lines notices (Some line) result
    → EngineAnswers filter (λ ls ns. shows ls ns × knows ls) has_ended ready lines notices (Some line) result
answers-known knows lines line filter shows has_ended ready notices result known answers =
    grind (arith, common_steps)

-- an engine follows its filter if its direction does
pub goes-on : {D : Type 0} (d : Ghosts D) (e : EngineParts D) → d.options_used e.options ≡ e.options
    → IsLawfulDirection d.by_line d.options_used d.lines_at_end_after d.state_after_lines d.filter
    → EngineGoes d e
goes-on d e chosen lawful = record { chosen = chosen; lawful = lawful e.options chosen }

module _ {D : Type 0} (d : Ghosts D) (before : EngineParts D) (goes : EngineGoes d before) where
  -- an engine that has taken some lines is in the state after them
  after-lines : (lines : List InputLine) → engine_took d before lines []
      → IsAfterLines d.options_used d.state_after_lines before.options lines (d.parts before.direction)
  after-lines lines took = grind (arith, common_steps, taken-lines goes.lawful, goes.chosen)

  -- and takes the next one
  given-line : (lines : List InputLine) (notices : List Awaited) (line : InputLine)
      → engine_took d before lines notices → IsAwaited notices line
      → ComesAfter d.by_line d.options_used d.state_after_lines before.options lines line (d.parts before.direction)
  given-line lines notices line took awaited = grind (arith, common_steps, taken-lines)

-- the answer to a line that an engine took is as its filter says, or memory ran out
pub line-answered : {D : Type 0} (d : Ghosts D) (before after : EngineParts D) (has_ended : List InputLine →
    Type 0) {ready : List (List ℕ)} (line : InputLine) (read : ReadLine) (result : Result Step At) → as_read
    line ≡ read
    → TakesLine d before line read result ready after → (lines : List InputLine) (notices : List Awaited)
    → engine_took d before lines notices → IsAwaited notices line
    → EngineAnswers (d.filter before.options) (engine_took d after) has_ended ready lines notices (Some line)
    result
line-answered d before after has_ended {ready = ready} line read result is takes lines notices took awaited =
    answers-known (d.notes_are_right after.direction after.options) lines line (d.filter before.options)
    (engine_seen d after) has_ended ready notices result
    (subst (λ (c : Choices). KnowsAfter (d.notes_are_right after.direction c) lines line result) (sym same)
    (takes.notes lines (taken-lines takes.goes.lawful (engine_state d before) lines notices took.0)
    (given-line d before takes.goes lines notices line took awaited) took.1)) (answered takes.steps)
  where
    same : after.options ≡ before.options
    same = steps-choices d.by_line (engine_state d before) (engine_state d after) read ready result
        takes.steps

    answered : Steps d.by_line (engine_state d before) read result
        ready (engine_state d after) → EngineAnswers (d.filter before.options) (engine_seen d after) has_ended
        ready lines notices (Some line) result
    answered (inl made) = answers-step takes.goes.lawful has_ended (engine_seen d after) (engine_state d
        before) (engine_state d after) lines notices line ready result (λ ls ns then. subst (λ (c : Choices).
        HasTaken d.by_line (d.state_after_lines c) (engine_state d after) ls ns) (sym same) then) took.0
        awaited (made ∙ ap (state_next d.by_line (engine_state d before)) (sym is))
    answered (inr (allowed, made)) =
        let may : may_reserve d.by_line.reserves_first d.by_line.reserves_next (engine_state d before).phase
        (as_read line) ≡ true = rw (is) allowed in
        answers-lost takes.goes.lawful has_ended (engine_seen d after) (engine_state d before)
        (engine_state d after) lines notices line ready result took.0 awaited may made

-- and so is the end of the input
pub end-answered : {D : Type 0} (d : Ghosts D) (before after : EngineParts D)
    (shows : List InputLine → List Awaited → Type 0) {ready : List (List ℕ)} (result : Result Step At)
    → TakesEnd d before result ready after → (lines : List InputLine) → engine_took d before lines []
    → EngineAnswers (d.filter before.options) shows (d.report_is_right after.direction) ready lines [] None result
end-answered d before after shows {ready = ready} result takes lines took =
    let closes = takes.closes lines (after-lines d before takes.goes lines took) took.1 in
    concludes takes.goes.lawful (d.report_is_right after.direction) shows (engine_state d before)
    (engine_state d after) lines ready result took.0 closes.0 closes.1
