-- A line that an engine takes, the first or the second time.
use Rattle.std.proofs.lemmas.Grind.{common_steps}
use Rattle.std.proofs.Common.{◌≡◌, ◌⊎◌, ℕ, ◌+◌, Bool, true, false, List, [], ◌∷◌, ◌++◌, length}
use Rattle.std.proofs.Common.{Option, Some, None, Result, Ok, Err, IfOk, IfErr, refl, ap, ◌∙◌, ◌||◌}
use Rattle.std.specs.Prelude.{⊤}
use Rattle.std.proofs.Common.{arith, append-nil}
use Rattle.crx_base.specs.{declared.fault.At.At, meaning.Lines.InputLine}
use Rattle.crx_base.specs.meaning.Lines.{lines_text}
use Rattle.crx_runs.proofs.{DeviceSpans.{Joins}, LineEndings.{all-next, answer-ends, step-done, step-ends}}
use Rattle.crx_runs.specs.Endings.{WarnsAtEnd}
use Rattle.crx_runs.specs.Engines.{Adds, Awaited, awaited_notices, EngineAnswers, IsDrainedAfter}
use Rattle.crx_runs.specs.Engines.{Stays, answer_given, shown_with}
use Rattle.crx_runs.specs.Taking.{Becomes, IsLineAfter, IsSettled, TakesNext, WasAnswered, made_by, step_notices}
use Rattle.crx_runs.specs.declared.engine.Engine.{Ghosts as EngineGhosts}
use Rattle.crx_runs.specs.declared.engine.LineOutput.{LineOutput, TheVariants.{Nothing, Lines, AsItIs}}
use Rattle.crx_runs.specs.declared.engine.Step.{Step, TheVariants.{Quiet, Ready, Warned}}
use Rattle.crx_runs.specs.declared.one_line.Halt.{Halt}
use Rattle.crx_runs.specs.declared.one_line.Halt.TheVariants.{Fault, Unwritten}
use Rattle.crx_runs.specs.meaning.{Filters.{Filter, course_with, memory_with}, Messages.notices_text}
use Rattle.crx_runs.specs.meaning.Results.{are_some}
use Rattle.crx_runs.specs.meaning.Spans.{Device, TookAll, TookPart, AreNext, IsPart}

module _ (filter : Filter) {E : Type 0} (engine : EngineGhosts E) (then : E) (ready : List (List ℕ))
    (lines : List InputLine) where
  -- the output and warnings that a line, or the end, adds if it isn't fed again
  answers-add : (notices : List Awaited) (next : Option InputLine) (step : Step) → Stays step
      → IsDrainedAfter step ready → EngineAnswers filter (engine.shows then) (engine.has_ended then) ready
      lines notices next (Ok step)
      → shown_with (engine.shows then) (engine.has_ended then) lines next × Adds (filter.so_far lines)
      (course_with filter lines next) (lines_text ready) (awaited_notices notices ++ step_notices step)
  answers-add notices next step stays drained a = grind (arith, common_steps, append-nil)

  -- a line is fed again at most once
  pub stays-then : (first : Awaited) (next : Option InputLine) (step : Step)
      → EngineAnswers filter (engine.shows then) (engine.has_ended then) ready lines (first ∷ []) next (Ok
      step) → Stays step
  stays-then = grind arith

  -- and the end never is
  pub end-stays : (step : Step) (made : Result Bool Halt)
      → EngineAnswers filter (engine.shows then) (engine.has_ended then) ready lines [] None (Ok step) → IfOk
      made (λ warned. Stays step)
  end-stays = grind (arith, common_steps)

-- pending lines were written, whole or in part
pub ready-all : (writer messages : Device) (ready : List (List ℕ)) → TookAll writer (lines_text ready)
    → TookAll messages [] → IsSettled writer messages (made_by ready Ready) (Ok false)
ready-all = grind arith

pub ready-cut : (writer messages : Device) (ready : List (List ℕ)) → TookPart writer (lines_text ready)
    → TookAll messages [] → IsSettled writer messages (made_by ready Ready) (Err Unwritten)
ready-cut = grind arith

-- the result of a line by its last answer, with the warning of the first time
abbrev pub after_first : List Awaited → Result Bool Halt → Result Bool Halt
after_first earlier (Ok warned) = Ok (are_some (awaited_notices earlier) || warned)
after_first earlier (Err halt) = Err halt

are-some-append : (xs ys : List At) → (are_some xs || are_some ys) ≡ are_some (xs ++ ys)
are-some-append [] ys = refl
are-some-append (x ∷ xs) ys = refl

-- a line that is fed once
pub once : (made : Result Bool Halt) → made ≡ after_first [] made
once (Ok warned) = refl
once (Err halt) = refl

pub always-ok : {P : Type 0} (made : Result Bool Halt) → P → IfOk made (λ warned. P)
always-ok (Ok warned) is = is
always-ok (Err halt) is = tt

module _ {writer1 writer2 writer messages1 messages2 messages : Device} (w : Joins writer1 writer2 writer)
    (m : Joins messages1 messages2 messages) (filter : Filter) (lines : List InputLine)
    (next : Option InputLine) (earlier : List Awaited) (wrote : TookAll writer1 [])
    (reported : TookAll messages1 (notices_text (awaited_notices earlier)))
    {E : Type 0} (engine : EngineGhosts E) (then : E) (ready : List (List ℕ)) where
  abbrev LineBecomes : Type 0 → Result Bool Halt → Type 0
  LineBecomes shown result = Becomes (memory_with filter lines next) (length lines + 1) (filter.so_far lines)
      (course_with filter lines next) shown writer messages result

  -- a line with a fault
  pub line-refused : (at : At) → EngineAnswers filter (engine.shows then) (engine.has_ended then) ready lines
      earlier next (Err at)
      → (awaited_notices earlier ≡ []) ⊎ AreNext (filter.so_far lines) (course_with filter lines next)
      (awaited_notices earlier) → TookAll writer2 [] → TookAll messages2 [] → LineBecomes ⊤ (Err (Fault at))
  line-refused at a first still quiet = answer-ends w m _ _ (awaited_notices earlier) wrote reported _ _
      at first (grind arith) still quiet

  cut-by : (step : Step) → Stays step → IsDrainedAfter step ready
      → EngineAnswers filter (engine.shows then) (engine.has_ended then) ready lines earlier next (Ok step) →
      (halt : Halt)
      → IsSettled writer2 messages2 (made_by ready step) (Err halt) → LineBecomes ⊤ (Err halt)
  cut-by step stays drained a halt e =
      let adds = answers-add filter engine then ready lines earlier next step stays drained a in
      step-ends w m _ _ (awaited_notices earlier) wrote reported _ _ _ _ (λ some. adds.1) (all-next adds.1)
      halt e

  -- a line whose output couldn't be written, or whose warning couldn't be reported
  line-cut : (step : Step) → IsDrainedAfter step ready
      → EngineAnswers filter (engine.shows then) (engine.has_ended then) ready lines earlier next (Ok step) →
      (halt : Halt)
      → IsSettled writer2 messages2 (made_by ready step) (Err halt) → LineBecomes ⊤ (Err halt)
  line-cut Quiet drained a halt e = cut-by Quiet tt drained a halt e
  line-cut Ready drained a halt e = cut-by Ready tt drained a halt e
  line-cut (Warned notice true) drained a halt e = step-ends w m _ _ (awaited_notices earlier) wrote reported
      _ _ _ _
      (λ some. absurd (omega (arith, some, ap (λ r. length (lines_text r)) drained)))
      (rw (a.1) a.2) halt e
  line-cut (Warned notice false) drained a halt e = cut-by (Warned notice false) tt drained a halt e

  -- an answer was written and reported, and the line isn't fed again; or that failed
  pub line-becomes : (step : Step) → IsDrainedAfter step ready
      → EngineAnswers filter (engine.shows then) (engine.has_ended then) ready lines earlier next (Ok step) →
      (shown : Type 0)
      → (shown_with (engine.shows then) (engine.has_ended then) lines next → shown) → (made result : Result
      Bool Halt)
      → result ≡ after_first earlier made → IfOk made (λ warned. Stays step)
      → IsSettled writer2 messages2 (made_by ready step) made → LineBecomes shown result
  line-becomes step drained a shown kept (Ok warned) result is stays s =
      grind (arith, common_steps, answers-add, earlier, step-done, are-some-append)
  line-becomes step drained a shown kept (Err halt) result is stays s =
      rw (is) (line-cut step drained a halt s)

  -- a line with output
  pub handed-becomes : (out : LineOutput) (stored : Result Step At)
      → EngineAnswers filter (engine.shows then) (engine.has_ended then) ready lines earlier next
      (answer_given (Some out) stored)
      → IfOk (answer_given (Some out) stored) (λ step. IsDrainedAfter step ready) → (shown : Type 0)
      → (shown_with (engine.shows then) (engine.has_ended then) lines next → shown) → (made result : Result
      Bool Halt)
      → result ≡ after_first earlier made → IsSettled writer2 messages2 (made_by ready Ready) made
      → LineBecomes shown result
  handed-becomes Nothing _ a drained shown kept made result is s =
      line-becomes Quiet drained a shown kept made result is (always-ok made tt) s
  handed-becomes Lines _ a drained shown kept made result is s =
      line-becomes Ready drained a shown kept made result is (always-ok made tt) s
  handed-becomes AsItIs _ a drained shown kept made result is s =
      line-becomes Ready drained a shown kept made result is (always-ok made tt) s

-- carrying out the answer to a line takes the line
pub answered-next : {E : Type 0} (engine : EngineGhosts E) (before now then : E) (line : InputLine)
    {writer messages : Device} {result : Result Bool Halt} → engine.filter now ≡ engine.filter before
    → ((lines : List InputLine) → engine.shows before lines [] → WasAnswered engine now line lines (Some line))
    → TakesNext engine now then (WasAnswered engine now line) writer messages result
    → TakesNext engine before then (IsLineAfter engine before line) writer messages result
answered-next engine before now then line kept answered taken = record {
  filter = taken.filter ∙ kept;
  drained = taken.drained;
  becomes = λ lines next comes. rw (kept) at (taken.becomes lines next (rw (comes.1) (answered lines comes.0)));
}

-- the warning after which a line is fed again was reported
pub again-out : {writer messages : Device} (ready : List (List ℕ)) (step : Step) (notice : At) (warned : Bool)
    → step ≡ Warned notice true → IsDrainedAfter step ready → IsSettled writer messages (made_by ready step)
    (Ok warned)
    → TookAll writer [] × TookAll messages (notices_text (notice ∷ [])) × (warned ≡ true)
again-out {writer = writer} {messages = messages} ready step notice warned is drained settled =
    grind (arith, common_steps, made_by, lines_text)

-- an empty text has no part
no-part : {device : Device} (xs all : List ℕ) → all ≡ [] → IsPart device xs all → ⊥
no-part xs all none part = omega (arith, part.less, ap length none)

none-first : (xs ys : List At) → [] ≡ xs ++ ys → xs ≡ []
none-first [] ys is = refl
none-first (x ∷ xs) ys is = absurd (cc)

-- if the end of the input ended the run, it has no warning, or the one that couldn't be reported
pub end-warns : (filter : Filter) {E : Type 0} (engine : EngineGhosts E) (then : E) (ready : List (List ℕ))
    (lines : List InputLine) (step : Step) (writer messages : Device) (result : Result Bool Halt) →
    IsDrainedAfter step ready
    → EngineAnswers filter (engine.shows then) (engine.has_ended then) ready lines [] None (Ok step)
    → IsSettled writer messages (made_by ready step) result
    → IfErr result (WarnsAtEnd (filter.so_far lines) (filter.whole lines))
end-warns filter engine then ready lines step writer messages result drained a settled =
    grind (arith, common_steps, append-nil, no-part, none-first)
