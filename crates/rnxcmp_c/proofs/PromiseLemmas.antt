-- The state of a reader as a promise about its run.
use Rattle.std.proofs.lemmas.Grind.{common_steps}
use Rattle.rnxcmp_c.proofs.Vocabulary.{◌≡◌, ◌⊎◌, inl, inr, ⊎_elim, ℕ, List, [], ◌∷◌, ◌++◌}
use Rattle.rnxcmp_c.proofs.Vocabulary.{take, drop, append_assoc, Option, Some, None, is_some, true, false, arith}
use Rattle.rnxcmp_c.proofs.Vocabulary.{refl, sym, ◌∙◌, append-nil, InputLine, lines_of, At}
use Rattle.rnxcmp_c.proofs.Vocabulary.{with_next, notices_text, Begins, FilterResult}
use Rattle.rnxcmp_c.proofs.Vocabulary.{AreNext, Outcome}
use Rattle.rnxcmp_c.specs.{Going.IsLastLine, Handles.ReaderHasEnded}
use Rattle.rnxcmp_c.proofs.Vocabulary.{ReaderStands}
use Rattle.rnxcmp_c.proofs.Vocabulary.{StandsBy, answer_now, HasEndedBy}
use Rattle.rnxcmp_c.proofs.Vocabulary.{HasFedBy, texts_of_held, Holds, Handle, FeedsBytes}
use Rattle.rnxcmp_c.proofs.Vocabulary.{filter_for, result_for, Answer, joined_texts}
use Rattle.rnxcmp_c.proofs.Vocabulary.{Reader, BothTexts, RunHasEnded, StopsAtLimit, StopsForMemory}
use Rattle.rnxcmp_c.proofs.Vocabulary.{Task, Compact, Expand, Check, handle_answer, run_for}
use Rattle.rnxcmp_c.proofs.{EndAtLine.begins-next, HandleLemmas.{either-fed, ends-stands, feeds-stands}}
use Rattle.rnxcmp_c.proofs.GoingLemmas.{begins-then, notices-both}
use Rattle.rnxcmp_c.proofs.ReaderLemmas.{ended-as, lawful-for, output-for}
use Rattle.rnxcmp_c.proofs.Vocabulary.{with_one_more, bare_answer, MISUSED}
use Rattle.rnxcmp_c.specs.Opened.{EndsHandle, FeedsHandle, HandleStands, IsSoundHandle, has_ended, run_state}
use Rattle.rnxcmp_c.specs.{Handles.{fault_now, status_now}, Opened.texts_kept}
use Rattle.rnxcmp_c.specs.meaning.Handles.{HandlePromise, RunWasEnded, TakesBytes}
use Rattle.crx_filter.proofs.following.DirectionSteps.{compaction-goes, expansion-goes}
use Rattle.crx_filter.proofs.reading.Prefixes.{warnings-go_on}

-- ---- warnings

-- the messages of more warnings follow the messages of the first
begins-more : (all some_of : List At) → (later : List At) × (all ≡ some_of ++ later)
    → Begins (notices_text all) (notices_text some_of)
begins-more all some_of (later, e) = grind (arith, common_steps, notices-both)

-- the warnings of the first lines are a prefix of all warnings
pub warned-first : (task : Task) (lines more : List InputLine)
    → Begins (notices_text ((filter_for task).whole (lines ++ more)).warnings)
    (notices_text ((filter_for task).so_far lines).warnings)
warned-first (Compact choices limit) lines more =
    begins-more _ _ (warnings-go_on (compaction-goes choices refl) lines more)
warned-first (Expand choices limit) lines more = begins-more _ _ (warnings-go_on (expansion-goes choices refl)
    lines more)
warned-first Check lines more = record { rest = []; same = refl }

-- the messages of a result begin with its warnings
pub messages-for : (task : Task) (input : List ℕ) → Begins (result_for task input).messages
    (notices_text ((filter_for task).whole (lines_of input)).warnings)
messages-for (Compact choices limit) input = record { rest = _; same = refl }
messages-for (Expand choices limit) input = record { rest = _; same = refl }
messages-for Check input = record { rest = _; same = refl }

-- the output and messages of some first lines are prefixes of the result's
module _ (task : Task) (input : List ℕ) (lines others : List InputLine)
    (first : lines_of input ≡ lines ++ others) where
  pub output-first : Begins (result_for task input).output ((filter_for task).so_far lines).output
  output-first = grind (arith, common_steps, output-for, lawful-for)

  pub messages-first : Begins (result_for task input).messages
      (notices_text ((filter_for task).so_far lines).warnings)
  messages-first = begins-then _ _ _ (messages-for task input) (rw first (warned-first task lines others))

-- so are the warnings of the next line, or of the end
module _ (task : Task) (input : List ℕ) (lines : List InputLine) where
  messages-next : (others : List InputLine) → lines_of input ≡ lines ++ others
      → Begins (result_for task input).messages
      (notices_text (with_one_more (filter_for task) lines others).warnings)
  messages-next [] first = grind (arith, common_steps, messages-for)
  messages-next (line ∷ others) first =
      messages-first task input (with_next lines line) others (first ∙ sym (append_assoc lines
      (line ∷ []) others))

  -- the warnings of the lines before it, followed by some of its own
  pub messages-own : (others : List InputLine) → lines_of input ≡ lines ++ others → (notices : List At)
      → (notices ≡ []) ⊎ AreNext ((filter_for task).so_far lines)
      (with_one_more (filter_for task) lines others) notices → Begins (result_for task input).messages
      (notices_text ((filter_for task).so_far lines).warnings ++ notices_text notices)
  messages-own others first notices own =
      elim own [
        | inl none ↦ rw (none, append-nil) (messages-first task input lines others first)
        | inr next ↦ begins-then _ _ _ (messages-next others first) (begins-next
            ((filter_for task).so_far lines) (with_one_more (filter_for task) lines others) notices next)
      ]

-- ---- answers

abbrev answer_by : Option Outcome → Reader → Answer
answer_by outcome reader = handle_answer (status_now outcome) (fault_now outcome) (texts_of_held reader.held)

-- ---- the cases

module _ (task : Task) (reader : Reader) (fed : List ℕ) (taken : BothTexts) where
  abbrev kept : BothTexts
  kept = texts_of_held reader.held

  abbrev made : BothTexts
  made = joined_texts taken kept

  stands-by : (outcome : Option Outcome) → StandsBy task reader fed taken outcome
      → HandlePromise outcome (run_for task) fed made kept (answer_by outcome reader)
  stands-by None runs = grind arith
  stands-by (Some outcome) over = record {
    goes_on = λ none. absurd (cc);
    answered = λ other is. cc;
    ended = λ _. (ended-as over (λ result is. grind arith)).ended;
    within = over.few;
  }

  -- the end of a run whose input has ended
  abbrev Last : FilterResult → Type 0
  Last result = (result ≡ result_for task fed) ⊎ (StopsAtLimit (run_for task) fed result
      ⊎ StopsForMemory (IsLastLine fed) (run_for task) fed result)

  ended-by : {P Q : FilterResult → Type 0} (outcome : Option Outcome) → HasEndedBy task P reader taken outcome
      → ((result : FilterResult) → P result → Q result)
      → (is_some outcome ≡ true) × RunHasEnded Q made kept (answer_by outcome reader)
  ended-by = grind (arith, ended-as)

  fed-ended : (before left : List ℕ) (outcome : Option Outcome) → is_some outcome ≡ true
      → HasFedBy before task reader fed taken outcome
      → RunWasEnded (run_for task) before fed left made kept (answer_by outcome reader)
  fed-ended before left None ended over = absurd (cc)
  fed-ended before left (Some outcome) ended over =
      inl (λ (more : List ℕ). (ended-as (over more) (λ result is. grind arith)).ended)

-- ---- a handle

-- a handle that is open and sound holds a reader
pub sound-holds : {handle : Handle} → IsSoundHandle handle → handle.is_open ≡ true
    → (reader : Reader) × Holds handle reader
sound-holds sound is_open = let is = sound is_open in (is.3.reader, is.3.holds)

-- a handle is in the state of its reader
pub stood : {task : Task} {handle : Handle} {fed : List ℕ} {taken : BothTexts} {reader : Reader}
    → Holds handle reader → HandleStands task handle fed taken → ReaderStands task reader fed taken
stood {task} {handle} {fed} {taken} {reader} holds stands = grind arith

-- so its reader's state is given by some bytes and texts
pub sound-stands : {handle : Handle} {reader : Reader} → IsSoundHandle handle → handle.is_open ≡ true
    → Holds handle reader → (task : Task) × (fed : List ℕ) × (taken : BothTexts)
    × ReaderStands task reader fed taken
sound-stands sound is_open holds = let is = sound is_open in (is.0, is.1, is.2, stood holds is.3)

pub handle-promise : {task : Task} {handle : Handle} {fed : List ℕ} {taken : BothTexts} {reader : Reader}
    {answer : Answer} → HandleStands task handle fed taken → Holds handle reader → answer ≡ answer_now reader
    → HandlePromise (run_state handle) (run_for task) fed (joined_texts taken (texts_kept handle))
    (texts_kept handle) answer
handle-promise {task} {handle} {fed} {taken} {reader} {answer} stands holds answers =
    rw (holds, answers) (stands-by task reader fed taken reader.outcome (stood holds stands))

-- the promises of a handle that was fed
module _ {task : Task} {old new : Handle} {fed : List ℕ} {taken : BothTexts} {bytes : List ℕ} {used : ℕ}
    {answer : Answer} (is : FeedsHandle task old new fed taken bytes used answer)
    (stands : HandleStands task old fed taken) where
  pub feeds-on : HandleStands task new (fed ++ take used bytes) taken
  feeds-on = record {
    reader = is.after;
    is_open = is.is_open;
    holds = is.holds;
    stands = feeds-stands task is.before is.after fed taken bytes used answer is.before.outcome
        (stood is.held stands) is.feeds;
  }

  pub feeds-refused : has_ended old ≡ true
      → (answer ≡ bare_answer MISUSED 0 0) × (used ≡ 0) × (new.place.held ≡ old.place.held)
  feeds-refused ended = grind arith

  module _ (runs : has_ended old ≡ false) where
    feeds-bytes : FeedsBytes task is.before is.after fed taken bytes used answer
    feeds-bytes = grind arith

    pub feeds-promise : HandlePromise (run_state new) (run_for task) (fed ++ take used bytes)
        (joined_texts taken (texts_kept new)) (texts_kept new) answer
    feeds-promise = handle-promise feeds-on is.holds feeds-bytes.answers

    pub feeds-takes : TakesBytes (run_for task) fed taken bytes used (texts_kept old) (texts_kept new)
        (has_ended new)
    feeds-takes = rw (is.held, is.holds) feeds-bytes.takes

    pub feeds-was_ended : has_ended new ≡ true
        → RunWasEnded (run_for task) fed (fed ++ take used bytes) (drop used bytes)
        (joined_texts taken (texts_kept new)) (texts_kept new) answer
    feeds-was_ended ended = rw (is.holds, feeds-bytes.answers)
        (⊎_elim (fed-ended task is.after (fed ++ take used bytes) taken fed (drop used bytes) is.after.outcome
        (rw is.holds at ended)) (λ passed. inr (
          passed.0,
          passed.1,
          (ended-by task is.after (fed ++ take used bytes)
              taken is.after.outcome passed.2 (λ result is. is)).1,
        )) (either-fed feeds-bytes))

-- and of a handle whose input has ended
module _ {task : Task} {old new : Handle} {fed : List ℕ} {taken : BothTexts} {answer : Answer}
    (is : EndsHandle task old new fed taken answer) (stands : HandleStands task old fed taken) where
  pub ends-on : HandleStands task new fed taken
  ends-on = record {
    reader = is.after;
    is_open = is.is_open;
    holds = is.holds;
    stands = ends-stands task is.before is.after fed taken answer is.before.outcome (stood is.held stands)
        is.ends;
  }

  pub ends-refused : has_ended old ≡ true
      → (answer ≡ bare_answer MISUSED 0 0) × (new.place.held ≡ old.place.held)
  ends-refused ended = grind arith

  module _ (runs : has_ended old ≡ false) where
    pub ends-promise : HandlePromise (run_state new) (run_for task) fed (joined_texts taken (texts_kept new))
        (texts_kept new) answer
    ends-promise = handle-promise ends-on is.holds (grind arith)

    pub ends-was_ended : (has_ended new ≡ true) × RunHasEnded (Last task is.after fed taken)
        (joined_texts taken (texts_kept new)) (texts_kept new) answer
    ends-was_ended =
        let came : ReaderHasEnded task is.after fed taken × (answer ≡ answer_now is.after) = grind arith in
        rw (is.holds, came.1)
        (ended-by task is.after fed taken is.after.outcome came.0 (λ result is. grind arith))
