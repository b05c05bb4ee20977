-- The bytes that are fed continue a run or stop it.
use Rattle.std.proofs.{Common.{rules, ◌≢◌, slice_index}, lemmas.{Grind.common_steps, List.get_or-take}}
use Rattle.std.proofs.lemmas.List.Elements.{All-append, All-from_get_or}
use Rattle.rnxcmp_c.proofs.Vocabulary.{Some, ◌≡◌, inl, inr, ℕ, ◌+◌, ◌-◌, ◌<◌, ◌≤◌, ⊎_elim}
use Rattle.rnxcmp_c.proofs.Vocabulary.{true, false, List, [], ◌∷◌, ◌++◌, length, take, drop, None, refl, sym, ap}
use Rattle.rnxcmp_c.proofs.Vocabulary.{◌∙◌, arith, append-nil, append_assoc, length-append}
use Rattle.rnxcmp_c.proofs.Vocabulary.{length-take, InputLine, lines_of, BothTexts, TaskRun}
use Rattle.rnxcmp_c.proofs.Vocabulary.{ended_lines_of, HasNoFeed, At, IsLawful, Filter, with_next, notices_text}
use Rattle.rnxcmp_c.proofs.Vocabulary.{Begins, Course, are_some, HandleState, IsText, IsGoing, MovesOn}
use Rattle.rnxcmp_c.proofs.Vocabulary.{with_one_more, piece_line, FilterResult, result_of_course}
use Rattle.rnxcmp_c.proofs.Vocabulary.{IsAll, StopsShort, MovesWithin, OutOfMemory, StopsForMemory}
use Rattle.rnxcmp_c.proofs.Vocabulary.{StepStops, ready_in, LINE_ROOM}
use Rattle.rnxcmp_c.proofs.Vocabulary.{on_ok_weaker, IfErr-weaker, Result}
use Rattle.rnxcmp_c.proofs.Vocabulary.{READY_LIMIT, Stop, Fault, Limit, line_reached, memory_next}
use Rattle.rnxcmp_c.specs.{Counting.take-of_taken, Past.StopsSoon}
use Rattle.rnxcmp_c.specs.Going.{IsSoFar, EndStaysWithin, IsLineEnded, RunIsStopped, LastIsTaken, StopsAs}
use Rattle.rnxcmp_c.specs.Going.{StopsEarly}
use Rattle.rnxcmp_c.specs.{declared.piece.Piece.Piece}
use Rattle.crx_lines.proofs.ProgressLemmas.{lines-first, lines-last, ended_lines-first, ended_lines-none}
use Rattle.crx_runs.specs.Engines.{Awaited}

-- there is no LF before the first one
pub no_feed-before : (bytes : List ℕ) (n : ℕ) → n ≤ length bytes
    → ((k : ℕ) → k < n → slice_index bytes k ≢ 10) → HasNoFeed (take n bytes)
no_feed-before bytes n within none =
    All-from_get_or (λ b. b ≢ 10) (take n bytes) 0
    (λ k h. let inside : k < n = omega (arith, h, length-take n bytes)
    in rw (get_or-take n bytes k 0) (none k inside))

-- the bytes up to an LF, and those after it
pub cut-at : (bytes : List ℕ) (n : ℕ) → n < length bytes → slice_index bytes n ≡ 10
    → bytes ≡ take n bytes ++ 10 ∷ drop (n + 1) bytes
cut-at bytes n within feed = grind (arith, common_steps)

pub notices-both : (xs ys : List At) → notices_text (xs ++ ys) ≡ notices_text xs ++ notices_text ys
notices-both [] ys = refl
notices-both (x ∷ xs) ys = grind (arith, common_steps, notices-both xs ys)

-- a prefix of a prefix
pub begins-then : (all mid first : List ℕ) → Begins all mid → Begins mid first → Begins all first
begins-then all mid first a b = grind (arith, common_steps, append_assoc)

text-grows : (before after : Course) (shown : Type 0) (old new : HandleState) (taken : BothTexts)
    → IsText before old taken → MovesOn before after shown old new → IsText after new taken
text-grows = grind (arith, common_steps, append_assoc, notices-both)

flag-grows : (before after : Course) (shown : Type 0) (old new : HandleState)
    → old.warned ≡ are_some before.warnings → MovesOn before after shown old new
    → new.warned ≡ are_some after.warnings
flag-grows before after shown old new flag moved = grind arith

-- the next line needs memory
asked-by : (filter : Filter) (lines others : List InputLine) (notices : List At)
    → memory_next filter lines others ≡ Some notices → (next : InputLine) × (more : List InputLine)
    × (others ≡ next ∷ more) × (filter.memory_after lines next ≡ Some notices)
asked-by = grind arith

-- the line reached is the last of these lines and the next one
reached-lines : (lines others : List InputLine) → line_reached lines others ≡ length (lines ++ take 1 others)
reached-lines = grind (arith, common_steps)

-- a fault of the next line, or of the end, is the fault of all lines
decided-next : (filter : Filter) → IsLawful filter → (lines others : List InputLine) (at : At)
    → (with_one_more filter lines others).fault ≡ Some at
    → filter.whole (lines ++ others) ≡ with_one_more filter lines others
decided-next filter lawful lines [] at fault = ap filter.whole (append-nil lines)
decided-next filter lawful lines (line ∷ others) at fault =
    ap filter.whole (sym (append_assoc lines (line ∷ []) others)) ∙ lawful.decided (with_next lines line)
    others at fault

module _ {run : TaskRun} {held : HandleState} {taken : BothTexts} {lines : List InputLine}
    (is : IsSoFar run held taken lines) (new : HandleState) where
  -- one more line was taken
  pub taken-more : (line : InputLine) (shown : Type 0)
      → MovesWithin (run.filter.so_far lines) (run.filter.so_far (with_next lines line)) shown held new
      → new.number ≡ held.number + 1 → IsSoFar run new taken (with_next lines line)
  taken-more line shown within number = grind (arith, common_steps, text-grows, flag-grows, length-append)

  -- the end was taken
  pub ends-well : (fed : List ℕ) → lines_of fed ≡ lines → (shown : Type 0)
      → MovesWithin (run.filter.so_far lines) (run.filter.whole lines) shown held new
      → IsAll run new fed taken
  ends-well fed whole shown within = grind (arith, common_steps, text-grows, flag-grows)

  -- the next line, or the end, stopped the run
  module _ (is_line : ℕ → Type 0) (input : List ℕ) (others : List InputLine)
      (first : lines_of input ≡ lines ++ others) (number : ℕ) (reached : number ≡ line_reached lines others)
      (there : is_line number) where
    abbrev before : Course
    before = run.filter.so_far lines

    abbrev ran_out : StopsShort (memory_next run.filter lines others) before
        (with_one_more run.filter lines others) held new
        → FilterResult
    ran_out short = result_of_course (record {
      output = before.output;
      warnings = before.warnings ++ short.notices;
      fault = Some (record { line = number; fault = OutOfMemory });
    })

    abbrev for-memory : (short : StopsShort (memory_next run.filter lines others) before
        (with_one_more run.filter lines others)
        held new) → StopsForMemory is_line run input (ran_out short)
    for-memory short = record {
      lines = lines;
      others = others;
      first = first;
      before = before;
      before_is = refl;
      good = is.good;
      after = with_one_more run.filter lines others;
      after_is = refl;
      line = number;
      line_is = reached ∙ reached-lines lines others;
      there = there;
      notices = short.notices;
      own = short.own;
      asked = ⊎_elim (λ asks. inl (asked-by run.filter lines others short.notices asks)) (λ adds. inr adds)
          short.asked;
      result_is = refl;
    }

    pub stopped : (stop : Stop) → StepStops number (memory_next run.filter lines others) before
        (with_one_more run.filter lines others) held new stop → RunIsStopped is_line run input new taken stop
    stopped (Fault at) (inl (memory, short), adds) = record {
      result = ran_out short;
      is = inr (inr (record {
        stops = for-memory short;
        lacking = grind (arith, is.unfailed, short.lacking);
      }));
      status = refl;
      fault = grind arith;
      output = grind (arith, is.text);
      messages = grind (arith, common_steps, append_assoc, notices-both, is.text);
      within = grind (arith, common_steps, is.text);
    }
    stopped (Fault at) (inr ends, adds) =
        let whole = decided-next run.filter is.lawful lines others at ends.fault in
        record {
          result = result_of_course (with_one_more run.filter lines others);
          is = inl (record {
            at = at;
            fault = grind (arith, first, whole, ends.fault);
            result_is = grind
                (arith, first, whole);
          });
          status = grind (arith, ends.fault);
          fault = ends.fault;
          output = grind (arith, is.text, ends);
          messages = grind (arith, common_steps, append_assoc, notices-both, is.text, ends);
          within = grind (arith, common_steps, is.text, ends);
        }
    stopped Limit passes = record {
      result = record {
        output = before.output;
        messages = notices_text before.warnings;
        status = _;
        fault = None;
      };
      is = grind (arith, common_steps);
      status = refl;
      fault = refl;
      output = grind (arith, is.text);
      messages = grind (arith, common_steps, is.text);
      within = grind (arith, common_steps);
    }

  -- the end was taken, or it stopped the run
  pub end-taken : (fed : List ℕ) → lines_of fed ≡ lines → (ended : Type 0) (result : Result Unit Stop)
      → EndStaysWithin result run.filter ended lines held new → LastIsTaken result run ended new fed taken
  end-taken fed whole ended result step = (
    on_ok_weaker result (λ e. (e.moved.kept.is_shown, ends-well fed whole ended e)) step.0,
    IfErr-weaker result _ _ (λ stop e. stopped _ fed [] (whole ∙ sym (append-nil lines)) held.number is.number
        (is.number ∙ ap length (sym whole)) stop e) step.1,
  )

-- memory was refused at a line of more kinds, and the texts have the same failures
pub early-weaker : {run : TaskRun} {P Q : ℕ → Type 0} {input : List ℕ} {mid held : HandleState}
    {result : FilterResult} → ((n : ℕ) → P n → Q n) → held.output.failures ≡ mid.output.failures
    → held.messages.failures ≡ mid.messages.failures → StopsEarly P run input mid result
    → StopsEarly Q run input held result
early-weaker weaker output messages (inl limit) = inl limit
early-weaker weaker output messages (inr ran) = inr (record {
  stops = search (rules, weaker, ran.stops);
  lacking = grind (arith, ran.lacking);
})

-- a run that was stopped with one of some results was stopped with one of more results
pub stopped-as : {P Q : FilterResult → Type 0} {limit : ℕ} {held : HandleState} {taken : BothTexts}
    {stop : Stop} → StopsAs limit P held taken stop → ((result : FilterResult) → P result → Q result)
    → StopsAs limit Q held taken stop
stopped-as = grind arith

pub stopped-weaker : {run : TaskRun} {P Q : ℕ → Type 0} {input : List ℕ} {held : HandleState}
    {taken : BothTexts} {stop : Stop} → ((n : ℕ) → P n → Q n) → RunIsStopped P run input held taken stop
    → RunIsStopped Q run input held taken stop
stopped-weaker weaker is = stopped-as is
    (λ result. ⊎_elim (λ fails. inl fails) (λ early. inr (early-weaker weaker refl refl early)))

-- ---- bytes

module _ {run : TaskRun} {ready : List (List ℕ)} {shows : List InputLine → List Awaited → Type 0}
    {held : HandleState} {fed : List ℕ} {taken : BothTexts} (is : IsGoing run ready shows held fed taken)
  where
    abbrev lines : List InputLine
    lines = ended_lines_of fed

    -- bytes without LF end no line
    ended-still : (more : List ℕ) → HasNoFeed more → ended_lines_of (fed ++ more) ≡ lines
    ended-still more none =
        is.cut_ended more ∙ ap (λ (ls : List InputLine). lines ++ ls)
        (ended_lines-none (is.tail ++ more) (All-append (λ b. b ≢ 10) is.tail more is.no_feed none))
        ∙ append-nil lines

    -- one more line is used, or a part of one, because fewer than READY_LIMIT bytes wait
    pub soon-by : (bytes : List ℕ) (n : ℕ) → HasNoFeed (take (n - 1) bytes) → ready_in held < READY_LIMIT
        → StopsSoon run fed taken bytes n
    soon-by bytes n none low = grind (arith, common_steps, ended-still, length-append)

    -- ---- the end

    all-cut : lines_of fed ≡ lines ++ lines_of is.tail
    all-cut = grind (arith, common_steps, is.cut [])

    -- there are no bytes after the last LF
    pub all-ended : held.tail.bytes.items ≡ [] → lines_of fed ≡ lines
    all-ended none = grind (arith, common_steps, all-cut)

    -- there is a last line without LF
    pub all-but_last : 0 < length held.tail.bytes.items → lines_of fed ≡ with_next lines
        (piece_line is.tail false)
    all-but_last some = search (rules, all-cut, lines-last, length-take)

    -- ---- more bytes

    module _ (piece : Piece) (bytes : List ℕ)
        (added : piece.bytes.items ≡ take LINE_ROOM (held.tail.bytes.items ++ bytes)) (none : HasNoFeed bytes)
      where
        -- the state after these bytes were added to the last line
        abbrev mid : HandleState
        mid = record held { tail = piece }

        abbrev bytes_all : List ℕ
        bytes_all = is.tail ++ bytes

        whole : HasNoFeed bytes_all
        whole = All-append (λ b. b ≢ 10) is.tail bytes is.no_feed none

        pub mid-kept : piece.bytes.items ≡ take LINE_ROOM bytes_all
        mid-kept = rw (added, is.kept) (take-of_taken LINE_ROOM is.tail bytes)

        pub mid-after : IsSoFar run mid taken lines
        mid-after = grind (arith, is.after)

        -- bytes without LF are kept, as far as there is room
        pub keeps-going : IsGoing run ready shows mid (fed ++ bytes) taken
        keeps-going =
            let still = ended-still bytes none in
            record {
              drained = is.drained;
              after = rw still mid-after;
              shown = rw still is.shown;
              tail = bytes_all;
              kept = mid-kept;
              no_feed = whole;
              cut = λ more. rw (append_assoc fed bytes more, append_assoc is.tail bytes more, still)
                  (is.cut (bytes ++ more));
              cut_ended = λ more. rw (append_assoc fed bytes more, append_assoc is.tail bytes more, still)
                  (is.cut_ended (bytes ++ more));
              counted = omega (arith, is.counted, length-append is.tail bytes, length-append fed bytes);
            }

        -- the line of those bytes and an LF
        abbrev line : InputLine
        line = piece_line bytes_all true

        abbrev ended : List ℕ
        ended = bytes ++ 10 ∷ []

        first-by : (F : List ℕ → List InputLine) → ((more : List ℕ) → F (fed ++ more) ≡ lines ++ F
            (is.tail ++ more))
            → ((more : List ℕ) → F (bytes_all ++ 10 ∷ more) ≡ line ∷ F more)
            → (more : List ℕ) → F (fed ++ (ended ++ more)) ≡ with_next lines line ++ F more
        first-by F so_far first more = grind (arith, common_steps, append_assoc)

        line-first : (more : List ℕ) → lines_of (fed ++ (ended ++ more)) ≡ with_next lines line ++ lines_of
            more
        line-first = first-by lines_of is.cut (λ more. lines-first bytes_all more whole)

        ended-first : (more : List ℕ)
            → ended_lines_of (fed ++ (ended ++ more)) ≡ with_next lines line ++ ended_lines_of more
        ended-first = first-by ended_lines_of is.cut_ended (λ more. ended_lines-first bytes_all more whole)

        one-more : ended_lines_of (fed ++ ended) ≡ with_next lines line
        one-more = rw (append-nil ended, append-nil (with_next lines line)) at (ended-first [])

        pub goes-on : {pending : List (List ℕ)} → pending ≡ [] →
            (then : List InputLine → List Awaited → Type 0)
            (new : HandleState)
            → MovesWithin (run.filter.so_far lines) (run.filter.so_far (with_next lines line))
            (then (with_next lines line) []) mid new → new.number ≡ mid.number + 1 → new.tail.bytes.items ≡ []
            → IsGoing run pending then new (fed ++ ended) taken
        goes-on none_pending then new within number empty = record {
          drained = none_pending;
          after = rw one-more (taken-more mid-after new line _ within number);
          shown = rw one-more within.moved.kept.is_shown;
          tail = [];
          kept = empty;
          no_feed = λ k d h. absurd (omega (arith, h));
          cut = λ more. rw (append_assoc fed ended more, one-more) (line-first more);
          cut_ended = λ more. rw (append_assoc fed ended more, one-more) (ended-first more);
          counted = omega (arith, is.counted, number, length-append fed ended, length-append bytes (10 ∷ []));
        }

        -- the line that they end stopped the run, whatever follows
        pub stops-there : (new : HandleState) (rest : List ℕ) (stop : Stop)
            → StepStops (length lines + 1) (run.filter.memory_after lines line) (run.filter.so_far lines)
            (run.filter.so_far (with_next lines line)) mid new stop → (more : List ℕ)
            → RunIsStopped (IsLineEnded fed (fed ++ (bytes ++ 10 ∷ rest))) run ((fed ++ (bytes ++ 10 ∷ rest))
            ++ more) new
            taken stop
        stops-there new rest stop stops more =
            let same : bytes ++ 10 ∷ rest ≡ ended ++ rest = sym (append_assoc bytes (10 ∷ []) rest) in
            stopped mid-after new _ _ (line ∷ lines_of (rest ++ more))
            (grind (arith, common_steps, append_assoc, line-first (rest ++ more))) (length lines + 1) refl
            (grind (arith, common_steps, ended-first rest, same, length-append)) stop stops
