-- A device over two spans of a run, and over both.
use Rattle.std.proofs.lemmas.Grind.{common_steps}
use Rattle.std.proofs.Common.{◌≡◌, ℕ, ◌≤◌, List, [], ◌∷◌, ◌++◌, length, take, refl, sym, ap, subst, ◌∙◌}
use Rattle.std.proofs.{Common.{arith, append_assoc, append-nil, length-append}, Math.Seq.take-append-add}
use Rattle.std.proofs.lemmas.List.{take-append-le}
use Rattle.crx_lines.{specs.declared.device.Sink.Ghosts}
use Rattle.crx_base.specs.declared.fault.At.{At}
use Rattle.crx_runs.specs.{Endings.resumed, meaning.{Messages.{warning_text, notices_text}, Spans.Device}}
use Rattle.crx_runs.specs.meaning.Spans.{TookAll, TookPart, IsPart, span}

-- the messages of some warnings and of others
pub notices-append : (xs ys : List At) → notices_text (xs ++ ys) ≡ notices_text xs ++ notices_text ys
notices-append [] ys = refl
notices-append (x ∷ xs) ys = ap (λ t. warning_text x ++ t) (notices-append xs ys)
    ∙ sym (append_assoc (warning_text x) (notices_text xs) (notices_text ys))

-- the first span, the second, and both
pub record Joins (first second both : Device) : Type 0 where
  pub same : second.before ≡ first.after
  pub start : both.before ≡ first.before
  pub end : both.after ≡ second.after
  pub joined : (xs ys : List ℕ) → first.took xs → second.took ys → both.took (xs ++ ys)
  pub flushed : second.flushed → both.flushed

pub span-joins : {S : Type 0} (sink : Ghosts S) → ((a b c : S) (xs ys : List ℕ) → sink.took a xs b → sink.took
    b ys c → sink.took a (xs ++ ys) c) → {a b c : S} → Joins (span sink a b) (span sink b c) (span sink a c)
span-joins = search

-- an idle span before a device
abbrev idle : Device → Device
idle device =
    record {
      took = λ text. text ≡ [];
      flushed = device.flushed;
      before = device.before;
      after = device.before;
    }

pub joins-idle : {device : Device} → Joins (idle device) device device
joins-idle {device = device} = grind (arith, common_steps)

pub all-all : {first second both : Device} → Joins first second both → (xs ys : List ℕ)
    → TookAll first xs → TookAll second ys → TookAll both (xs ++ ys)
all-all j xs ys a b = (j.joined xs ys a.0 b.0, j.end ∙ b.1 ∙ j.same ∙ a.1 ∙ sym j.start)

pub took-still : {first second both : Device} → Joins first second both → (xs : List ℕ)
    → first.took xs → second.took [] → both.took xs
took-still {both = both} j xs a b = subst both.took (append-nil xs) (j.joined xs [] a b)

pub all-still : {first second both : Device} → Joins first second both → (xs : List ℕ)
    → TookAll first xs → TookAll second [] → TookAll both xs
all-still {both = both} j xs a b = subst (TookAll both) (append-nil xs) (all-all j xs [] a b)

-- a part that was taken, and nothing after it
pub part-still : {first second both : Device} → Joins first second both → (xs all : List ℕ)
    → IsPart first xs all → TookAll second [] → IsPart both xs all
part-still = grind (arith, common_steps, took-still)

-- a part of a text is a part of a longer text
pub part-more : {device : Device} (xs all more whole : List ℕ) → whole ≡ all ++ more → IsPart device xs all
    → IsPart device xs whole
part-more = grind (arith, common_steps, length-append, take-append-le)

-- ---- a device that took a text before

pub all-resumed : (device : Device) (xs all more : List ℕ) → all ≡ xs ++ more → TookAll device more
    → TookAll (resumed device xs) all
all-resumed device xs all more is a = ((more, is, a.0), a.1)

pub none-resumed : (device : Device) (xs all : List ℕ) → all ≡ xs → TookAll device []
    → TookAll (resumed device xs) all
none-resumed device xs all is a = all-resumed device xs all [] (is ∙ sym (append-nil xs)) a

-- a part of a text, after a text that was taken before; the whole may go on after the part that was tried
pub part-resumed : {device : Device} (start xs ys more all : List ℕ) → length start ≤ length xs
    → all ≡ (xs ++ ys) ++ more → IsPart device [] ys → IsPart (resumed device xs) start all
part-resumed start xs ys more all within is p =
    let n = p.count in
    let front = ap (take _) is ∙ take-append-le _ _ more (omega (arith, p.less, length-append xs ys))
    ∙ take-append-add xs ys n in
    grind (arith, common_steps, n, front, length-append (xs ++ ys) more, length-append xs ys)

-- every text that one device took, the other took as well, with the same counts
pub record Carries (one other : Device) : Type 0 where
  pub took : (text : List ℕ) → one.took text → other.took text
  pub before : other.before ≡ one.before
  pub after : other.after ≡ one.after

pub carried-part : {one other : Device} → Carries one other → (xs all : List ℕ) → IsPart one xs all
    → IsPart other xs all
carried-part = grind arith

-- the text after a first one, over both spans
pub carry : {first second both : Device} → Joins first second both → (xs : List ℕ) → TookAll first xs
    → Carries (resumed second xs) both
carry = grind arith

-- a text, and a part of the next
pub part-then : {first second both : Device} → Joins first second both → (xs ys : List ℕ)
    → TookAll first xs → TookPart second ys → IsPart both xs (xs ++ ys)
part-then j xs ys a b = carried-part (carry j xs a) xs _ (part-resumed xs xs ys [] _ (omega arith) (sym
    (append-nil _)) (grind arith))

-- the text after two others, over both spans after the first text
pub carry-on : {first second both : Device} → Joins first second both → (xs ys all : List ℕ)
    → all ≡ xs ++ ys → TookAll first ys → Carries (resumed second all) (resumed both xs)
carry-on j xs ys all is a = grind (arith, common_steps, append_assoc)
