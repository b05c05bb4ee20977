-- The search for the end of a line, step by step.
use Rattle.std.proofs.Common.{rules, ◌≡◌, ◌≢◌, ℕ, ◌+◌, ◌-◌, ◌<◌, ◌≤◌, List, [], ◌∷◌, ◌++◌, ◌⊎◌, length}
use Rattle.std.proofs.Common.{slice_index}
use Rattle.std.proofs.Common.{refl, sym, ap, subst, ◌∙◌, arith, ⊎_elim, append-nil, append_assoc, take}
use Rattle.std.proofs.{Common.length-append, lemmas.{Grind.common_steps, List.{get_or_append_left, take_at}}}
use Rattle.std.proofs.lemmas.List.Elements.{All-append, All-from_get_or, All-contains, Contains-append_left}
use Rattle.std.specs.List.{Contains}
use Rattle.crx_lines.{proofs.PieceLemmas.NoFeed, specs.{Devices.EndsFill, Reading.HasNoFeed}}
use Rattle.crx_lines.specs.Seeking.{EndsSearch, Seeking}
use Rattle.crx_lines.specs.meaning.Devices.{Tally}
use Rattle.crx_base.specs.declared.fault.Fault.{Fault, TheVariants.{InputTooLong, ReadFailed}}
use Rattle.crx_base.specs.declared.limits.TheConstants.{INPUT_LIMIT, LINE_LIMIT}

pub Seeking-start : (gave : List ℕ → Type 0) (old : List ℕ) (before room : ℕ) → gave []
    → before + length old + room ≡ INPUT_LIMIT → Seeking gave old old before room 0 0
Seeking-start gave old before room lead sum = grind (arith, common_steps, append-nil)

module _ (gave : List ℕ → Type 0) (old held : List ℕ) (before room passed : ℕ) where
  -- the bytes from the searched ones up to n were searched too
  pub Seeking-searched : (searched n : ℕ) → Seeking gave old held before room passed searched
      → n ≤ length held → ((k : ℕ) → searched ≤ k → k < n → slice_index held k ≢ 10)
      → Seeking gave old held before room passed n
  Seeking-searched searched n s within none = grind (arith, common_steps)

  -- every byte was discarded or is held
  pub Seeking-sum : (searched : ℕ) (s : Seeking gave old held before room passed searched)
      → (passed + length held ≡ length old + length s.given)
      × (before + (passed + length held) + room ≡ INPUT_LIMIT)
  Seeking-sum searched s = grind (arith, common_steps, length-append)

  -- all that is held was searched, so the discarded and the held bytes have no LF
  module _ (s : Seeking gave old held before room passed (length held)) where
    pub Seeking-none : HasNoFeed (old ++ s.given)
    Seeking-none =
        search (rules, arith, All-append NoFeed s.front held s.none_passed, All-from_get_or NoFeed held 0)

    pub Seeking-not_old : Contains old 10 → ⊥
    Seeking-not_old has = All-contains NoFeed _ 10 Seeking-none (Contains-append_left old s.given 10 has) refl

    -- all that is held is discarded
    Seeking-passed : LINE_LIMIT + 1 < length held → Seeking gave old [] before room (passed + length held) 0
    Seeking-passed long = grind (arith, common_steps, length-append, Seeking-none)

    -- more was read and is held
    pub Seeking-filled : (then : List ℕ → Type 0) (after more : List ℕ) (n m : ℕ)
        → ((given : List ℕ) → gave given → then (given ++ more)) → length more ≡ n → n ≤ room
        → after ≡ held ++ more → m ≡ length held → Seeking then old after before (room - n) passed m
    Seeking-filled = grind (arith, common_steps, length-append, get_or_append_left)

    -- a read ended the search
    pub Seeking-ends : (step then : List ℕ → Type 0)
        → ((given more : List ℕ) → gave given → step more → then (given ++ more)) → (tally counted : Tally)
        → (fault : Fault) → EndsFill fault step room tally counted
        → (given : List ℕ) × then given × EndsSearch fault before old given tally counted
    Seeking-ends step then goes tally counted InputTooLong end =
        let front = old ++ s.given in
        let cut = ap (take (INPUT_LIMIT - before)) (sym (append_assoc old s.given (end.0 ∷ [])))
        ∙ take_at front (end.0 ∷ []) (INPUT_LIMIT - before) (omega (arith, s.room_is, end.2)) in
        grind (arith, common_steps, front, cut, length-append front (end.0 ∷ []), Seeking-none)
    Seeking-ends step then goes tally counted ReadFailed end = (
      s.given,
      subst then (append-nil s.given) (goes _ _ s.lead end.0),
      (omega (arith, s.room_is), Seeking-none, end.1),
    )
    Seeking-ends step then goes tally counted _ end = absurd end

-- the held bytes were searched without finding an LF, and are discarded if they are too long for a line
pub Seeking-step : (gave : List ℕ → Type 0) (old held shown after : List ℕ)
    (before room passed searched n : ℕ) → Seeking gave old held before room passed searched → shown ≡ held
    → ((k : ℕ) → searched ≤ k → k < length shown → slice_index shown k ≢ 10)
    → ((n ≡ 0) × (after ≡ held)) ⊎ ((n ≡ length held) × (LINE_LIMIT + 1 < n) × (after ≡ []))
    → Seeking gave old after before room (passed + n) (length after)
Seeking-step = search (rules, Seeking-searched, slice_index, Seeking-passed, ⊎_elim)
