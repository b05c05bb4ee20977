-- A CR at the end of a text.
use Rattle.std.proofs.Common.{◌≡◌, ◌==◌, ℕ, ◌+◌, ◌-◌, ◌≤◌, ◌<◌, suc, Bool, ◌&&◌, not, List, [], ◌∷◌, length}
use Rattle.std.proofs.Common.{take, get_or, slice_range, slice_set, refl, ap, arith}
use Rattle.std.proofs.{Common.{length-take, length-drop}, lemmas.{Grind.common_steps}}
use Rattle.std.proofs.lemmas.List.{take-take, get_or-take, get_or-drop}
use Rattle.crx_base.specs.meaning.Lines.{InputLine, line_of, without_return, ends_with_return}
use Rattle.crx_lines.proofs.WindowLemmas.{untouched}
use mir.Val.{bool_byte}

-- at most one byte is taken off
pub length-without_return : (xs : List ℕ)
    → (length (without_return xs) ≤ length xs) × (length xs ≤ length (without_return xs) + 1)
length-without_return (x ∷ y ∷ ys) = grind (arith, common_steps, length-without_return (y ∷ ys))
length-without_return xs = grind (arith, common_steps)

-- the last byte decides
ends_with_return-last : (x : ℕ) (xs : List ℕ) (d : ℕ)
    → ends_with_return (x ∷ xs) ≡ (get_or (x ∷ xs) (length xs) d == 13)
ends_with_return-last x [] d = refl
ends_with_return-last x (y ∷ ys) d = ends_with_return-last y ys d

pub returned-last : (xs : List ℕ) (n d : ℕ) → length xs ≡ n + 1 → ends_with_return xs ≡ (get_or xs n d == 13)
returned-last [] n d long = absurd (omega (arith, long))
returned-last (x ∷ xs) n d long = grind (arith, common_steps, ends_with_return-last)

returned-within : (xs : List ℕ) → bool_byte (ends_with_return xs) ≤ length xs
returned-within (x ∷ y ∷ ys) = omega (arith, returned-within (y ∷ ys))
returned-within xs = grind (arith, common_steps)

-- the bytes left are those in front
pub without_return-front : (xs : List ℕ) (n : ℕ)
    → length xs ≡ n + bool_byte (ends_with_return xs) → without_return xs ≡ take n xs
without_return-front (x ∷ y ∷ ys) (suc n) long =
    ap (λ l. x ∷ l) (without_return-front (y ∷ ys) n (omega (arith, long)))
without_return-front xs n long = grind (arith, common_steps)

-- the first bytes of a part of the window, if it holds them
module _ (xs : List ℕ) (start end n : ℕ) (inside : start + n ≤ end) (within : end ≤ length xs) where
  abbrev first : List ℕ
  first = take n (slice_range xs start end)

  len : length first ≡ n
  len = grind (arith, common_steps, length-take, slice_range, length-drop)

  -- they end with CR if the last of them is one
  pub last-byte : (d : ℕ) → 0 < n → ends_with_return (take n (slice_range xs start end))
      ≡ (get_or xs (start + n - 1) d == 13)
  last-byte d some = grind (arith, common_steps, get_or-take, get_or-drop, returned-last first (n - 1) d)

  -- as a line, after a blank was put behind its content
  pub cut-line : (place : ℕ) (has_return is_ended : Bool)
      → has_return ≡ ends_with_return (take n (slice_range xs start end))
      → place ≡ start + n - bool_byte has_return → ◌≡◌ {A = InputLine}
      (record {
        content = slice_range (slice_set xs place 32) start place;
        is_plain = is_ended && not has_return;
      })
      (line_of (record { bytes = take n (slice_range xs start end); is_ended = is_ended }))
  cut-line place has_return is_ended returned at =
      let some : bool_byte has_return ≤ n = rw returned (omega (arith, len, returned-within first)) in
      let content : slice_range xs start place ≡ without_return first =
      rw (without_return-front first (place - start) (rw (← returned) (omega (arith, len, some, at))))
      (grind (arith, common_steps, take-take)) in
      grind (arith, common_steps, untouched, content, returned)
