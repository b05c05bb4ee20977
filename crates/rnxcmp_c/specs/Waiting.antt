-- The texts of a handle, for its caller.
use Rattle.std.specs.Prelude.{◌≡◌, ◌⊎◌, ◌<◌, ℕ, ◌+◌, List, drop, length, min, vec_capacity}
use Rattle.rnxcmp_c.specs.declared.limits.TheConstants.{WAITING_LIMIT}
use Rattle.rnxcmp_c.specs.declared.pending.Pending.{Pending}

-- the bytes that wait to be taken
abbrev pub waiting : Pending → List ℕ
waiting p = drop p.passed p.bytes.items

-- how many bytes of the buffer are taken after `count` more
abbrev pub handed_with : Pending → ℕ → ℕ
handed_with p count = p.passed + min (length (waiting p)) count

-- `count` bytes were refused: too many bytes would wait, or the buffer was too small for them
abbrev pub IsTextRefused : Pending → ℕ → Type 0
IsTextRefused p count = (WAITING_LIMIT < length (waiting p) + count)
    ⊎ (vec_capacity p.bytes < length p.bytes.items + count)

-- the counters are the same
pub record CountsAlike (before after : Pending) : Type 0 where
  pub failures : after.failures ≡ before.failures
  pub flushes : after.flushes ≡ before.flushes
  pub flushed : after.flushed ≡ before.flushed
