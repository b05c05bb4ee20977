-- The search for the end of a line, between two reads. No public clause cites this module.
use Rattle.std.specs.Prelude.{◌≡◌, ◌≢◌, ℕ, ◌+◌, ◌-◌, ◌<◌, ◌≤◌, List, ◌++◌, ◌⊎◌, length, slice_index, take}
use Rattle.crx_lines.specs.meaning.Devices.{Tally, with_failure}
use Rattle.crx_lines.specs.Reading.{HasNoFeed}
use Rattle.crx_base.specs.declared.fault.Fault.{Fault}
use Rattle.crx_base.specs.declared.fault.Fault.TheVariants.{InputTooLong, ReadFailed}
use Rattle.crx_base.specs.declared.limits.TheConstants.{INPUT_LIMIT, LINE_LIMIT}

-- the old bytes and the bytes read are the discarded ones, without LF, and then the `held` ones; the first
-- `searched` of these have no LF; and `room` more bytes are within the limit
pub record Seeking (gave : List ℕ → Type 0) (old held : List ℕ) (before room passed searched : ℕ) : Type 0
  where
    pub given : List ℕ
    pub front : List ℕ
    pub lead : gave given
    pub input : old ++ given ≡ front ++ held
    pub room_is : before + length (old ++ given) + room ≡ INPUT_LIMIT
    pub passed_is : length front ≡ passed
    pub far : (passed ≡ 0) ⊎ (LINE_LIMIT + 1 < passed)
    pub none_passed : HasNoFeed front
    pub none_searched : (k : ℕ) → k < searched → slice_index held k ≢ 10
    pub searched_within : searched ≤ length held

-- the end of the search: the bytes read go past the limit without an LF within it, or a read failed after
-- bytes without LF; and the source's tally then
abbrev pub EndsSearch : Fault → ℕ → List ℕ → List ℕ → Tally → Tally → Type 0
EndsSearch InputTooLong before old given tally counted = (INPUT_LIMIT < before + length (old ++ given))
    × HasNoFeed (take (INPUT_LIMIT - before) (old ++ given)) × (counted ≡ tally)
EndsSearch ReadFailed before old given tally counted = (before + length (old ++ given) ≤ INPUT_LIMIT)
    × HasNoFeed (old ++ given) × (counted ≡ with_failure tally)
EndsSearch _ before old given tally counted = ⊥
