-- Each line's fate: the lines from which each unit was read, and the lines that each warning drops. In RINEX 3.05
-- (table A3, EPOCH record) and in Compact RINEX 3.0, a line that begins with > begins an epoch or an event. Lists of
-- items have the newest first.
use Rattle.std.specs.Prelude.{ℕ, ◌≡◌, ◌≤◌, ◌+◌, ◌-◌, max, not, true, None, List, [], ◌∷◌, ◌++◌, drop, length, map}
use Rattle.std.specs.List.{list_all}
use Rattle.crx_base.specs.meaning.AsRead.{ReadLine, as_read}
use Rattle.crx_base.specs.meaning.Choices.{Choices}
use Rattle.crx_base.specs.meaning.Lines.{lines_of, lines_text}
use Rattle.crx_rinex.specs.meaning.Observations.{Epoch}
use Rattle.crx_rinex.specs.meaning.Places.{Place, Done}
use Rattle.crx_rinex.specs.meaning.Units.{Unit}
use Rattle.crx_filter.specs.meaning.Compacted.{rinex_place, whole_rinex}
use Rattle.crx_filter.specs.meaning.Items.{Item, Accepted, Warned}
use Rattle.crx_filter.specs.meaning.Reading.{can_go_on}
use Rattle.crx_filter.specs.meaning.Standard.{checked, normal_form, printed_items}
use Rattle.crx_runs.specs.meaning.Results.{FilterResult}

-- an item owns the lines `own`, the first of which has this number. An accepted unit is read from its own lines, and
-- from no others, after the items before it. A warning names one of its own lines, or the line after them, which cut
-- the unit off. From the line that it names on, none of its own lines except the first begins with >: so a warning
-- drops no more than the lines up to the next >
abbrev pub Owns : {E : Type 0} → (List (Item E) → List ReadLine → Place (Unit E)) → List (Item E) → ℕ → Item E
    → List ReadLine → Type 0
Owns place before number (Accepted unit) own = place before own ≡ Done unit (length own)
Owns place before number (Warned at) own = (number ≤ at.line) × (at.line ≤ number + length own)
    × (list_all (λ (line : ReadLine). not (can_go_on line)) (drop (max (at.line - number) 1) own) ≡ true)

-- the lines that an item keeps of its own: an accepted unit keeps all, and a warning none
abbrev pub kept_of : {E : Type 0} → Item E → List ReadLine → List ReadLine
kept_of (Accepted unit) own = own
kept_of (Warned at) own = []

-- the items own these lines, the first of which has this number, in order and with no line between them. `kept`: the
-- lines that the items keep
abbrev pub OwnInOrder : {E : Type 0} → (List (Item E) → List ReadLine → Place (Unit E)) → ℕ → List (Item E)
    → List ReadLine → List ReadLine → Type 0
OwnInOrder place number [] lines kept = (lines ≡ []) × (kept ≡ [])
OwnInOrder place number (item ∷ before) lines kept = (front : List ReadLine) × (own : List ReadLine)
    × (others : List ReadLine) × (lines ≡ front ++ own) × (kept ≡ others ++ kept_of item own)
    × Owns place before (number + length front) item own × OwnInOrder place number before front others

-- if no fault ended a compaction, skipping faults is the same as leaving lines out: a file that has only the lines
-- that no warning drops has no fault, and its normal form is the text of the accepted units
abbrev pub LeavesLinesOut : Choices → List ℕ → FilterResult → Type 0
LeavesLinesOut choices file result =
    let items : List (Item Epoch) = (whole_rinex choices.skip (map as_read (lines_of file))).items in
    result.fault ≡ None → (kept : List ReadLine) × OwnInOrder rinex_place 1 items (map as_read (lines_of file)) kept
    × ((other : List ℕ) → map as_read (lines_of other) ≡ kept
    → ((checked other).fault ≡ None) × (normal_form other ≡ lines_text (printed_items items)))
