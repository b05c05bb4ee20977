-- The output and messages after damage: the texts of items one after another, and the epochs among them.
use Rattle.crx_filter.proofs.Vocabulary
use Vocabulary.{◌≡◌, List, [], ◌∷◌, ◌++◌, refl, ap}
use Vocabulary.{sym, ◌∙◌, arith, append_assoc, append-nil, At, Epoch}
use Vocabulary.{FileUnit, ReadEpoch, Item}
use Vocabulary.{warnings_in, expanded_lines}
use Rattle.crx_filter.proofs.damage.ResumedEpochs.{with_warnings}
use Rattle.crx_filter.proofs.wayback.{UnitsReadAgain.units_in, Units.units-again}
use Rattle.crx_filter.proofs.anywriter.TextCompactedHere.{units-append}
use Vocabulary.{common_steps}
use Rattle.crx_filter.specs.meaning.{Damage.epochs_among, UnitsAndText.as_items, WrittenStandard.rinex_items}

-- ---- the output

pub lines-append : (later before : List (Item ReadEpoch))
    → expanded_lines (later ++ before) ≡ expanded_lines before ++ expanded_lines later
lines-append [] before = sym (append-nil (expanded_lines before))
lines-append (item ∷ later) before = grind (arith, common_steps, lines-append later before, append_assoc)

pub lines-warned : (warnings : List At) (items : List (Item ReadEpoch))
    → expanded_lines (with_warnings warnings items) ≡ expanded_lines items
lines-warned [] items = refl
lines-warned (at ∷ older) items = lines-warned older items

-- ---- the messages

pub warnings-append : (later before : List (Item ReadEpoch))
    → warnings_in (later ++ before) ≡ warnings_in later ++ warnings_in before
warnings-append [] before = refl
warnings-append (item ∷ later) before = grind (arith, warnings-append later before)

pub warnings-with : (warnings : List At) (items : List (Item ReadEpoch))
    → warnings_in (with_warnings warnings items) ≡ warnings ++ warnings_in items
warnings-with [] items = refl
warnings-with (at ∷ older) items = ap (λ w. at ∷ w) (warnings-with older items)

-- ---- the epochs read

-- the epochs among some items, the oldest first
abbrev pub epochs_of : List (Item ReadEpoch) → List Epoch
epochs_of items = epochs_among (units_in (rinex_items items))

rinex-append : (later before : List (Item ReadEpoch))
    → rinex_items (later ++ before) ≡ rinex_items later ++ rinex_items before
rinex-append [] before = refl
rinex-append (item ∷ later) before = grind (arith, rinex-append later before)

pub among-append : (later before : List (FileUnit Epoch))
    → epochs_among (later ++ before) ≡ epochs_among before ++ epochs_among later
among-append [] before = sym (append-nil (epochs_among before))
among-append (unit ∷ later) before = grind (arith, common_steps, among-append later before, append_assoc)

pub epochs-append : (later before : List (Item ReadEpoch))
    → epochs_of (later ++ before) ≡ epochs_of before ++ epochs_of later
epochs-append later before = grind (arith, common_steps, rinex-append, units-append, among-append, units_in)

pub epochs-known : (items : List (Item ReadEpoch)) (units : List (FileUnit Epoch))
    → rinex_items items ≡ as_items units
    → epochs_of items ≡ epochs_among units
epochs-known items units known =
    ap (λ is. epochs_among (units_in is)) known ∙ ap epochs_among (units-again units)
