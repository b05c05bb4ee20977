-- The text of an epoch line is read as its columns and satellites; and texts of coded values.
use Rattle.crx_compact.proofs.Vocabulary.{◌≡◌, refl, true, false, List, ◌∷◌, [], ℕ, drop}
use Rattle.crx_compact.proofs.Vocabulary.{Ok, ◌+◌, ◌*◌, arith, and_parts, rules, length, Row}
use Rattle.crx_compact.proofs.Vocabulary.{Epoch, Count, IsWholeEpoch, begins_epoch}
use Rattle.crx_compact.proofs.Vocabulary.{columns, epoch_text, satellites_of_text, few_kept}
use Rattle.crx_compact.proofs.Vocabulary.{at-append_past}
use Rattle.crx_compact.proofs.Vocabulary.{list_all, without_end_blanks, at-without_end_blanks, common_steps}
use Rattle.crx_compact.proofs.wayback.WritableEpochs.{head-counted, typed-rows, text-head, length-text, names-read}
use Rattle.crx_compact.proofs.wayback.WritableEpochs.{satellites_of_rows, satellites-good}
use Rattle.crx_compact.proofs.{SoundTexts.first-columns, anywriter.Texts.is_code_character}
use Rattle.crx_compact.proofs.{Identifiers.none-earlier}
use Rattle.std.proofs.Common.{drop_of_length-le}

-- ---- the epoch line

pub text-columns : (types : List Count) (e : Epoch)
    → IsWholeEpoch types e → columns (without_end_blanks (epoch_text e)) 1 41 ≡ e.head
text-columns types e h = search (rules, first-columns, at-without_end_blanks, text-head)

pub text-good : (types : List Count) (e : Epoch) → IsWholeEpoch types e
    → satellites_of_text types (without_end_blanks (epoch_text e)) ≡ Ok (satellites_of_rows e.rows)
text-good types e h =
    let text = without_end_blanks (epoch_text e) in
    let rows = typed-rows types e h in
    let rest : drop (41 + 3 * length e.rows) text ≡ [] =
    drop_of_length-le text (omega (arith, few_kept (epoch_text e), length-text types e h)) in
    let names = names-read types text 41 e.rows rows
    (λ p. grind (arith, common_steps, at-without_end_blanks, at-append_past)) in
    rw (text-columns types e h, head-counted types e h, rest, names)
    (satellites-good types [] e.rows rows (none-earlier (λ (r : Row). r.name) e.rows) h.sound.apart)

-- ---- lines of coded values

pub text-other : (text : List ℕ) → list_all is_code_character text ≡ true → begins_epoch text ≡ false
text-other x h = grind (arith, common_steps)

pub no-end_blanks : (text : List ℕ) → list_all is_code_character text ≡ true → without_end_blanks text ≡ text
no-end_blanks [] h = refl
no-end_blanks (c ∷ cs) h =
    grind (arith, no-end_blanks cs (and_parts (is_code_character c) (list_all is_code_character cs) h).1)
