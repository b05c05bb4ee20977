-- A satellite's indicators and cells with another number of types.
use Rattle.crx_compact.proofs.Vocabulary.{◌≡◌, ◌≤◌, ℕ, ◌-◌, List, ◌++◌, length, take, replicate, Option, ◌*◌}
use Rattle.crx_compact.proofs.Vocabulary.{list_all, arith, take-take, take_all, LINE_LIMIT, without_end_blanks}
use Rattle.crx_compact.proofs.Vocabulary.{is_kept, at-without_end_blanks, list_all-from_at, few_kept, ArcTail}
use Rattle.crx_compact.proofs.{Characters.{all-take, list_all-at, same_characters}, CellsFor.cells-again}
use Rattle.crx_compact.proofs.{PlaceByPlace.{at-padded, at-take}, SoundTexts.same-cut}
use Rattle.std.proofs.{lemmas.Grind.common_steps, lemmas.List.length-take}
use Rattle.crx_compact.specs.{Placing.{SatelliteTail, cells_for, resized}, HeldRows.AreHeldFlags}

-- the satellite in vectors, of which `count` types are in use
abbrev pub stored : List ℕ → List (Option ArcTail) → ℕ → ℕ → SatelliteTail
stored indicators arcs count room =
    record {
      flags = without_end_blanks (take (2 * count) indicators);
      cells = cells_for count arcs;
      room = room;
    }

pub fewer-held : (flags : List ℕ) (m n : ℕ) → n ≤ m
    → AreHeldFlags (take m flags) → AreHeldFlags (take n flags)
fewer-held flags m n h held =
    let kept = all-take is_kept n (take m flags) held.kept in
    grind (arith, common_steps, length-take, take-take n m flags h, kept)

pub fewer-types : (indicators : List ℕ) (arcs arcs' : List (Option ArcTail)) (count n room : ℕ)
    → n ≤ count → length arcs ≤ count → cells_for n arcs' ≡ cells_for n arcs
    → stored indicators arcs' n room ≡ resized n (stored indicators arcs count room)
fewer-types indicators arcs arcs' count n room h k same =
    grind (arith, cells-again, take-take, same-cut, at-without_end_blanks, at-take)

pub more-held : (flags more : List ℕ) (k : ℕ) → more ≡ flags ++ replicate k 32
    → length more ≤ LINE_LIMIT → AreHeldFlags flags → AreHeldFlags more
more-held flags more k e few held =
    grind (arith, common_steps, list_all, is_kept, list_all-from_at, at-padded, list_all-at)

pub more-types : (indicators indicators' : List ℕ) (arcs : List (Option ArcTail)) (count n room : ℕ)
    → count ≤ n → length arcs ≤ count
    → take (2 * n) indicators' ≡ take (2 * count) indicators ++ replicate (2 * n - 2 * count) 32
    → stored indicators' arcs n room ≡ resized n (stored indicators arcs count room)
more-types indicators indicators' arcs count n room h k flags =
    let cells = cells-again arcs count n k in
    grind (arith, length-take, few_kept, same_characters, at-padded, at-without_end_blanks, take_all)
