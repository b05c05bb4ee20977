-- An open epoch is sound, and needs one more row.
use Rattle.crx_filter.proofs.Vocabulary.{◌≡◌, ℕ, ◌<◌, zero, suc, List, [], ◌∷◌, Option, Some, None, Result, Ok}
use Rattle.crx_filter.proofs.Vocabulary.{Err, refl, arith, ReadLine, Content, Overlong, Fault, Row, Count, head_of}
use Rattle.crx_filter.proofs.Vocabulary.{OpenEpoch, Beginning, EpochBegins, opened, rows_wanted, with_next_row}
use Rattle.crx_filter.proofs.Vocabulary.{next_row, beginning_of, when_wanted, after_row, epoch_step}
use Rattle.std.proofs.Common.{IfSome}
use Rattle.crx_header.specs.ObservationTypes.{AreCounts}
use Rattle.crx_rinex.specs.EpochPlaces.{still_open, opened_by, opened_at, open_after, open_with}
use Rattle.crx_rinex.proofs.SoundEpochs.{IsSoundSoFar, IsNext, IsSoundBeginning, next_sound, sound-next_row}
use Rattle.crx_rinex.proofs.SoundEpochs.{sound-opened, sound-head_of, begun_sound}

-- the properties of every open epoch
pub record IsOpenSoundly (so_far : OpenEpoch) : Type 0 where
  pub counts : AreCounts so_far.types
  pub sound : IsSoundSoFar so_far
  pub wants : 0 < rows_wanted so_far

when-sound : (n : ℕ) (so_far : OpenEpoch) → rows_wanted so_far ≡ n
    → AreCounts so_far.types → IsSoundSoFar so_far → IfSome (still_open (when_wanted n so_far)) IsOpenSoundly
when-sound zero so_far e counts h = tt
when-sound (suc n) so_far e counts h = record { counts = counts; sound = h; wants = omega (arith, e) }

row-sound : (so_far : OpenEpoch) (r : Result Row Fault)
    → IsOpenSoundly so_far → IsNext so_far r → IfSome (still_open (after_row so_far r)) IsOpenSoundly
row-sound so_far (Err fault) h n = tt
row-sound so_far (Ok row) h n = when-sound (rows_wanted (with_next_row so_far row))
    (with_next_row so_far row) refl h.counts (sound-next_row so_far row h.sound n)

step-sound : (so_far : OpenEpoch) (line : ReadLine)
    → IsOpenSoundly so_far → IfSome (still_open (epoch_step so_far line)) IsOpenSoundly
step-sound so_far Overlong h = tt
step-sound so_far (Content line) h = row-sound so_far (next_row so_far line) h
    (next_sound so_far line h.counts)

after-sound : (lines : List ReadLine) (begun : Option OpenEpoch)
    → IfSome begun IsOpenSoundly → IfSome (open_after begun lines) IsOpenSoundly
after-sound lines None h = tt
after-sound [] (Some so_far) h = h
after-sound (line ∷ lines) (Some so_far) h =
    after-sound lines (still_open (epoch_step so_far line)) (step-sound so_far line h)

begun-open : (types : List Count) (r : Result Beginning Fault)
    → AreCounts types → IsSoundBeginning r → IfSome (opened_by types r) IsOpenSoundly
begun-open types (Ok (EpochBegins head)) counts h =
    when-sound (rows_wanted (opened types head)) (opened types head) refl counts (sound-opened types head h)
begun-open types r counts h = tt

opened-sound : (types : List Count) (line : ReadLine) → AreCounts types
    → IfSome (opened_at types line) IsOpenSoundly
opened-sound types Overlong counts = tt
opened-sound types (Content line) counts =
    begun-open types (beginning_of line) counts (begun_sound line (head_of line) (sound-head_of line))

pub open-sound : (types : List Count) (lines : List ReadLine)
    → AreCounts types → IfSome (open_with types lines) IsOpenSoundly
open-sound types [] counts = tt
open-sound types (line ∷ lines) counts = after-sound lines (opened_at types line)
    (opened-sound types line counts)
