-- The units saved of a damaged text: only the lines of its block are lost.
pub mod CutOffEpochs
pub mod BlockReading
pub mod ResumedEpochs
pub mod TextAfter
pub mod ItemTexts
pub mod DamagedText
pub mod SavedText
pub mod DamageStays
pub mod BlockCompactedHere
