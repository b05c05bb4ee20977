pub mod meaning
pub mod Texts
pub mod Codes
pub mod Digits
pub mod FirstDigits
pub mod FieldTexts
pub mod Fields
pub mod Numbers
