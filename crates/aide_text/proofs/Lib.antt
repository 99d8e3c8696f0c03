pub mod Laying
pub mod Sending
pub mod Sheets
pub mod Pieces
pub mod Laws
pub mod PlainLemmas
pub mod DigestTexts
