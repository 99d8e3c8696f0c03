pub mod Laws
mod RunParts
mod Uniqueness
