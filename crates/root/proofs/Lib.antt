-- The laws of the root, over the format and on plain numbers. `Roots` is what another crate cites.
mod PatternLaws
pub mod Roots
mod WholeLaws
mod RoundedLaws
mod CaseLaws
mod Examples
