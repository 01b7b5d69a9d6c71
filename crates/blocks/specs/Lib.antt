-- Block widths and lengths of files.
pub mod Block
pub mod Says
