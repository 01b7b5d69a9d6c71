-- What the proofs of several functions use, and those of the C interface.
pub mod AnswerLaws
pub mod FitLaws
