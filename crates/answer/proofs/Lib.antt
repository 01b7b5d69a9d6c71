pub mod Tests
pub mod AnswerLaws
pub mod Tabulate
pub mod HowMany
pub mod MatrixLaws
