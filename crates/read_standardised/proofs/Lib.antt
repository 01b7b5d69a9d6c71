pub mod CallsRead
pub mod JoinLaws
pub mod Never14
