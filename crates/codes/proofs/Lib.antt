pub mod ValueLaws
pub mod CodeLaws
pub mod PlinkLaws
