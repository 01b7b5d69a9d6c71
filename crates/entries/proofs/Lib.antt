pub mod EntryLaws
pub mod SpanLaws
pub mod SpanExamples
