pub mod Seeks
pub mod Answers
pub mod ReadCases
pub mod AppendCases
pub mod RewriteCases
pub mod SweepLaws
pub mod DeleteCases
pub mod FreshLaws
