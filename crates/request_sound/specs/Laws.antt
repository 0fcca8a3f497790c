pub mod Lists
pub mod Columns
pub mod Keys
pub mod Row
pub mod Model
pub mod Whole
