pub mod Rows
pub mod PlanLaws
