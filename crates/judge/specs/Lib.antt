pub mod PlanVerdicts
pub mod EnumNumbers
