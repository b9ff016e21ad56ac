pub mod RowPlan
