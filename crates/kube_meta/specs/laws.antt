pub mod KeyOrder
pub mod PlanLaws
pub mod WindowLaws
