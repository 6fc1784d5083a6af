pub mod Asked
pub mod Laws
pub mod PlanLaws
pub mod StopLaws
pub mod EndLaws
pub mod LimitLaws
pub mod WholeLaws
pub mod ExplainLaws
