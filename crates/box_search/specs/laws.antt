pub mod VertexOutcomes
pub mod Lineage
pub mod RunLaws
pub mod Endings
pub mod Duality
pub mod Standing
pub mod Tightening
