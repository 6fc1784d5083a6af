pub mod Relaxed
pub mod Lineage
pub mod Firsts
pub mod BoxLaws
pub mod EndLaws
pub mod LeafWeights
pub mod Recoveries
pub mod Choices
