pub mod Written
pub mod LeafLaws
