pub mod LeafFaults
mod StartLaws
mod StartFits
mod BoxProofs
pub mod Units
pub mod KeptPromises
pub mod Opens
pub mod TreeProofs
pub mod KeptLeaves
pub mod NamedSites
pub mod WholeTimings
mod ArteryEnds
