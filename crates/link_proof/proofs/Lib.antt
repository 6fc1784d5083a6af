pub mod LinkTimings
pub mod GrownLinkTimings
pub mod LinkTexts
pub mod LinkMeaning
pub mod LinkRefusalsFirst
