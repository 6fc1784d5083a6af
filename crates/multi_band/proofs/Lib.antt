pub mod LinkNumbers
pub mod LinkTimings
pub mod LinkMeant
pub mod WorkedVerticesKept
pub mod WorkedOutcomesKept
pub mod LinkFits
pub mod LinkStartFits
mod LinkLeafProofs
mod LinkKeptLeaves
mod LinkSitesNamed
mod LinkAnswers
pub mod LinkEnds
pub mod LinkStarts
pub mod FarRows
pub mod LinkLeaves
pub mod LinkRecoveries
pub mod LinkSoundness
pub mod LinkLines
pub mod LinkOpenings
pub mod LinkTables
