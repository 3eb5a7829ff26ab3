pub mod FoundFiles
pub mod FoundUnits
pub mod OneAnswer
pub mod ToldFiles
