pub mod AttributeWords
pub mod Declarations
pub mod Forms
