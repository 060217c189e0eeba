pub mod Rules
pub mod Marks
pub mod Headers
pub mod HeaderRules
pub mod Keys
