pub mod Booleans
pub mod Keys
pub mod Cases
pub mod ItemLaws
