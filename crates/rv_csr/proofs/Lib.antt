pub mod Fields
pub mod LegalStatus
pub mod LegalValues
pub mod FlagLemmas
pub mod WriteLemmas
pub mod Places
