pub mod Faithfulness
pub mod Fills
pub mod Systems
pub mod Runs
pub mod Internal
