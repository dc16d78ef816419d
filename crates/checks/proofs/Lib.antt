-- Proofs of the checks.
pub mod Answering
