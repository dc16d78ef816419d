-- Scopes of stretches, and when they show the forests of an environment.
pub mod Shows
