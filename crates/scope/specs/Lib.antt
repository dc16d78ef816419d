-- What a scope of the code shows of a scope of the definitions.
pub mod Shows
