-- What a word of the array of classes means, when the array is right, and how it is filled.
pub mod Classes
pub mod Climbs
