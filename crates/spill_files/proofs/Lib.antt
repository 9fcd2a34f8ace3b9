pub mod PartLengths
