pub mod FieldReads
pub mod PackedReads
pub mod CheckReads
pub mod WholeReads
pub mod ValueLaws
pub mod FieldWalk
pub mod MessageReads
