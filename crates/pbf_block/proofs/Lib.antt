pub mod BlockReads
pub mod StringReads
