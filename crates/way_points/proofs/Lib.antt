pub mod InOrder
pub mod Joined
pub mod Orders
pub mod OfWay
