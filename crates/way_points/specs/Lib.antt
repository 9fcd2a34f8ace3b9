pub mod PointRows
