pub mod ListedIntervals
pub mod GrowingRects
