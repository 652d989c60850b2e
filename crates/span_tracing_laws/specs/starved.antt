pub mod StarvedCounts
