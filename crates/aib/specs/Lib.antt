pub mod Pairs
pub mod Counters
pub mod PairLaws
