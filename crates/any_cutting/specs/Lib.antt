pub mod AnyCutting
