pub mod Uncrowded
