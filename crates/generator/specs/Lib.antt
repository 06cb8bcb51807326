pub mod Xorshift
