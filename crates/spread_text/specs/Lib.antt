pub mod SpreadWords
