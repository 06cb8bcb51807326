pub mod SpreadText
