pub mod Put
pub mod Made
pub mod FrontEdges
