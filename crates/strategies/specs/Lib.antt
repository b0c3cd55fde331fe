pub mod AnyNode
pub mod Laws
