pub mod Laws
pub mod model
