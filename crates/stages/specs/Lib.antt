pub mod Said
pub mod Count
