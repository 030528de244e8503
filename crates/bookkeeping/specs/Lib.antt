pub mod Every
pub mod Card
