pub mod Numbers
pub mod Rising
