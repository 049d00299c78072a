pub mod Lines
pub mod Hellos
pub mod Statuses
pub mod Meetings
