pub mod Planning
pub mod Desk
pub mod Worked
