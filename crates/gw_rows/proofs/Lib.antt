pub mod Combined
pub mod Firsts
pub mod Foremost
pub mod Ordered
