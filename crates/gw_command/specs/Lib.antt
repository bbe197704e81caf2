pub mod Faults
pub mod Plain
pub mod Readings
pub mod SeenTasks
pub mod Starts
pub mod Words
