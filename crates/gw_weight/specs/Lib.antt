pub mod Books
pub mod Equal
pub mod Fair
pub mod Inside
