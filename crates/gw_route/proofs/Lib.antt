pub mod FieldNames
pub mod Lists
