pub mod CommonNames
