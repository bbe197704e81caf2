mod ListLemmas
mod Ruling
