pub mod HasOpening
pub mod WrittenLaws
