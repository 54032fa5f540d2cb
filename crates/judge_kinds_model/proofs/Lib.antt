pub mod Examples
pub mod KindTables
pub mod Exchange
pub mod SameLayout
pub mod Judging
pub mod Padding
