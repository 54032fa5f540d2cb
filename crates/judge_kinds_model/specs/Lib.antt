pub mod KindTables
pub mod Exchange
pub mod Judging
