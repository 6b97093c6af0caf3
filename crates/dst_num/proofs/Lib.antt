pub mod MapRules
pub mod TableRules
