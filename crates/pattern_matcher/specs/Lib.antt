pub mod PatternMatching
pub mod PatternTables
pub mod ReadViews
pub mod SchemaPatterns
