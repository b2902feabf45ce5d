pub mod Day
pub mod MonthStarts
pub mod Examples
