pub mod March
pub mod Laws
pub mod DayNumber
pub mod DayNumberLaws
