pub mod CalendarLaws
pub mod MonthsLaws
pub mod MaturityLaws
