pub mod Rooms
pub mod Messages
pub mod SheetText
pub mod SheetTextLaws
pub mod Reports
pub mod ReportLaws
