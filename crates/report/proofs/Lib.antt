pub mod ReportLaws
pub mod Write
