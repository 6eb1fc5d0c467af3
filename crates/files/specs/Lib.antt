-- Definitions that the contracts cite (Bytes, Entries, Files, Force), the laws of them, and worked examples.
pub mod Bytes
pub mod BytesLaws
pub mod Entries
pub mod EntryLaws
pub mod Files
pub mod Kinds
pub mod Force
pub mod Examples
pub mod Statements
