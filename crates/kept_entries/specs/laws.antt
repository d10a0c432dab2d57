pub mod EntryCode
