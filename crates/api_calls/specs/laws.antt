pub mod GrowthLaws
pub mod ItemCode
pub mod ObjectLaws
pub mod SettingGuards
pub mod SpelledLaws
