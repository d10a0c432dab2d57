pub mod Offered
pub mod SettingTexts
