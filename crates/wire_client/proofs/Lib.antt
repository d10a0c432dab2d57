mod Coming
mod Items
mod NumberTexts
mod ByCode
mod Paging
mod Keyed
mod PageFaults
