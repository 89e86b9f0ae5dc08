pub mod ConfigFaults
pub mod ConfigLaws
pub mod ConfigMerging
pub mod ConfigReading
pub mod SettingTable
pub mod SettingValues
