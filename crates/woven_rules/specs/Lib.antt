pub mod WovenRules
