pub mod WrittenUnits
