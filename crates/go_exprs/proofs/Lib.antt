pub mod PartsBelow
