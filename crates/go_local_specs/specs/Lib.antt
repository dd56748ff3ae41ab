pub mod LocalForms
