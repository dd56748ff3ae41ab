pub use Rattle.go_references.specs.go_base as go_base
pub use Rattle.go_rules.specs.go_model as go_model
pub use Rattle.go_references.specs as go_references
pub use Rattle.go_rules.specs as go_rules
pub use Rattle.go_references.specs.go_syntax as go_syntax
pub mod Sources
pub mod Declarations
pub mod Receivers
pub mod Assignments
pub mod PackageEnvironments
pub mod Initializers
pub mod DeclarationRules
pub mod ConstantKinds
pub mod DeclarationNodes
pub mod DeclarationAsks
pub mod References
pub mod ReachedPackages
pub mod Typings
pub mod Redeclarations
pub mod Refusals
pub mod TypedPackages
pub mod PackageWorlds
