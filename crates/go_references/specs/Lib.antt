pub use Rattle.go_syntax.specs.go_base as go_base
pub use Rattle.go_syntax.specs as go_syntax
pub mod Reference
pub mod References
