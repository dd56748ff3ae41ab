pub use Rattle.api_kept_relations.specs as api_kept_relations
pub use Rattle.go_unit_worlds.specs.go_std_worlds as go_std_worlds
pub use Rattle.go_unit_worlds.specs as go_unit_worlds
