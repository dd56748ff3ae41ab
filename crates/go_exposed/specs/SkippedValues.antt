-- What the values of the calls say is left out.
-- Own.
use Rattle.std.specs.Prelude.{List, map}
use Rattle.go_exposed.specs.Causes as spec
use Rattle.go_exposed.specs.SkippedDeclarations as spec_of
use Rattle.go_exposed.specs.declared.skipped.Cause.{Cause}
use Rattle.go_exposed.specs.declared.skipped.Cause.TheVariants as cause
use Rattle.go_exposed.specs.declared.skipped.Skipped.{Skipped}

abbrev pub cause_of : Cause → spec.Cause
cause_of cause.Number = spec.number
cause_of cause.ConstantType = spec.constant_type
cause_of cause.ImportNotFound = spec.import_not_found
cause_of (cause.By name) = spec.by_another name

abbrev pub skipped_of : Skipped → spec_of.Skipped
skipped_of s = record { place = s.place; names = s.names; cause = cause_of s.cause }

abbrev pub all_skipped : List Skipped → List spec_of.Skipped
all_skipped xs = map skipped_of xs
