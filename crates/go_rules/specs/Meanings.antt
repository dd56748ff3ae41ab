-- What a look-up of a name gave, as the definitions have it.
-- Own: words on look-ups.
use Rattle.std.specs.Prelude.{Option, Some, None}
use Rattle.go_rules.specs.declared.meaning.Meaning.{Meaning}
use Rattle.go_rules.specs.declared.meaning.Meaning.TheVariants as m
use Rattle.go_rules.specs.declared.seen.Seen.{Seen}
use Rattle.go_rules.specs.declared.seen.Seen.TheVariants as seen

-- the meaning that is borrowed
abbrev pub seen_of : Meaning → Seen
seen_of (m.Local term) = seen.Local term.now
seen_of (m.LocalConst term value) = seen.LocalConst term.now value.now
seen_of (m.Object entity) = seen.Object entity.now
seen_of (m.Import path) = seen.Import path.now
seen_of (m.Universe p) = seen.Universe p

abbrev pub as_seen : Option Meaning → Option Seen
as_seen None = None
as_seen (Some meaning) = Some (seen_of meaning)
