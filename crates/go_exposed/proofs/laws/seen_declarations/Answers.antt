use Rattle.go_exposed.proofs.SeenKept.{found_seen, not_unsound, seen_kept, seen_sound}
use Rattle.go_exposed.proofs.laws.seen_declarations.Goals as goal

pub returns-clause-kept : goal.returns-clause-kept
returns-clause-kept c = λ s u S a n k e. seen_kept s u S a n k e

pub returns-clause-sound : goal.returns-clause-sound
returns-clause-sound c = λ s u p n o e. seen_sound s u p n o e

pub returns-clause-found : goal.returns-clause-found
returns-clause-found c = λ s u p n i o e k. found_seen u n i o.found e k

pub returns-clause-refused : goal.returns-clause-refused
returns-clause-refused c = λ s u n e h none. not_unsound s u none n e h
