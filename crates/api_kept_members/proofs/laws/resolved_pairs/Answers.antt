use Rattle.api_correspond.specs.Publics.{types_of}
use Rattle.api_kept_members.proofs.Resolving.{leaves_resolve}
use Rattle.api_kept_members.proofs.ResolvingPairs.{pair_resolves}
use Rattle.api_kept_members.proofs.laws.resolved_pairs.Goals as goal

pub returns : goal.returns
returns c = λ old new i j owner p o. let h = pair_resolves old new i j o in (leaves_resolve (types_of old) p.old h.0, leaves_resolve (types_of new) p.new h.1)
