use Rattle.std.proofs.Common.{Bool, List, ap, length, map, sym, ◌∙◌, subst}
use Rattle.go_declarations.specs.Listings.{declarations_of}
use Rattle.go_exposed.specs.ExposedDeclarations.{is_offered}
use Rattle.go_graphs.specs.Flags.{AreFlagsOf}
use Rattle.go_seen.proofs.OfferedFlags.{flags_of_map}
use Rattle.go_seen.specs.Offered.{IsOfferedAt, offers}
use Rattle.go_sources.specs.UnitSources.{source_of}
use Rattle.go_typings.specs.Declarations.{Declaration, declarations}
use Rattle.go_typings.specs.PackageWorlds.{is_public}
use Rattle.go_seen.proofs.offered.offered.Goals as goal

pub returns : goal.returns
returns c =
    let u = source_of c.args.unit.now in
    let ds = declarations u in
    subst (λ (xs : List Bool). AreFlagsOf (length ds) (IsOfferedAt u) xs)
    (sym (c.in_ok-flags.ensures ∙ ap (λ (b : Bool). map (offers u.from_std b) (declarations_of c.args.declarations.now)) c.is_public-public.ensures ∙ ap (λ (es : List Declaration). map (offers u.from_std (is_public u)) es) c.requires))
    (flags_of_map (λ (d : Declaration). is_offered u d.form) ds)
