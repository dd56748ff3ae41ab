use Rattle.std.proofs.Common.{◌≡◌, ◌≢◌, ℕ, List, [], Option, None, refl, subst, sym}
use Rattle.std.specs.Prelude.{IfOk}
use denote.Ref.{Bor}
use Rattle.go_client_typings.specs.declared.vetted.Vetted.TheVariants as vetted
use Rattle.go_client_units.specs.declared.units.ClientUnit.{ClientUnit}
use Rattle.go_clients.proofs.VettedClients.{absent_path}
use Rattle.go_clients.specs.Vetting.{IsClientPath, IsVettedAs, client_in}
use Rattle.go_base.specs.Keys.{first_with}
use Rattle.go_model.proofs.Paths.{client_some}
use Rattle.go_model.specs.worlds.Worlds.{path_of}
use Rattle.go_clients.proofs.vet.vet.Goals as goal

pub vet_unit-requires-clause-pathed : goal.vet_unit-requires-clause-pathed
vet_unit-requires-clause-pathed c = subst (λ (p : List ℕ). p ≢ []) (sym (subst (λ (o : Option (Bor ClientUnit)). IsClientPath (client_in o)) c.in-Some.is c.requires.path)) client_some

pub vet_unit-requires-clause-absent : goal.vet_unit-requires-clause-absent
vet_unit-requires-clause-absent c =
    let w = c.args.world.now in
    let is = subst (λ (o : Option (Bor ClientUnit)). IsClientPath (client_in o)) c.in-Some.is c.requires.path in
    subst (λ (p : List ℕ). first_with path_of w.packages p ≡ None) (sym is) (absent_path w.packages _ (c.client_absent.ensures.packages w c.packages-packages.ensures.world))

pub returns-in-None : goal.returns-in-None
returns-in-None c = subst (λ (o : Option (Bor ClientUnit)). IsVettedAs c.args.world.now c.args.bits (client_in o) vetted.InProfile) (sym c.in-None.is) refl

pub returns-in-Some : goal.returns-in-Some
returns-in-Some c = subst (λ (o : Option (Bor ClientUnit)). IfOk c.vet_unit.result (IsVettedAs c.args.world.now c.args.bits (client_in o))) (sym c.in-Some.is) c.vet_unit.ensures
