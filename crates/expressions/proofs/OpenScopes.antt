-- How many scopes are open inside of a package's stays as it is where a name is declared.
use Rattle.std.proofs.Common.{◌≡◌, ℕ, List, [], ◌∷◌, length, refl, ap, ◌∙◌, OnOk, OnErr}
use Rattle.std.specs.declared.result.Result.{Result}
use Rattle.std.specs.declared.result.Result.TheVariants.{Ok, Err}
use Rattle.go_rules.specs.Names.{Named}
use Rattle.go_rules.specs.Scopes.{Scopes, declared_in, with_meaning}
use Rattle.go_rules.specs.declared.env.DeclareError.{DeclareError}
use Rattle.go_rules.specs.declared.seen.Seen.{Seen}

as_many : (s : Scopes) (o : List (Named Seen)) (n : List ℕ) (m : Seen) → s.opened ≡ o → length (declared_in s o n m).opened ≡ length o
as_many s [] n m e = ap length e
as_many s (x ∷ xs) n m e = refl

pub declared_opened : (old new : Scopes) (n : List ℕ) (m : Seen) (r : Result (Unit {0}) DeclareError) → OnOk r (new ≡ with_meaning old n m) → OnErr r (new ≡ old) → length new.opened ≡ length old.opened
declared_opened old new n m (Ok u) h k = ap (λ s. length s.opened) h ∙ as_many old old.opened n m refl
declared_opened old new n m (Err e) h k = ap (λ s. length s.opened) k
