-- All of an environment is a closed region: what holds in a region and among more entries holds among more entries.
use Rattle.std.proofs.Common.{ℕ, true, List, [], ◌∷◌, refl}
use Rattle.go_references.specs.go_base.Lists.{Each, Passes}
use Rattle.go_rules.specs.go_model.declared.types.names.TypeName.{TypeName}
use Rattle.go_rules.specs.go_model.declared.types.package.ConstTerm.TheVariants as constant
use Rattle.go_rules.specs.go_model.declared.types.package.Entity.{Entity}
use Rattle.go_rules.specs.go_model.declared.types.package.Entity.TheVariants as entity
use Rattle.go_rules.specs.go_model.types.TypeNames.{names, signature_names}
use Rattle.go_references.specs.declared.references.Reference.{Reference}
use Rattle.go_rules.specs.Environments.{Env}
use Rattle.go_rules.specs.Growth.{Grows}
use Rattle.go_rules.specs.Regions.{EntityIn, IsClosed, RefersIn, Region, SeenIn}
use Rattle.go_rules.specs.declared.seen.Seen.{Seen}
use Rattle.go_rules.specs.declared.seen.Seen.TheVariants as seen
use Rattle.go_typings.specs.DeclarationAsks.{Asks}
use Rattle.go_typings.specs.DeclarationNodes.{nodes}
use Rattle.go_typings.specs.Declarations.{Form}
use Rattle.go_typings.specs.References.{FindsMethod, NamesDeclaration}
use Rattle.go_typings.specs.Sources.{PackageSource}
use Rattle.go_typings.proofs.LocalRules.{all_refer}
use Rattle.go_typings.proofs.SameAsks.{KeepsBase, asks_same}
use Rattle.go_typings.proofs.SameReferences.{finds_method_same, refers_back}

abbrev whole : Region
whole = record { names = λ name. true; types = λ n. true; packages = λ path. true }

all_pass : (ns : List TypeName) → Passes (λ n. true) ns
all_pass [] = tt
all_pass (n ∷ ns) = (refl, all_pass ns)

entity_in : (x : Entity) → EntityIn whole x
entity_in (entity.Const (constant.OfTerm t) v) = all_pass (names t)
entity_in (entity.Const (constant.OfKind k) v) = tt
entity_in (entity.Var t) = all_pass (names t)
entity_in (entity.Function g) = all_pass (signature_names g)
entity_in (entity.TypeOf t) = all_pass (names t)

seen_in : (m : Seen) → SeenIn whole m
seen_in (seen.Local t) = all_pass (names t)
seen_in (seen.LocalConst (constant.OfTerm t) v) = all_pass (names t)
seen_in (seen.LocalConst (constant.OfKind k) v) = tt
seen_in (seen.Object x) = entity_in x
seen_in (seen.Import path) = refl
seen_in (seen.Universe p) = tt

whole_closed : (E : Env) → IsClosed E whole
whole_closed E = record {
  meaning = λ name m i e. seen_in m;
  object = λ path name x i e. entity_in x;
  underlying = λ n d i e. all_pass (names d.underlying);
  methods = λ n d m i e k. all_pass (signature_names m.signature);
  error = refl;
}

all : (f : Form) → Each (RefersIn whole) (nodes f)
all f = all_refer whole (λ name. refl) (nodes f)

module _ (E F : Env) (m : Grows E F) where
  -- among more entries more keys are those of fields, so a reference names no more
  pub names_back : (u : PackageSource) (f : Form) (rs : List Reference) (n : ℕ) → NamesDeclaration F u f rs n → NamesDeclaration E u f rs n
  names_back u f rs n k = refers_back E F whole (whole_closed E) m u f rs n (all f) k

  -- what is found is found among more entries
  pub finds_more : (u : PackageSource) (f : Form) (n : ℕ) → FindsMethod E u f n → FindsMethod F u f n
  finds_more u f n k = finds_method_same E F whole (whole_closed E) m u f n (all f) k

  -- what is asked is met among more entries
  pub asks_more : (u : PackageSource) (n : ℕ) (f : Form) → KeepsBase E F u f → Asks E u n f → Asks F u n f
  asks_more u n f h k = asks_same E F whole (whole_closed E) m u n f (all f) h k
