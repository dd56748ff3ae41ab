-- A package that is offered has the shape that a world asks.
use Rattle.std.proofs.Common.{◌≡◌, ◌≢◌, ℕ, Bool, false, List, [], ◌∷◌, Option, Some, None, map, refl, sym, ap, ◌∙◌, subst, inl, inr}
use Rattle.std.specs.Str.{bytes_eq}
use Rattle.std.proofs.lemmas.Slice.Eq.{bytes_eq-Decides}
use Rattle.go_base.specs.Lists.{Each, Has}
use Rattle.go_model.specs.declared.types.names.Sel.{Sel}
use Rattle.go_model.specs.declared.types.names.TypeName.{TypeName}
use Rattle.go_model.specs.declared.types.package.Defined.{Defined}
use Rattle.go_model.specs.declared.types.package.Entity.TheVariants as entity
use Rattle.go_model.specs.declared.types.package.MethodOf.{MethodOf}
use Rattle.go_model.specs.declared.types.package.Package.{Package}
use Rattle.go_model.specs.declared.types.term.Term.{Term-F, out-Term, out-roll-Term}
use Rattle.go_model.specs.types.Terms.{IsBlank, blank}
use Rattle.go_model.specs.worlds.Worlds.{bars_methods, declared_sel, name_of, table_of}
use Rattle.go_rules.proofs.LocalTypes.{each_made}
use Rattle.go_rules.proofs.OneKind.{no_truth}
use Rattle.go_rules.specs.Environments.{Env}
use Rattle.go_rules.specs.Expressions.{is_blank}
use Rattle.go_exposed.proofs.go_soundness_proofs.DeclaredForms.{is_at}
use Rattle.go_typings.proofs.Cells.{if_true, some_once}
use Rattle.go_typings.proofs.OnePackage.{found, in_order}
use Rattle.go_typings.proofs.ReachedRegion.{own_path}
use Rattle.go_typings.specs.DeclarationAsks.{FormAsks, IsApart, IsMethod}
use Rattle.go_typings.specs.DeclarationRules.{Gives, gives_constants, gives_typed_variables, gives_variables, gives_alias, gives_definition, gives_function, gives_method, is_name}
use Rattle.go_typings.specs.Declarations.{Declaration, Form, declarations}
use Rattle.go_typings.specs.PackageEnvironments.{Entries, Entry, objects, underlying, signed, environment, had, own_defined}
use Rattle.go_typings.specs.Receivers.{methods}
use Rattle.go_typings.specs.Sources.{PackageSource, Setting}
use Rattle.go_typings.specs.TypedPackages.{AreOrdered as AreOrderedAs, IsOrdered}
use Rattle.go_typings.specs.Typings.{Typing}
use Rattle.go_exposed.specs.OfferedPackages.{IsOfferedAs, IsPackageOf}
use Rattle.go_exposed.proofs.KeptObjects.{object_declared}
use Rattle.go_typed_packages.specs.PackageShapes.{HasShape, IsShaped}
use Rattle.go_typed_packages.proofs.OwnDeclarations.{OwnType, asked_at, given_at, had_as, had_within, is_named_method, method_at, own_type_of}

-- ---- what is underneath

-- the type underneath a defined type is no name
abbrev IsStructured : Entry → Type 0
IsStructured (underlying t) = (n : TypeName) → out-Term t ≢ Term-F.Named n
IsStructured (objects xs) = Unit {0}
IsStructured (signed g) = Unit {0}

gives_structured : {E : Env} {ds : List Declaration} {f : Form} {x : Entry} → Gives E ds f x → IsStructured x
gives_structured (gives_constants a e) = tt
gives_structured (gives_typed_variables e a) = tt
gives_structured (gives_variables e a h) = tt
gives_structured (gives_alias a) = tt
gives_structured (gives_definition {l = l} a e i h) = λ n q. no_truth (sym (ap is_name (sym (out-roll-Term l) ∙ q)) ∙ i)
gives_structured (gives_function a b) = tt
gives_structured (gives_method a b) = tt

-- ---- a defined type of a package, and what is had of it

pub record TypeOf (u : PackageSource) (a : Entries) (d : Defined) : Type 0 where
  pub had_type : Defined
  pub is : own_defined u a d.name ≡ Some had_type
  pub same : IsOrdered d had_type

had_of_type : (u : PackageSource) (a : Entries) (d : Defined) (c : Option Defined) → own_defined u a d.name ≡ c → AreOrderedAs (Some d) c → TypeOf u a d
had_of_type u a d None e h = absurd h
had_of_type u a d (Some x) e h = record { had_type = x; is = e; same = h }

pub type_of : (u : PackageSource) (a : Entries) (p : Package) → IsPackageOf u a p → (d : Defined) → Has p.defined d → TypeOf u a d
type_of u a p x d h =
    had_of_type u a d (own_defined u a d.name) refl
    (subst (λ c. AreOrderedAs c (own_defined u a d.name)) (found name_of p.defined d (in_order name_of p.defined x.defined_ordered) h) (x.defined d.name))

no_methods : (ms : List MethodOf) → ((m : MethodOf) → Has ms m → ⊥) → ms ≡ []
no_methods [] h = refl
no_methods (m ∷ ms) h = absurd (h m (inl refl))

each_sel : (P : Sel → Type 0) (ms : List MethodOf) → ((m : MethodOf) → Has ms m → P m.sel) → Each P (map declared_sel ms)
each_sel P [] h = tt
each_sel P (m ∷ ms) h = (h m (inl refl), each_sel P ms (λ n k. h n (inr k)))

module _ (s : Setting) (u : PackageSource) (S : ℕ → Bool) (a : Entries) (t : Typing s u S a) where
  structured : (name : List ℕ) (d : Defined) → OwnType u a name d → (n : TypeName) → out-Term d.underlying ≢ Term-F.Named n
  structured name d o =
      let w = is_at (declarations u) name o.at o.is in
      let g = given_at s u S a t o.at.number w.declaration (had_within s u S a t o.at.number (underlying o.beneath) o.entry) w.is in
      subst (λ (z : Defined). (n : TypeName) → out-Term z.underlying ≢ Term-F.Named n) (sym o.made)
      (subst IsStructured (some_once g.0 (underlying o.beneath) (sym g.1 ∙ o.entry)) (gives_structured g.2))

  -- what a method of a defined type is asked
  record IsAsked (d : Defined) (m : MethodOf) : Type 0 where
    permits : bars_methods (out-Term d.underlying) ≡ false
    apart : IsApart (out-Term d.underlying) m.sel.name
    named : IsBlank m.sel → ⊥

  is_asked : (name : List ℕ) (d : Defined) → own_defined u a name ≡ Some d → (m : MethodOf) → Has (had a (methods u name)) m → IsAsked d m
  is_asked name d e m h =
      let k = had_as a (methods u name) m h in
      let w = method_at u name k.declares k.has in
      let q : IsMethod (environment s u a w.declaration) u k.declares.number w.receiver w.func = subst (FormAsks (environment s u a w.declaration) u k.declares.number) w.form (asked_at s u S a t k.declares.number w.declaration (had_within s u S a t k.declares.number (signed m.signature) k.entry) w.is).form in
      let n : q.type ≡ name = some_once q.type name (sym q.of ∙ w.of) in
      let own : own_defined u a name ≡ Some q.defined = ap (own_defined u a) (sym n) ∙ sym (if_true (bytes_eq u.path u.path) (own_defined u a q.type) (table_of s.world.packages (record { path = u.path; name = q.type })) (own_path u.path)) ∙ q.entry in
      let z : q.defined ≡ d = some_once q.defined d (sym own ∙ e) in
      let text : m.sel.name ≡ w.func.name.text = ap (λ (x : Sel). x.name) (k.sel ∙ w.sel) in
      let plain : is_blank m.sel.name ≡ false = ap (λ (x : Sel). is_blank x.name) k.sel ∙ is_named_method u name k.declares k.has in
      record {
        permits = ap (λ (x : Defined). bars_methods (out-Term x.underlying)) (sym z) ∙ q.permits_methods;
        apart = subst (λ (x : Defined). IsApart (out-Term x.underlying) m.sel.name) z (subst (IsApart (out-Term q.defined.underlying)) (sym text) (q.apart (ap is_blank (sym text) ∙ plain)));
        named = λ b. no_truth (sym ((bytes_eq-Decides m.sel.name blank).1 b) ∙ plain);
      }

  module _ (p : Package) (x : IsPackageOf u a p) where
    shaped : (d : Defined) → Has p.defined d → IsShaped d
    shaped d h =
        let k = type_of u a p x d h in
        let o = own_type_of u a d.name k.had_type k.is in
        let asked : (m : MethodOf) → Has d.methods m → IsAsked k.had_type m = λ m j. is_asked d.name k.had_type k.is m (subst (λ (z : Defined). Has z.methods m) o.made ((k.same.same m).0 j)) in
        record {
          structured = subst (λ z. (n : TypeName) → out-Term z ≢ Term-F.Named n) (sym k.same.underlying) (structured d.name k.had_type o);
          methods = record { ordered = k.same.ordered; named = each_sel (λ z. IsBlank z → ⊥) d.methods (λ m j. (asked m j).named) };
          bare = λ b. no_methods d.methods (λ m j. no_truth (sym b ∙ ap (λ z. bars_methods (out-Term z)) k.same.underlying ∙ (asked m j).permits));
          apart = λ m f j i. subst (λ z. IsApart (out-Term z) m.sel.name) (sym k.same.underlying) (asked m j).apart f i;
        }

    has_shape : HasShape p
    has_shape = record {
      objects = x.objects_ordered;
      defined = x.defined_ordered;
      types = each_made p.defined shaped;
      declared = each_made p.defined (object_declared u a p x);
    }

pub package_shaped : (s : Setting) (u : PackageSource) (p : Package) → IsOfferedAs s u p → HasShape p
package_shaped s u p t = has_shape s u t.within t.entries t.kept.typing p t.«package»
