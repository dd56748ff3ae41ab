-- What a world tells of the types in it.
use Rattle.std.proofs.Common.{◌≡◌, ℕ, List, [], ◌∷◌, ◌++◌, inl, inr, map, refl, sym, ap, ◌∙◌, subst, Option, Some, None}
use Rattle.go_base.specs.Lists.{Has, Each}
use Rattle.go_base.specs.Gathered.{gather}
use Rattle.go_base.specs.Keys.{first_with}
use Rattle.go_base.proofs.Ordered.{each_first, first_key}
use Rattle.go_model.specs.types.Members.{Members, Member, members, member_step, field_member, method_member, parameter_members, sel_of, field_sel, AreDistinct, AreOrdered, IsWellFormed}
use Rattle.go_model.specs.types.MethodSets.{method_sel}
use Rattle.go_model.specs.declared.types.term.Signature.{Signature}
use Rattle.go_model.specs.worlds.PackageTypes.{object_members, defined_members}
use Rattle.go_model.specs.worlds.Worlds.{Packages, IsWorld, IsPackage, IsDefined, path_of, name_of, object_name, table_of, defined_in, object_in, type_object}
use Rattle.go_model.specs.declared.types.names.TypeName.{TypeName}
use Rattle.go_model.specs.declared.types.package.Package.{Package}
use Rattle.go_model.specs.declared.types.package.Defined.{Defined}
use Rattle.go_model.specs.declared.types.term.Term.{Term, Term-F, out-Term, roll-Term, roll-out-Term, fold-roll-Term}
use Rattle.go_model.specs.declared.types.term.Field.{Field, fold-Field, fold_out-Field}
use Rattle.go_model.specs.declared.types.term.Method.{Method, fold-Method, fold_out-Method}

abbrev Sets : Type 0
Sets = List Members

abbrev member_of_field : Field → Member
member_of_field = fold-Field Sets Member Member Sets member_step field_member method_member parameter_members

abbrev member_of_method : Method → Member
member_of_method = fold-Method Sets Member Member Sets member_step field_member method_member parameter_members

field_sels : (fs : List Field) → map sel_of (map member_of_field fs) ≡ map field_sel fs
field_sels [] = refl
field_sels (f ∷ fs) = λ i. ap sel_of (fold_out-Field Sets Member Member Sets member_step field_member method_member parameter_members f) i ∷ field_sels fs i

method_sels : (ms : List Method) → map sel_of (map member_of_method ms) ≡ map method_sel ms
method_sels [] = refl
method_sels (m ∷ ms) = λ i. ap sel_of (fold_out-Method Sets Member Member Sets member_step field_member method_member parameter_members m) i ∷ method_sels ms i

made_of : (t : Term) (l : Term-F Term Field Method Signature) → out-Term t ≡ l → members t ≡ members (roll-Term l)
made_of t l e = ap members (sym (roll-out-Term t) ∙ ap roll-Term e)

pub struct_sound : (t : Term) (fs : List Field) → Each IsWellFormed (members t) → out-Term t ≡ Term-F.Struct fs → AreDistinct (map field_sel fs)
struct_sound t fs h e =
    subst AreDistinct (field_sels fs)
    (subst (Each IsWellFormed) (made_of t (Term-F.Struct fs) e ∙ fold-roll-Term Sets Member Member Sets member_step field_member method_member parameter_members (Term-F.Struct fs)) h).0

pub interface_sound : (t : Term) (ms : List Method) → Each IsWellFormed (members t) → out-Term t ≡ Term-F.Interface ms → AreOrdered (map method_sel ms)
interface_sound t ms h e =
    subst AreOrdered (method_sels ms)
    (subst (Each IsWellFormed) (made_of t (Term-F.Interface ms) e ∙ fold-roll-Term Sets Member Member Sets member_step field_member method_member parameter_members (Term-F.Interface ms)) h).0

pub each_front : {A : Type 0} (P : A → Type 0) (xs ys : List A) → Each P (xs ++ ys) → Each P xs
each_front P [] ys h = tt
each_front P (x ∷ xs) ys h = (h.0, each_front P xs ys h.1)

pub each_behind : {A : Type 0} (P : A → Type 0) (xs ys : List A) → Each P (xs ++ ys) → Each P ys
each_behind P [] ys h = h
each_behind P (x ∷ xs) ys h = each_behind P xs ys h.1

each_given : {A B : Type 0} (P : B → Type 0) (f : A → List B) (xs : List A) (x : A) → Each P (gather f xs) → Has xs x → Each P (f x)
each_given P f [] x h k = absurd k
each_given P f (y ∷ xs) x h (inl e) = subst (λ z. Each P (f z)) e (each_front P (f y) (gather f xs) h)
each_given P f (y ∷ xs) x h (inr k) = each_given P f xs x (each_behind P (f y) (gather f xs) h) k

has_first : {A : Type 0} (key : A → List ℕ) (xs : List A) (k : List ℕ) (x : A) → Some x ≡ first_with key xs k → Has xs x
has_first {A} key xs k x e = each_first key (Has xs) xs k x e (each_self xs xs (λ y h. h))
  where
    each_self : (all ys : List A) → ((y : A) → Has ys y → Has all y) → Each (Has all) ys
    each_self all [] f = tt
    each_self all (y ∷ ys) f = (f y (inl refl), each_self all ys (λ z h. f z (inr h)))

-- what a world tells of the name of a defined type
pub record Told (w : Packages) (n : TypeName) (d : Defined) : Type 0 where
  pub named : d.name ≡ n.name
  pub kept : IsDefined (table_of w.packages) d
  pub declared : object_in (first_with path_of w.packages n.path) n.name ≡ Some (type_object n.path n.name)
  pub formed : Each IsWellFormed (members d.underlying)

module _ (w : Packages) (i : IsWorld w) (n : TypeName) (d : Defined) where
  of_package : (o : Option Package) → o ≡ first_with path_of w.packages n.path → Some d ≡ defined_in o n.name → Told w n d
  of_package None e h = absurd (cc)
  of_package (Some p) e h =
      let kept : IsPackage (table_of w.packages) p = each_first path_of (IsPackage (table_of w.packages)) w.packages n.path p e i.packaged in
      let path : p.path ≡ n.path = first_key path_of w.packages n.path p e in
      let name : d.name ≡ n.name = first_key name_of p.defined n.name d h in
      let shown : first_with object_name p.objects d.name ≡ Some (type_object p.path d.name) = each_first name_of (λ x. first_with object_name p.objects x.name ≡ Some (type_object p.path x.name)) p.defined n.name d h kept.declared in
      record {
        named = name;
        kept = each_first name_of (IsDefined (table_of w.packages)) p.defined n.name d h kept.types;
        declared =
            ap (λ o. object_in o n.name) (sym e)
            ∙ ap (first_with object_name p.objects) (sym name)
            ∙ shown
            ∙ (λ j. Some (type_object (path j) (name j)));
        formed =
            each_front IsWellFormed (members d.underlying) _
            (each_given IsWellFormed defined_members p.defined d (each_behind IsWellFormed (gather object_members p.objects) (gather defined_members p.defined) kept.formed) (has_first name_of p.defined n.name d h));
      }

  pub told : table_of w.packages n ≡ Some d → Told w n d
  told e = of_package (first_with path_of w.packages n.path) refl (sym e)
