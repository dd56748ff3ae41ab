-- Two client's worlds share the types of the standard library that both have.
use Rattle.std.proofs.Common.{◌≡◌, ◌≢◌, ◌⊎◌, inl, inr, ℕ, Bool, true, false, ◌&&◌, ◌||◌, List, [], ◌∷◌, ◌++◌, map, refl, sym, ap, ◌∙◌, subst, Option, Some, None}
use Rattle.std.specs.Prelude.{if◌then◌else◌, is_some, bytes_eq}
use Rattle.std.specs.Cmp.Lexicographic.{bytes_decides}
use Rattle.go_base.specs.Gathered.{gather}
use Rattle.go_base.specs.Lists.{Has, Once, Passes}
use Rattle.go_base.proofs.Members.{gather_of, has_split}
use Rattle.go_model.specs.declared.types.names.Sel.{Sel}
use Rattle.go_model.specs.declared.types.names.TypeName.{TypeName}
use Rattle.go_model.specs.declared.types.package.Defined.{Defined}
use Rattle.go_model.specs.declared.types.package.MethodOf.{MethodOf}
use Rattle.go_model.specs.declared.types.package.Package.{Package}
use Rattle.go_model.specs.declared.types.term.Method.{Method}
use Rattle.go_model.specs.declared.types.term.Term.{Term, Term-F, out-Term, roll-Term, out-roll-Term}
use Rattle.go_model.specs.types.MethodSets.{method_sel}
use Rattle.go_model.specs.types.Tables.{Table}
use Rattle.go_model.specs.types.Terms.{client_path, error_type, is_error}
use Rattle.go_model.specs.types.TypeNames.{names}
use Rattle.go_model.specs.types.TypeSelectors.{Sels, selectors}
use Rattle.go_model.specs.types.Underlying.{declared_methods, entry, methods_of_entry, under, under_entry, under_layer}
use Rattle.go_model.specs.worlds.PackageTypes.{declared_selectors, defined_selectors}
use Rattle.go_model.specs.worlds.Worlds.{IsWorld, Packages, defined_in}
use Rattle.go_model.proofs.Paths.{client_some}
use Rattle.go_types.specs.Regions.{EntryWithin, Within}
use Rattle.go_type_images.specs.Parts.{function_type}
use Rattle.go_shared_types.specs.Sharing.{IsShared}
use Rattle.go_shared_types.proofs.Items.{either, passes, passing}
use Rattle.go_shared_types.proofs.PartNames.{error_names, error_selectors, names_of_function, selectors_of_function}
use Rattle.go_shared_types.proofs.Scopes.{error_entry, some_some}
use Rattle.api_correspond.specs.Publics.{of_std, package_at, types_of}
use Rattle.api_correspond.specs.SharedStd.{ShareStd}
use Rattle.api_kept_members.specs.inner.Entries.{had}
use Rattle.api_kept_members.proofs.InterfaceMethods.{bare}
use Rattle.api_kept_members.proofs.ResolvingPairs.{entries_resolve}
use Rattle.api_kept_members.proofs.Underneath.{and_both}
use Rattle.api_kept_relations.specs.ClientWorlds.{Serves}
use Rattle.api_kept_relations.specs.StdTypes.{IsOfStd, StdStandsAlone, is_open_sel, is_std_name, shared_std}
use Rattle.api_kept_relations.proofs.Names as N
use Rattle.api_kept_relations.proofs.StdEntries as E
use Rattle.api_kept_relations.proofs.Names.{error_path, had_some, no_option, other_entry, some_had}

pub or_left : (a b : Bool) → a ≡ true → (a || b) ≡ true
or_left true b e = refl
or_left false b e = absurd (cc)

pub or_right : (a b : Bool) → b ≡ true → (a || b) ≡ true
or_right true b e = refl
or_right false b e = e

pub or_other : (a b : Bool) → a ≡ false → (a || b) ≡ true → b ≡ true
or_other true b e f = absurd (cc)
or_other false b e f = f

pub and_all : (a b c : Bool) → a ≡ true → b ≡ true → c ≡ true → (a && b && c) ≡ true
and_all true true true e f g = refl
and_all false b c e f g = absurd (cc)
and_all true false c e f g = absurd (cc)
and_all true true false e f g = absurd (cc)

pub std_package : (o : Option Package) → of_std o ≡ true → (p : Package) × (o ≡ Some p) × (p.from_std ≡ true)
std_package None e = absurd (cc)
std_package (Some p) e = (p, refl, e)

package_std : (o : Option Package) (p : Package) → o ≡ Some p → p.from_std ≡ true → of_std o ≡ true
package_std o p e f = ap of_std e ∙ f

module _ (before after : Packages) (i : IsWorld before) (j : IsWorld after) (Z : ShareStd before after) (A : StdStandsAlone before) where
  abbrev pub std : TypeName → Bool
  std = shared_std before after

  abbrev pub is_open : Sel → Bool
  is_open = is_open_sel before

  -- a name of the standard library with its package in both worlds, the same one
  pub record InBoth (n : TypeName) : Type 0 where
    pub shared_package : Package
    pub there : package_at before n.path ≡ Some shared_package
    pub too : package_at after n.path ≡ Some shared_package
    pub from_std : shared_package.from_std ≡ true
    pub defined : Defined
    pub told : types_of before n ≡ Some defined

  pub view : (n : TypeName) → std n ≡ true → is_error n ≡ false → InBoth n
  view n h e =
      let b = and_both (of_std (package_at before n.path) && of_std (package_at after n.path)) (is_some (types_of before n)) (or_other (is_error n) (of_std (package_at before n.path) && of_std (package_at after n.path) && is_some (types_of before n)) e h) in
      let c = and_both (of_std (package_at before n.path)) (of_std (package_at after n.path)) b.0 in
      let p = std_package (package_at before n.path) c.0 in
      let q = std_package (package_at after n.path) c.1 in
      let d = had_some (types_of before n) b.1 in
      record { shared_package = p.0; there = p.1; too = q.1 ∙ ap Some (sym (Z.same n.path p.0 q.0 p.1 q.1 p.2)); from_std = p.2; defined = d.0; told = d.1 }

  -- what has its package in both worlds and an entry in the old one is shared
  pub shares : (n : TypeName) → had (types_of before) n ≡ true → had (types_of after) n ≡ true → is_std_name before n ≡ true → std n ≡ true
  shares n h k s = by (is_error n) refl
    where
      other : is_error n ≡ false → std n ≡ true
      other e =
          let p = std_package (package_at before n.path) (or_other (is_error n) (of_std (package_at before n.path)) e s) in
          let q = N.had_package after j n k e in
          let x : (q.0).from_std ≡ true = sym (Z.sides n.path p.0 q.0 p.1 q.1) ∙ p.2 in
          let d = had_some (entry (types_of before) n) h in
          or_right (is_error n) (of_std (package_at before n.path) && of_std (package_at after n.path) && is_some (types_of before n))
          (and_all (of_std (package_at before n.path)) (of_std (package_at after n.path)) (is_some (types_of before n)) (package_std (package_at before n.path) p.0 p.1 p.2) (package_std (package_at after n.path) q.0 q.1 x) (ap is_some (sym (other_entry (types_of before) n e) ∙ d.1)))

      by : (b : Bool) → is_error n ≡ b → std n ≡ true
      by true e = or_left (is_error n) (of_std (package_at before n.path) && of_std (package_at after n.path) && is_some (types_of before n)) e
      by false e = other e

  not_client : (n : TypeName) → std n ≡ true → n.path ≢ client_path
  not_client n h = by (is_error n) refl
    where
      by : (b : Bool) → is_error n ≡ b → n.path ≢ client_path
      by true e = λ f. client_some (sym f ∙ error_path n e)
      by false e = let v = view n h e in (N.package_told before i n.path v.shared_package v.there).0

  module _ (old new : Packages) (T U : Table) (V : Serves old before T) (W : Serves new after U) where
    told_in : (n : TypeName) (h : std n ≡ true) (e : is_error n ≡ false) → T n ≡ Some (view n h e).defined
    told_in n h e = V.table n (not_client n h) ∙ (view n h e).told

    told_too : (n : TypeName) (h : std n ≡ true) (e : is_error n ≡ false) → U n ≡ Some (view n h e).defined
    told_too n h e =
        let v = view n h e in
        W.table n (not_client n h) ∙ ap (λ (o : Option Package). defined_in o n.name) (v.too ∙ sym v.there) ∙ v.told

    entered : (n : TypeName) → std n ≡ true → (d : Defined) × (entry T n ≡ Some d)
    entered n h = by (is_error n) refl
      where
        by : (b : Bool) → is_error n ≡ b → (d : Defined) × (entry T n ≡ Some d)
        by true e = (error_type, error_entry T n e)
        by false e = ((view n h e).defined, other_entry T n e ∙ told_in n h e)

    agree : (n : TypeName) → std n ≡ true → entry T n ≡ entry U n
    agree n h = by (is_error n) refl
      where
        by : (b : Bool) → is_error n ≡ b → entry T n ≡ entry U n
        by true e = error_entry T n e ∙ sym (error_entry U n e)
        by false e = other_entry T n e ∙ told_in n h e ∙ sym (told_too n h e) ∙ sym (other_entry U n e)

    -- what the table has of a name of the set: `error`, or a defined type of the standard library
    abbrev Had : TypeName → Defined → Type 0
    Had n d = (error_type ≡ d) ⊎ ((of_std (package_at before n.path) ≡ true) × (types_of before n ≡ Some d) × (types_of after n ≡ Some d))

    had_of : (n : TypeName) (d : Defined) → std n ≡ true → entry T n ≡ Some d → Had n d
    had_of n d h f = by (is_error n) refl
      where
        by : (b : Bool) → is_error n ≡ b → Had n d
        by true e = inl (some_some (sym (error_entry T n e) ∙ f))
        by false e =
            let v = view n h e in
            let g : types_of before n ≡ Some d = sym (V.table n (not_client n h)) ∙ sym (other_entry T n e) ∙ f in
            inr (package_std (package_at before n.path) v.shared_package v.there v.from_std, g, ap (λ (o : Option Package). defined_in o n.name) (v.too ∙ sym v.there) ∙ g)

    all_shared : (t : Term) → N.IsNamed before i t → N.IsNamed after j t → IsOfStd before t → Within std t
    all_shared t a b s = λ n k. shares n (a n k) (b n k) (passing (is_std_name before) (names t) n s.0 k)

    not_error : (n : TypeName) (d : Defined) (w : Packages) → IsWorld w → types_of w n ≡ Some d → entry (types_of w) n ≡ Some d
    not_error n d w x e = other_entry (types_of w) n (by (is_error n) refl) ∙ e
      where
        by : (b : Bool) → is_error n ≡ b → is_error n ≡ false
        by true f = let p = N.package_of w x n d e in absurd ((N.package_told w x n.path p.0 p.1).1 (error_path n f))
        by false f = f

    closed : (n : TypeName) (d : Defined) → std n ≡ true → entry T n ≡ Some d → EntryWithin std d
    closed n d h f = by (had_of n d h f)
      where
        of_world : of_std (package_at before n.path) ≡ true → types_of before n ≡ Some d → types_of after n ≡ Some d → EntryWithin std d
        of_world s e g =
            let x = not_error n d before i e in
            let y = not_error n d after j g in
            record {
              underneath = all_shared d.underlying (N.from_leaves before i d.underlying ((entries_resolve before i).beneath n d x)) (N.from_leaves after j d.underlying ((entries_resolve after j).beneath n d y)) (E.beneath before A n d s e);
              signatures = λ m k z q. all_shared (function_type m.signature) (N.from_leaves before i (function_type m.signature) ((entries_resolve before i).methods n d m x k)) (N.from_leaves after j (function_type m.signature) ((entries_resolve after j).methods n d m y k)) (E.declared before A n d m s e k).0 z (subst (λ (ns : List TypeName). Has ns z) (sym (names_of_function m.signature)) q);
            }

        by : Had n d → EntryWithin std d
        by (inl e) = record {
          underneath = λ z q. absurd (error_names z (subst (λ (x : Defined). Has (names x.underlying) z) (sym e) q));
          signatures = λ m k z q. absurd (subst (λ (x : Defined). Has x.methods m) (sym e) k);
        }
        by (inr x) = of_world x.0 x.1 x.2

    open_exported : (s : Sel) → s.«package» ≡ [] → is_open s ≡ true
    open_exported s e = or_left (bytes_eq s.«package» []) (of_std (package_at before s.«package»)) ((bytes_decides s.«package» []).1 e)

    labels : (n : TypeName) (d : Defined) → std n ≡ true → entry T n ≡ Some d → Passes is_open (defined_selectors d)
    labels n d h f = passes is_open (defined_selectors d) (λ s k. by (had_of n d h f) s k)
      where
        of_method : of_std (package_at before n.path) ≡ true → types_of before n ≡ Some d → (s : Sel) (m : MethodOf) → Has d.methods m → Has (declared_selectors m) s → is_open s ≡ true
        of_method x e s m k (inl q) = subst (λ z. is_open z ≡ true) q (E.declared before A n d m x e k).1
        of_method x e s m k (inr q) = passing is_open (selectors (function_type m.signature)) s (E.declared before A n d m x e k).0.1 (subst (λ (ss : Sels). Has ss s) (sym (selectors_of_function m.signature)) q)

        of_world : of_std (package_at before n.path) ≡ true → types_of before n ≡ Some d → (s : Sel) → Has (defined_selectors d) s → is_open s ≡ true
        of_world x e s k = either (has_split (selectors d.underlying) (gather declared_selectors d.methods) s k)
            (λ q. passing is_open (selectors d.underlying) s (E.beneath before A n d x e).1 q)
            (λ q. let m = gather_of declared_selectors d.methods s q in of_method x e s m.0 m.1 m.2)

        of_error : (s : Sel) → Has (selectors error_type.underlying ++ []) s → is_open s ≡ true
        of_error s k = either (has_split (selectors error_type.underlying) [] s k) (λ q. open_exported s (error_selectors s q)) (λ q. absurd q)

        by : Had n d → (s : Sel) → Has (defined_selectors d) s → is_open s ≡ true
        by (inl e) s k = of_error s (subst (λ (x : Defined). Has (defined_selectors x) s) (sym e) k)
        by (inr x) s k = of_world x.0 x.1 s k

    strange : (s : Sel) → is_open s ≡ true → s.«package» ≢ client_path
    strange s h = by (bytes_eq s.«package» []) refl
      where
        by : (b : Bool) → bytes_eq s.«package» [] ≡ b → s.«package» ≢ client_path
        by true e = λ f. client_some (sym f ∙ (bytes_decides s.«package» []).0 e)
        by false e = let p = std_package (package_at before s.«package») (or_other (bytes_eq s.«package» []) (of_std (package_at before s.«package»)) e h) in (N.package_told before i s.«package» p.0 p.1).0

    bare_in : (n : TypeName) (d : Defined) (ms : List Method) → std n ≡ true → entry T n ≡ Some d → out-Term d.underlying ≡ Term-F.Interface ms → Once (map method_sel ms) × (d.methods ≡ [])
    bare_in n d ms h f u =
        let e : entry (types_of before) n ≡ Some d = by (had_of n d h f) (is_error n) refl in
        let name : out-Term (roll-Term (Term-F.Named n)) ≡ Term-F.Named n = out-roll-Term (Term-F.Named n) in
        let b = bare before i (roll-Term (Term-F.Named n)) n ms name (ap (under_layer (types_of before)) name ∙ ap (under_entry n) e ∙ u) in
        (b.once, sym (ap (declared_methods (types_of before)) name ∙ ap methods_of_entry e) ∙ b.none)
      where
        by : Had n d → (b : Bool) → is_error n ≡ b → entry (types_of before) n ≡ Some d
        by x true e = error_entry (types_of before) n e ∙ sym (error_entry T n e) ∙ f
        by x false e = other_entry (types_of before) n e ∙ sym (V.table n (not_client n h)) ∙ sym (other_entry T n e) ∙ f

    pub shared : IsShared T U std is_open
    shared = record {
      entered = entered;
      agree = agree;
      closed = closed;
      labels = labels;
      bare = bare_in;
      foreign = not_client;
      strange = strange;
      exported = open_exported;
    }
