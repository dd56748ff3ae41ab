-- Scopes that keep what is had of a package are scopes of the package.
use Rattle.std.proofs.Common.{◌≡◌, ℕ, Bool, true, false, ◌&&◌, not, List, map, Option, Some, None, refl, sym, ap, ◌∙◌, subst}
use mathlib.Core.Bool.{true≢false}
use Rattle.go_model.specs.declared.types.names.Sel.{Sel}
use Rattle.go_model.specs.declared.types.package.Defined.{Defined}
use Rattle.go_model.specs.declared.types.package.MethodOf.{MethodOf}
use Rattle.go_model.specs.declared.types.term.Term.{Term}
use Rattle.go_model.specs.types.Underlying.{methods_of_entry}
use Rattle.go_rules.specs.Environments.{is_among}
use Rattle.go_rules.specs.Growth.{methods_named}
use Rattle.go_rules.specs.Names.{items_at, value_at}
use Rattle.go_rules.specs.Scopes.{is_had, lacking, Scopes}
use Rattle.go_rules.proofs.Lacking.{among_lacking}
use Rattle.go_typings.specs.Declarations.{declarations, declared}
use Rattle.go_typings.specs.PackageEnvironments.{defined_with, Entries, had, missing}
use Rattle.go_typings.specs.Receivers.{DeclaredMethod, methods}
use Rattle.go_typings.specs.Sources.{PackageSource, Setting}
use Rattle.go_package_scopes.specs.KeptScopes.{Keeps, selector_of, shown, ShowsType}
use Rattle.go_package_scopes.specs.PackageScopes.{HaveSame, IsSameType, IsScopeOf}
use Rattle.go_package_scopes.proofs.ShownMethods.{hidden, missing_known, named_none, none_named, shown_all, told_had}
use Rattle.go_package_scopes.proofs.UnderlyingTypes.{own_is, ShowsUnder, under_at, under_of}

module _ (a : Entries) (ms : List DeclaredMethod) (known : List Sel) (is : known ≡ map selector_of ms) where
  -- a selector of which no method is missing lacks none
  told : (k : Sel) (hs : List MethodOf) → methods_named k hs ≡ shown a ms k → is_among k (missing a ms) ≡ false → is_among k (lacking known hs) ≡ false
  told k hs shows e = among_lacking k hs known ∙ by (is_among k known) refl (is_had k hs) refl
    where
      by : (b : Bool) → is_among k known ≡ b → (h : Bool) → is_had k hs ≡ h → (b && not h) ≡ false
      by false f h i = refl
      by true f true i = refl
      by true f false i =
          let none : is_had k (had a ms) ≡ false = none_named k (had a ms) (sym (shown_all k a ms e) ∙ sym shows ∙ named_none k hs i) in
          absurd (true≢false (sym (told_had k a ms (ap (is_among k) (sym is) ∙ f) e) ∙ none))

  -- and the reverse
  back : (k : Sel) (hs : List MethodOf) → methods_named k hs ≡ shown a ms k → is_among k (lacking known hs) ≡ false → is_among k (missing a ms) ≡ false
  back k hs shows e = by (is_among k (missing a ms)) refl
    where
      by : (b : Bool) → is_among k (missing a ms) ≡ b → b ≡ false
      by false f = refl
      by true f =
          let among : is_among k known ≡ true = ap (is_among k) is ∙ missing_known k a ms f in
          let none : is_had k hs ≡ false = none_named k hs (shows ∙ hidden k a ms f) in
          both (is_among k known) (is_had k hs) among none (sym (among_lacking k hs known) ∙ e)
        where
          both : (c h : Bool) → c ≡ true → h ≡ false → (c && not h) ≡ false → true ≡ false
          both c h p q r = sym (ap (λ z. z && not h) p ∙ ap not q) ∙ r

  same_type : (name : List ℕ) (t : Term) (e : Defined) → ShowsType a ms t e → IsSameType (missing a ms) (lacking known e.methods) (record { name = name; underlying = t; methods = had a ms }) e
  same_type name t e shows = record {
    underlying = sym shows.underlying;
    methods = λ k f. sym (shows.methods k ∙ shown_all k a ms f);
    told = λ k f. told k e.methods (shows.methods k) f;
    back = λ k f. back k e.methods (shows.methods k) f;
  }

  have_same : (name : List ℕ) (o : Option Term) (x : Option Defined) → ShowsUnder a ms o x → HaveSame (missing a ms) (lacking known (methods_of_entry x)) (defined_with name (had a ms) o) x
  have_same name None None k = k
  have_same name None (Some e) k = k
  have_same name (Some t) None k = k
  have_same name (Some t) (Some e) k = same_type name t e k

pub scope_of : (s : Setting) (u : PackageSource) (a : Entries) (c : Scopes) → Keeps s u a c → IsScopeOf s u a c
scope_of s u a c keeps = record {
  world = keeps.world;
  path = keeps.path;
  bits = keeps.bits;
  profile = keeps.profile;
  opened = keeps.opened;
  imports = keeps.imports;
  announced = keeps.announced;
  objects = keeps.objects;
  types = λ name.
      subst (λ (o : Option Defined). HaveSame (missing a (methods u name)) (lacking (items_at c.awaited name) (methods_of_entry (value_at c.defined name))) o (value_at c.defined name)) (sym (own_is u a name))
      (have_same a (methods u name) (items_at c.awaited name) (keeps.awaited name) name (under_at a (declared (declarations u) name)) (value_at c.defined name) (under_of u a name (value_at c.defined name) (keeps.types name)));
}
