-- Under settings that are the same in all that a package reaches the same entries are had.
use Rattle.std.proofs.Common.{◌≡◌, ℕ, zero, suc, ◌<◌, Bool, true, false, List, Some, None, refl, sym, ap, ◌∙◌, subst, inl, inr, arith}
use Rattle.std.specs.Str.{bytes_eq}
use Rattle.go_rules.specs.go_model.declared.types.names.TypeName.{TypeName}
use Rattle.go_rules.specs.go_model.declared.types.package.Defined.{Defined}
use Rattle.go_rules.specs.go_model.declared.types.package.Entity.{Entity}
use Rattle.go_rules.specs.go_model.types.Terms.{error_type, is_error}
use Rattle.go_rules.specs.go_model.types.Underlying.{entry}
use Rattle.go_rules.specs.go_model.worlds.Worlds.{defined_in, object_in, table_of}
use Rattle.go_rules.specs.Environments.{Env}
use Rattle.go_rules.specs.Growth.{Grown, Grows}
use Rattle.go_rules.specs.Regions.{cut}
use Rattle.go_rules.specs.Scopes.{entity_of}
use Rattle.go_typings.specs.Assignments.{Below, before}
use Rattle.go_typings.specs.DeclarationNodes.{nodes}
use Rattle.go_typings.specs.Declarations.{Declaration, declarations}
use Rattle.go_typings.specs.PackageEnvironments.{Entries, Entry, environment, own_defined, types_of}
use Rattle.go_typings.specs.ReachedPackages.{HoldImports, ReachesSame, is_reached}
use Rattle.go_typings.specs.Sources.{PackageSource, Setting}
use Rattle.go_typings.specs.Typings.{given}
use Rattle.go_typings.proofs.Agree.{held}
use Rattle.go_typings.proofs.Cells.{before_has, either, if_false, if_true, none_some, some_once}
use Rattle.go_typings.proofs.GrowRules.{gives_more}
use Rattle.go_typings.proofs.LocalRules.{all_refer, gives_local}
use Rattle.go_typings.proofs.OneTyping.{grows, one}
use Rattle.go_typings.proofs.ReachedRegion.{EntriesIn, EntryIn, closed_region, or_second, region}

module _ (u : PackageSource) (s t : Setting) (m : ReachesSame u s t) (all : HoldImports u m.reached) where
  module _ (b : Entries) (d : Declaration) where
    abbrev E : Env
    E = environment s u b d

    abbrev F : Env
    F = environment t u b d

    abbrev C : Env
    C = cut (region u m.reached) E

    table_same : (n : TypeName) → m.reached n.path ≡ true → table_of s.world.packages n ≡ table_of t.world.packages n
    table_same n i = ap (λ c. defined_in c n.name) (m.same n.path i)

    types_same : (n : TypeName) → is_error n ≡ false → (region u m.reached).types n ≡ true → types_of s u b n ≡ types_of t u b n
    types_same n q i = elim (either (bytes_eq u.path n.path)) [
      | inl p ↦ if_true (bytes_eq u.path n.path) (own_defined u b n.name) (table_of s.world.packages n) p ∙ sym (if_true (bytes_eq u.path n.path) (own_defined u b n.name) (table_of t.world.packages n) p)
      | inr p ↦ if_false (bytes_eq u.path n.path) (own_defined u b n.name) (table_of s.world.packages n) p
          ∙ table_same n (or_second (is_error n) (m.reached n.path) q (or_second (bytes_eq u.path n.path) (is_reached m.reached n) p i))
          ∙ sym (if_false (bytes_eq u.path n.path) (own_defined u b n.name) (table_of t.world.packages n) p)
    ]

    object_same : (path name : List ℕ) (x : Entity) → C.object path name ≡ Some x → F.object path name ≡ Some x
    object_same path name x e = elim (either (m.reached path)) [
      | inl i ↦ sym (ap (λ c. entity_of (object_in c name)) (m.same path i)) ∙ sym (if_true (m.reached path) (E.object path name) None i) ∙ e
      | inr i ↦ none_some (C.object path name) x (if_false (m.reached path) (E.object path name) None i) e
    ]

    stored_same : (n : TypeName) (x : Defined) → entry F.table n ≡ Some x → Grown C F n x
    stored_same n x e = record { grown = x; stored = e; underlying = refl; methods = λ k f. refl; told = λ k f. f }

    entry_same : (n : TypeName) (x : Defined) → entry C.table n ≡ Some x → Grown C F n x
    entry_same n x e = elim (either (is_error n)) [
      | inl q ↦ stored_same n x (if_true (is_error n) (Some error_type) (F.table n) q ∙ sym (if_true (is_error n) (Some error_type) (C.table n) q) ∙ e)
      | inr q ↦ (let f = sym (if_false (is_error n) (Some error_type) (C.table n) q) ∙ e in elim (either ((region u m.reached).types n)) [
        | inl i ↦ stored_same n x (if_false (is_error n) (Some error_type) (F.table n) q ∙ sym (types_same n q i) ∙ sym (if_true ((region u m.reached).types n) (E.table n) None i) ∙ f)
        | inr i ↦ none_some (C.table n) x (if_false ((region u m.reached).types n) (E.table n) None i) f
      ])
    ]

    pub cut_grows : Grows C F
    cut_grows = record {
      meaning = λ name x e. e;
      object = object_same;
      table = entry_same;
      path = refl;
      bits = m.bits;
      profile = λ k. m.profile ∙ k;
      iota = refl;
    }

    pub given_same : {x : Entry} → EntriesIn (region u m.reached) b → given s u b d x → given t u b d x × EntryIn (region u m.reached) x
    given_same h a = let g = gives_local E (region u m.reached) (closed_region s u m.reached m.are all b h d) (all_refer (region u m.reached) (λ name. refl) (nodes d.form)) a in (gives_more C F cut_grows g.0, g.1)

  -- entries that are had from below under the one setting are had under the other
  module _ (S : ℕ → Bool) (a : Entries) (T : Below (given s u) (declarations u) S a) where
    abbrev part : ℕ → Entries
    part n = before T.order (T.order n) a

    entry_in_by : (k n : ℕ) → T.order n < k → (x : Entry) → a n ≡ Some x → EntryIn (region u m.reached) x
    entry_in_by zero n l x e = absurd (omega (arith, l))
    entry_in_by (suc k) n l x e =
        let g = T.below n (held (given s u) (grows s u) (one s u) (declarations u) S a T n x e) in
        let h : EntriesIn (region u m.reached) (part n) = λ j y f. (let p = before_has T.order (T.order n) a j y f in let o = p.0 in entry_in_by k j (omega (arith, o, l)) y p.1) in
        subst (EntryIn (region u m.reached)) (some_once g.2.0 x (sym g.2.1 ∙ e)) (given_same (part n) g.0 h g.2.2).1

    pub entries_in : EntriesIn (region u m.reached) a
    entries_in n x e = entry_in_by (suc (T.order n)) n (omega arith) x e

    pub had_same : Below (given t u) (declarations u) S a
    had_same = record {
      only = T.only;
      order = T.order;
      below = λ n i.
          let g = T.below n i in
          let h : EntriesIn (region u m.reached) (part n) = λ j y f. entries_in j y (before_has T.order (T.order n) a j y f).1 in
          (g.0, g.1, (g.2.0, g.2.1, (given_same (part n) g.0 h g.2.2).0));
    }
