-- The value of each constant of a typing is of its type or untyped kind, where those of the packages that it reaches are.
use Rattle.std.proofs.Common.{◌≡◌, ℕ, zero, suc, ◌<◌, Bool, List, [], ◌∷◌, Some, None, refl, sym, ◌∙◌, subst, inl, inr, arith}
use Rattle.std.specs.Prelude.{slice_get}
use Rattle.std.proofs.lemmas.Bool.Decides.{nat_tests}
use Rattle.go_references.specs.go_base.Keys.{first_with}
use Rattle.go_references.specs.go_base.Lists.{Each}
use Rattle.go_rules.specs.go_model.declared.constants.value.Kind.{Kind}
use Rattle.go_rules.specs.go_model.declared.constants.value.Value.{Value}
use Rattle.go_rules.specs.go_model.declared.types.package.ConstTerm.{ConstTerm}
use Rattle.go_rules.specs.go_model.declared.types.package.Entity.TheVariants as entity
use Rattle.go_rules.specs.go_model.declared.types.term.Term.{Term-F}
use Rattle.go_rules.specs.go_model.worlds.Worlds.{path_of}
use Rattle.go_rules.specs.Environments.{Env}
use Rattle.go_rules.specs.KeptConstants.{ConstantsKept, IsKept}
use Rattle.go_rules.specs.Operands.{HasKind, kind_of_type, kind_of_untyped}
use Rattle.go_rules.specs.Regions.{ConstIn, EntityIn, IsClosed, Region, cut}
use Rattle.go_rules.specs.declared.seen.Seen.TheVariants as seen
use Rattle.go_rules.proofs.LocalTypes.{form_same}
use Rattle.go_rules.proofs.OneKind.{no_truth}
use Rattle.go_typings.specs.Assignments.{Below, Within, before}
use Rattle.go_typings.specs.ConstantKinds.{EntriesKept, ReachedKept}
use Rattle.go_typings.specs.DeclarationNodes.{nodes}
use Rattle.go_typings.specs.Declarations.{Declaration, declarations, declared}
use Rattle.go_typings.specs.PackageEnvironments.{Entries, Entry, objects, environment, import_of, path_in}
use Rattle.go_typings.specs.ReachedPackages.{AreReached, HoldImports, ReachesSame}
use Rattle.go_typings.specs.Sources.{PackageSource, Setting}
use Rattle.go_typings.specs.Typings.{given}
use Rattle.go_typings.proofs.Agree.{held}
use Rattle.go_typings.proofs.Cells.{before_has, before_within, either, if_false, if_true, none_some, some_once}
use Rattle.go_typings.proofs.ConstantKinds.{kind_kept, member_kept, other_entry, whole_apart, whole_is}
use Rattle.go_typings.proofs.GrowEnvironments.{environment_more, object_back}
use Rattle.go_typings.proofs.KeptEntries.{EntityKept, EntryKept, entry_kept_more, gives_kept}
use Rattle.go_typings.proofs.LocalRules.{all_refer, gives_local}
use Rattle.go_typings.proofs.OneTyping.{grows, one}
use Rattle.go_typings.proofs.ReachedRegion.{EntriesIn, closed_region, region}
use Rattle.go_typings.proofs.SameImports.{cut_grows, entries_in}

at_each : {A : Type 0} (P : A → Type 0) (xs : List A) (n : ℕ) (x : A) → slice_get xs n ≡ Some x → Each P xs → P x
at_each P [] n x e k = none_some (slice_get [] n) x refl e
at_each P (y ∷ ys) zero x e k = subst P (some_once y x e) k.0
at_each P (y ∷ ys) (suc n) x e k = at_each P ys n x e k.1

module _ (s : Setting) (u : PackageSource) (absent : first_with path_of s.world.packages u.path ≡ None) (reached : List ℕ → Bool) (r : AreReached s.world u reached) (all : HoldImports u reached) (kept : ReachedKept s reached)
    (S : ℕ → Bool) (a : Entries) (T : Below (given s u) (declarations u) S a) where
  abbrev R : Region
  R = region u reached

  abbrev same : ReachesSame u s s
  same = record { reached = reached; are = r; same = λ path i. refl; bits = refl; profile = refl }

  inside : EntriesIn R a
  inside = entries_in u s s same all S a T

  abbrev part : ℕ → Entries
  part n = before T.order (T.order n) a

  part_in : (n : ℕ) → EntriesIn R (part n)
  part_in n j y f = inside j y (before_has T.order (T.order n) a j y f).1

  earlier : (m n : ℕ) → T.order m < T.order n → Within (part m) (part n)
  earlier m n l k x e = let p = before_has T.order (T.order m) a k x e in let o = p.0 in if_true _ (a k) None (grind (arith, nat_tests, o, l)) ∙ p.1

  module _ (n : ℕ) (d : Declaration) where
    abbrev E : Env
    E = environment s u (part n) d

    abbrev C : Env
    C = cut R E

    closed : IsClosed E R
    closed = closed_region s u reached r all (part n) (part_in n) d

    -- in the region constants keep their kinds
    kind_in : {c : ConstTerm} {k : Kind} → ConstIn R c → HasKind E c k → HasKind C c k
    kind_in i (kind_of_type {t = t} {b = b} e) = kind_of_type (form_same E R closed t (Term-F.Plain b) i e)
    kind_in i kind_of_untyped = kind_of_untyped

    cut_kept : (c : ConstTerm) (v : Value) → ConstIn R c → IsKept E c v → IsKept C c v
    cut_kept c v i k = (k.0, kind_in i k.1, k.2)

    imported_kept : (path name : List ℕ) (c : ConstTerm) (v : Value) → C.object path name ≡ Some (entity.Const c v) → IsKept C c v
    imported_kept path name c v e = elim (either (reached path)) [
      | inl i ↦ (
          let f = sym (if_true (reached path) (E.object path name) None i) ∙ e in let k = kept path name c v i f in
          cut_kept c v (closed.object path name (entity.Const c v) i f) (k.0, kind_kept s u absent (part n) d k.1, k.2))
      | inr i ↦ none_some (C.object path name) (entity.Const c v) (if_false (reached path) (E.object path name) None i) e
    ]

  entry_kept_by : (k n : ℕ) → T.order n < k → (x : Entry) → a n ≡ Some x → (d : Declaration) → EntryKept (E n d) x
  entry_kept_by zero n l x e d = absurd (omega (arith, l))
  entry_kept_by (suc k) n l x e d =
      let g = T.below n (held (given s u) (grows s u) (one s u) (declarations u) S a T n x e) in
      let w : ConstantsKept (C n g.0) = record {
        local = λ name c v p. absurd (no_truth (whole_apart u.path (part n) (path_in (import_of u g.0.file name)) name (declared (declarations u) name) (seen.LocalConst c v) p));
        own = λ name c v p.
            let q = whole_is u.path (part n) (path_in (import_of u g.0.file name)) name (declared (declarations u) name) (entity.Const c v) refl p in
            let f = object_back (part n q.0) q.1 (entity.Const c v) q.2 in
            let b = before_has T.order (T.order n) a q.0 (objects f.0) f.1 in let o = b.0 in
            let h = entry_kept_by k q.0 (omega (arith, o, l)) (objects f.0) b.1 g.0 in
            let i = at_each (EntityIn R) f.0 q.1 (entity.Const c v) f.2 (inside q.0 (objects f.0) b.1) in
            let j = entry_kept_more (E q.0 g.0) (E n g.0) (environment_more (part q.0) (part n) (earlier q.0 n o) s u g.0) (objects f.0) h in
            cut_kept n g.0 c v i (at_each (EntityKept (E n g.0)) f.0 q.1 (entity.Const c v) f.2 j);
        imported = imported_kept n g.0;
      } in
      let y = gives_local (E n g.0) R (closed n g.0) (all_refer R (λ name. refl) (nodes g.0.form)) g.2.2 in
      let z = entry_kept_more (C n g.0) (E n g.0) (cut_grows u s s same all (part n) g.0) g.2.0 (gives_kept (C n g.0) w y.0) in
      other_entry s u absent (part n) g.0 d x (subst (EntryKept (E n g.0)) (some_once g.2.0 x (sym g.2.1 ∙ e)) z)

  pub reached_kept : EntriesKept s u a
  reached_kept n xs c v e h =
      let g = T.below n (held (given s u) (grows s u) (one s u) (declarations u) S a T n (objects xs) e) in
      let k = entry_kept_by (suc (T.order n)) n (omega arith) (objects xs) e g.0 in (
        g.0,
        g.1,
        member_kept (environment s u a g.0) xs (entity.Const c v) h
            (entry_kept_more (E n g.0) (environment s u a g.0) (environment_more (part n) a (before_within T.order (T.order n) a) s u g.0) (objects xs) k),
      )
