-- The value of each constant of a typing is of its type or untyped kind, where those of the imports are.
use Rattle.std.proofs.Common.{◌≡◌, ℕ, zero, suc, ◌<◌, Bool, true, false, List, [], ◌∷◌, Option, Some, None, refl, sym, ap, ◌∙◌, subst, inl, inr, arith}
use Rattle.std.specs.Prelude.{if◌then◌else◌, slice_get}
use Rattle.std.specs.Option.{option_or}
use Rattle.std.specs.Str.{bytes_eq}
use Rattle.std.proofs.lemmas.Bool.Decides.{nat_tests}
use Rattle.std.proofs.lemmas.Slice.Eq.{bytes_eq-Decides}
use Rattle.go_references.specs.go_base.Keys.{first_with}
use Rattle.go_references.specs.go_base.Lists.{Each, Has}
use Rattle.go_rules.specs.go_model.declared.constants.value.Basic.{Basic}
use Rattle.go_rules.specs.go_model.declared.constants.value.Kind.{Kind}
use Rattle.go_rules.specs.go_model.declared.types.names.TypeName.{TypeName}
use Rattle.go_rules.specs.go_model.declared.types.package.ConstTerm.{ConstTerm}
use Rattle.go_rules.specs.go_model.declared.types.package.Entity.{Entity}
use Rattle.go_rules.specs.go_model.declared.types.package.Entity.TheVariants as entity
use Rattle.go_rules.specs.go_model.declared.types.term.Term.{Term-F, out-Term, out-roll-Term}
use Rattle.go_rules.specs.go_model.types.Terms.{Layer, error_method, error_type, is_error}
use Rattle.go_rules.specs.go_model.types.Underlying.{entry, under_entry, under_layer}
use Rattle.go_rules.specs.go_model.worlds.Worlds.{defined_in, path_of, table_of}
use Rattle.go_rules.specs.Environments.{Env}
use Rattle.go_rules.specs.KeptConstants.{ConstantsKept}
use Rattle.go_rules.specs.Operands.{HasKind, kind_of_type, kind_of_untyped}
use Rattle.go_rules.specs.Scopes.{as_import, of_universe}
use Rattle.go_rules.specs.Universe.{predeclared}
use Rattle.go_rules.specs.declared.predeclared.Predeclared.{Predeclared}
use Rattle.go_rules.specs.declared.seen.Seen.{Seen}
use Rattle.go_rules.specs.declared.seen.Seen.TheVariants as seen
use Rattle.go_rules.proofs.OneKind.{no_truth}
use Rattle.go_typings.specs.Assignments.{Below, Within, before}
use Rattle.go_typings.specs.ConstantKinds.{EntriesKept, ImportsKept, imports_alone}
use Rattle.go_typings.specs.Declarations.{Form, constants, variables, alias, definition, function, method, Declaration, Declared, declarations, declared}
use Rattle.go_typings.specs.PackageEnvironments.{Entries, Entry, objects, underlying, signed, as_object, entity_by, environment, import_of, meaning_at, object_of, own_defined, path_in}
use Rattle.go_typings.specs.Sources.{PackageSource, Setting}
use Rattle.go_typings.specs.Typings.{given}
use Rattle.go_typings.proofs.Agree.{held}
use Rattle.go_typings.proofs.Cells.{before_has, before_within, either, if_false, if_true, none_some, some_once}
use Rattle.go_typings.proofs.GrowEnvironments.{environment_more, object_back}
use Rattle.go_typings.proofs.KeptEntries.{EntityKept, EntryKept, entry_kept_more, gives_kept}
use Rattle.go_typings.proofs.OneTyping.{grows, one}

-- ---- meanings

abbrev is_local : Seen → Bool
is_local (seen.Local t) = true
is_local (seen.LocalConst c v) = true
is_local m = false

abbrev is_object : Seen → Bool
is_object (seen.Object x) = true
is_object m = false

abbrev object_in : Seen → Entity → Entity
object_in (seen.Object x) y = x
object_in m y = y

abbrev is_const : Entity → Bool
is_const (entity.Const c v) = true
is_const x = false

universe_apart : (c : Option Predeclared) (m : Seen) → of_universe c ≡ Some m → (is_local m ≡ false) × (is_object m ≡ false)
universe_apart None m e = none_some (of_universe None) m refl e
universe_apart (Some p) m e = let q = some_once (seen.Universe p) m e in (sym (ap is_local q), sym (ap is_object q))

object_apart : (c : Option Entity) (m : Seen) → as_object c ≡ Some m → is_local m ≡ false
object_apart None m e = none_some (as_object None) m refl e
object_apart (Some x) m e = sym (ap is_local (some_once (seen.Object x) m e))

object_is : (c : Option Entity) (x : Entity) → as_object c ≡ Some (seen.Object x) → c ≡ Some x
object_is None x e = none_some (as_object None) (seen.Object x) refl e
object_is (Some y) x e = ap (λ z. Some (object_in z y)) (some_once (seen.Object y) (seen.Object x) e)

module _ (path : List ℕ) (a : Entries) where
  entity_is : (n place : ℕ) (f : Form) (x : Entity) → is_const x ≡ true → entity_by path a n place f ≡ Some x → (k : ℕ) × (at : ℕ) × (object_of (a k) at ≡ Some x)
  entity_is n place (constants s at) x c e = (n, place, e)
  entity_is n place (variables s) x c e = (n, place, e)
  entity_is n place (alias s) x c e = (n, place, e)
  entity_is n place (definition s) x c e = absurd (no_truth (sym c ∙ sym (ap is_const (some_once (entity.TypeOf _) x e))))
  entity_is n place (function f) x c e = (n, place, e)
  entity_is n place (method r f) x c e = (n, place, e)

  -- no name means what is local
  meaning_apart : (name : List ℕ) (w : Option Declared) (m : Seen) → meaning_at path a name w ≡ Some m → is_local m ≡ false
  meaning_apart name None m e = (universe_apart (predeclared name) m e).0
  meaning_apart name (Some d) m e = object_apart (entity_by path a d.number d.place d.form) m e

  meaning_is : (name : List ℕ) (w : Option Declared) (x : Entity) → is_const x ≡ true → meaning_at path a name w ≡ Some (seen.Object x) → (k : ℕ) × (at : ℕ) × (object_of (a k) at ≡ Some x)
  meaning_is name None x c e = absurd (no_truth ((universe_apart (predeclared name) (seen.Object x) e).1))
  meaning_is name (Some d) x c e = entity_is d.number d.place d.form x c (object_is (entity_by path a d.number d.place d.form) x e)

  pub whole_apart : (i : Option (List ℕ)) (name : List ℕ) (w : Option Declared) (m : Seen) → option_or (as_import i) (meaning_at path a name w) ≡ Some m → is_local m ≡ false
  whole_apart None name w m e = meaning_apart name w m e
  whole_apart (Some p) name w m e = sym (ap is_local (some_once (seen.Import p) m e))

  pub whole_is : (i : Option (List ℕ)) (name : List ℕ) (w : Option Declared) (x : Entity) → is_const x ≡ true → option_or (as_import i) (meaning_at path a name w) ≡ Some (seen.Object x) → (k : ℕ) × (at : ℕ) × (object_of (a k) at ≡ Some x)
  whole_is None name w x c e = meaning_is name w x c e
  whole_is (Some p) name w x c e = absurd (no_truth (sym (ap is_object (some_once (seen.Import p) (seen.Object x) e))))

-- ---- lists

at_kept : (E : Env) (xs : List Entity) (n : ℕ) (x : Entity) → slice_get xs n ≡ Some x → Each (EntityKept E) xs → EntityKept E x
at_kept E [] n x e k = none_some (slice_get [] n) x refl e
at_kept E (y ∷ ys) zero x e k = subst (EntityKept E) (some_once y x e) k.0
at_kept E (y ∷ ys) (suc n) x e k = at_kept E ys n x e k.1

pub member_kept : (E : Env) (xs : List Entity) (x : Entity) → Has xs x → Each (EntityKept E) xs → EntityKept E x
member_kept E [] x h k = absurd h
member_kept E (y ∷ ys) x (inl p) k = subst (EntityKept E) p k.0
member_kept E (y ∷ ys) x (inr h) k = member_kept E ys x h k.1

-- ---- types of imports

abbrev is_basic : Layer → Bool
is_basic (Term-F.Plain b) = true
is_basic l = false

module _ (s : Setting) (u : PackageSource) (absent : first_with path_of s.world.packages u.path ≡ None) where
  module _ (b : Entries) (d : Declaration) where
    abbrev E : Env
    E = environment s u b d

    abbrev W : Env
    W = imports_alone s

    -- what no package has is no basic type
    no_entry : (n : TypeName) (x : Basic) → bytes_eq u.path n.path ≡ true → under_entry n (entry W.table n) ≡ Term-F.Plain x → ⊥
    no_entry n x p e =
        let q : W.table n ≡ None = ap (λ z. defined_in z n.name) (ap (first_with path_of s.world.packages) (sym ((bytes_eq-Decides u.path n.path).0 p)) ∙ absent) in
        elim (either (is_error n)) [
          | inl i ↦ no_truth (ap is_basic (sym e ∙ ap (under_entry n) (if_true (is_error n) (Some error_type) (W.table n) i) ∙ out-roll-Term (Term-F.Interface (error_method ∷ []))))
          | inr i ↦ no_truth (ap is_basic (sym e ∙ ap (under_entry n) (if_false (is_error n) (Some error_type) (W.table n) i ∙ q)))
        ]

    layer_kept : (l : Layer) (x : Basic) → under_layer W.table l ≡ Term-F.Plain x → under_layer E.table l ≡ Term-F.Plain x
    layer_kept (Term-F.Named n) x e = elim (either (bytes_eq u.path n.path)) [
      | inl p ↦ absurd (no_entry n x p e)
      | inr p ↦ ap (λ z. under_entry n (if is_error n then Some error_type else z)) (if_false (bytes_eq u.path n.path) (own_defined u b n.name) (table_of s.world.packages n) p) ∙ e
    ]
    layer_kept l x e = e

    pub kind_kept : {c : ConstTerm} {k : Kind} → HasKind W c k → HasKind E c k
    kind_kept (kind_of_type {t = t} {b = x} e) = kind_of_type (layer_kept (out-Term t) x e)
    kind_kept kind_of_untyped = kind_of_untyped

  -- the same entries in the environment of another declaration
  other_kind : (b : Entries) (d e : Declaration) {c : ConstTerm} {k : Kind} → HasKind (environment s u b d) c k → HasKind (environment s u b e) c k
  other_kind b d e (kind_of_type p) = kind_of_type p
  other_kind b d e kind_of_untyped = kind_of_untyped

  other_entity : (b : Entries) (d e : Declaration) (x : Entity) → EntityKept (environment s u b d) x → EntityKept (environment s u b e) x
  other_entity b d e (entity.Const c v) k = (k.0, other_kind b d e k.1, k.2)
  other_entity b d e (entity.Var t) k = tt
  other_entity b d e (entity.Function g) k = tt
  other_entity b d e (entity.TypeOf t) k = tt

  other_each : (b : Entries) (d e : Declaration) (xs : List Entity) → Each (EntityKept (environment s u b d)) xs → Each (EntityKept (environment s u b e)) xs
  other_each b d e [] k = tt
  other_each b d e (x ∷ xs) k = (other_entity b d e x k.0, other_each b d e xs k.1)

  pub other_entry : (b : Entries) (d e : Declaration) (x : Entry) → EntryKept (environment s u b d) x → EntryKept (environment s u b e) x
  other_entry b d e (objects xs) k = other_each b d e xs k
  other_entry b d e (underlying t) k = tt
  other_entry b d e (signed g) k = tt

  -- ---- a typing

  module _ (imports : ImportsKept s) (S : ℕ → Bool) (a : Entries) (T : Below (given s u) (declarations u) S a) where
    abbrev cut : ℕ → Entries
    cut n = before T.order (T.order n) a

    earlier : (m n : ℕ) → T.order m < T.order n → Within (cut m) (cut n)
    earlier m n l k x e = let p = before_has T.order (T.order m) a k x e in let o = p.0 in if_true _ (a k) None (grind (arith, nat_tests, o, l)) ∙ p.1

    entry_kept_by : (k n : ℕ) → T.order n < k → (x : Entry) → a n ≡ Some x → (d : Declaration) → EntryKept (environment s u (cut n) d) x
    entry_kept_by zero n l x e d = absurd (omega (arith, l))
    entry_kept_by (suc k) n l x e d =
        let g = T.below n (held (given s u) (grows s u) (one s u) (declarations u) S a T n x e) in
        let w : ConstantsKept (environment s u (cut n) g.0) = record {
          local = λ name c v p. absurd (no_truth (whole_apart u.path (cut n) (path_in (import_of u g.0.file name)) name (declared (declarations u) name) (seen.LocalConst c v) p));
          own = λ name c v p.
              let q = whole_is u.path (cut n) (path_in (import_of u g.0.file name)) name (declared (declarations u) name) (entity.Const c v) refl p in
              let r = object_back (cut n q.0) q.1 (entity.Const c v) q.2 in
              let b = before_has T.order (T.order n) a q.0 (objects r.0) r.1 in let o = b.0 in
              let h = entry_kept_by k q.0 (omega (arith, o, l)) (objects r.0) b.1 g.0 in
              at_kept (environment s u (cut n) g.0) r.0 q.1 (entity.Const c v) r.2
              (entry_kept_more (environment s u (cut q.0) g.0) (environment s u (cut n) g.0) (environment_more (cut q.0) (cut n) (earlier q.0 n o) s u g.0) (objects r.0) h);
          imported = λ path name c v p. let h = imports path name c v p in (h.0, kind_kept (cut n) g.0 h.1, h.2);
        } in
        other_entry (cut n) g.0 d x (subst (EntryKept (environment s u (cut n) g.0)) (some_once g.2.0 x (sym g.2.1 ∙ e)) (gives_kept (environment s u (cut n) g.0) w g.2.2))

    pub entries_kept : EntriesKept s u a
    entries_kept n xs c v e h =
        let g = T.below n (held (given s u) (grows s u) (one s u) (declarations u) S a T n (objects xs) e) in
        let k = entry_kept_by (suc (T.order n)) n (omega arith) (objects xs) e g.0 in (
          g.0,
          g.1,
          member_kept (environment s u a g.0) xs (entity.Const c v) h
              (entry_kept_more (environment s u (cut n) g.0) (environment s u a g.0) (environment_more (cut n) a (before_within T.order (T.order n) a) s u g.0) (objects xs) k),
        )
