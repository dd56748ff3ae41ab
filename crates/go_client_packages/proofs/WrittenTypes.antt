-- A type form of a client stands for a type that the client writes itself, or is a name that leads by aliases to one of another package.
use Rattle.std.proofs.Common.{◌≡◌, ◌⊎◌, inl, inr, ℕ, Bool, true, false, List, [], refl, sym, ap, ◌∙◌, subst, Option, Some, None}
use Rattle.std.specs.Option.{option_or}
use Rattle.std.specs.Prelude.{codes}
use Rattle.go_base.proofs.Members.{each_has}
use Rattle.go_base.specs.Lists.{Each, Has as HasItem}
use Rattle.go_model.specs.declared.constants.value.Basic.{Basic}
use Rattle.go_model.specs.declared.constants.value.Basic.TheVariants as basic
use Rattle.go_model.specs.declared.types.names.Sel.{Sel}
use Rattle.go_model.specs.declared.types.names.TypeName.{TypeName}
use Rattle.go_model.specs.declared.types.package.Entity.{Entity}
use Rattle.go_model.specs.declared.types.package.Entity.TheVariants as entity
use Rattle.go_model.specs.declared.types.term.Direction.TheVariants as direction
use Rattle.go_model.specs.declared.types.term.Term.{Term, Term-F, out-Term, roll-Term, out-roll-Term}
use Rattle.go_model.specs.types.Imports.{is_imported}
use Rattle.go_model.specs.types.MethodSets.{method_sel}
use Rattle.go_model.specs.types.Terms.{Layer}
use Rattle.go_rules.specs.Asks.{Meets, TypeMeets}
use Rattle.go_rules.specs.Environments.{Env}
use Rattle.go_rules.specs.Expressions.{IsTypeName, NamesType, OfForm, of_array, of_channel, of_function, of_interface, of_map, of_name, of_paren, of_pointer, of_receive_channel, of_send_channel, of_slice, of_struct, OfType, of_type, seen_operand}
use Rattle.go_rules.specs.Nodes.{Node, TypeLayer, stands_here, type, type_parts}
use Rattle.go_rules.specs.Operands.{any_term, basic_term, type_name}
use Rattle.go_rules.specs.Scopes.{as_import, of_universe}
use Rattle.go_rules.specs.Universe.{predeclared, predeclared_operand}
use Rattle.go_rules.specs.declared.operand.Mode.{Mode}
use Rattle.go_rules.specs.declared.operand.Mode.TheVariants as mode
use Rattle.go_rules.specs.declared.operand.Operand.{Operand}
use Rattle.go_rules.specs.declared.predeclared.Predeclared.{Predeclared}
use Rattle.go_rules.specs.declared.predeclared.Predeclared.TheVariants as p
use Rattle.go_rules.specs.declared.seen.Seen.{Seen}
use Rattle.go_rules.specs.declared.seen.Seen.TheVariants as seen
use Rattle.go_rules.proofs.LocalTypes.{each_made}
use Rattle.go_rules.proofs.OneName.{none_some, one_name, one_some}
use Rattle.go_syntax.specs.declared.name.Name.{Name}
use Rattle.go_syntax.specs.declared.name.QualifiedName.{QualifiedName}
use Rattle.go_syntax.specs.declared.types.«Type».{«Type» as Typ, «Type-F» as Typ-F, «out-Type» as out-Typ, «roll-Type» as roll-Typ, «roll-out-Type» as roll-out-Typ, «fold-roll-Type» as fold-roll-Typ}
use Rattle.go_type_images.specs.Images.{Naming}
use Rattle.go_type_images.specs.Parts.{parts}
use Rattle.go_type_images.specs.declared.pair.TypePair.{TypePair}
use Rattle.go_typings.specs.Declarations.{Declaration, Declared, declarations, declared}
use Rattle.go_typings.specs.PackageEnvironments.{Entries, as_object, entity_by, environment, import_of, meaning_at, meaning_of, path_in}
use Rattle.go_typings.specs.Receivers.{NameForm, form_step, name_form, written_name}
use Rattle.go_typings.specs.Sources.{PackageSource, Setting}
use Rattle.go_client_types.specs.Keeping.{Keeps}
use Rattle.go_client_types.specs.Reached.{IsClientSel, IsMade, IsReached}
use Rattle.go_client_types.proofs.Conversions as C
use Rattle.go_client_types.proofs.TypeForms.{meets_parts}
use Rattle.go_client_expressions.proofs.Expressions as expressions
use Rattle.go_client_packages.proofs.AliasEnds.{Ends, EndsBy, ends_here}

-- ---- types that are written as names

named_form : (t : Typ) (q : QualifiedName) → out-Typ t ≡ Typ-F.«Type::Named» q → name_form t ≡ Some (record { pointer = false; name = q })
named_form t q e =
    ap name_form (sym (roll-out-Typ t) ∙ ap roll-Typ e)
    ∙ fold-roll-Typ (Unit {0}) (Unit {0}) (Unit {0}) (Unit {0}) (Unit {0}) (Unit {0}) (Option NameForm) (Unit {0}) (Unit {0}) (Unit {0}) (λ x. tt) (λ x. tt) (λ x. tt) (λ x. tt) (λ x. tt) (λ x. tt) form_step (λ x. tt) (λ x. tt) (λ x. tt) (Typ-F.«Type::Named» q)

inner_form : (t inner : Typ) → out-Typ t ≡ Typ-F.«Type::Paren» inner → name_form t ≡ name_form inner
inner_form t inner e =
    ap name_form (sym (roll-out-Typ t) ∙ ap roll-Typ e)
    ∙ fold-roll-Typ (Unit {0}) (Unit {0}) (Unit {0}) (Unit {0}) (Unit {0}) (Unit {0}) (Option NameForm) (Unit {0}) (Unit {0}) (Unit {0}) (λ x. tt) (λ x. tt) (λ x. tt) (λ x. tt) (λ x. tt) (λ x. tt) form_step (λ x. tt) (λ x. tt) (λ x. tt) (Typ-F.«Type::Paren» inner)

-- ---- what isn't a type

other_mode : (o : Operand) (t : Term) (m : Mode) → o.mode ≡ m → Some o ≡ Some (type_name t) → m ≡ mode.TypeName
other_mode o t m e f = sym e ∙ ap (λ (x : Operand). x.mode) (one_some f)

no_constant : mode.Constant ≡ mode.TypeName → ⊥
no_constant e = absurd (cc)

no_variable : mode.Variable ≡ mode.TypeName → ⊥
no_variable e = absurd (cc)

no_plain : mode.Plain ≡ mode.TypeName → ⊥
no_plain e = absurd (cc)

no_nil : mode.Nil ≡ mode.TypeName → ⊥
no_nil e = absurd (cc)

no_builtin : mode.Builtin ≡ mode.TypeName → ⊥
no_builtin e = absurd (cc)

-- ---- the declaration of a name of the package

no_universe : (q : Predeclared) (x : Entity) → seen.Universe q ≡ seen.Object x → ⊥
no_universe q x e = absurd (cc)

no_import : (path : List ℕ) (x : Entity) → seen.Import path ≡ seen.Object x → ⊥
no_import path x e = absurd (cc)

one_object : (x y : Entity) → seen.Object x ≡ seen.Object y → x ≡ y
one_object x y e = cc

universe_only : (c : Option Predeclared) (x : Entity) → of_universe c ≡ Some (seen.Object x) → ⊥
universe_only None x e = none_some e
universe_only (Some q) x e = no_universe q x (one_some e)

object_is : (c : Option Entity) (x : Entity) → as_object c ≡ Some (seen.Object x) → c ≡ Some x
object_is None x e = absurd (none_some e)
object_is (Some y) x e = ap Some (one_object y x (one_some e))

-- where the object of a name is declared
abbrev pub DeclaredAs : PackageSource → Entries → List ℕ → Entity → Type 0
DeclaredAs u b name x = (w : Declared) × (declared (declarations u) name ≡ Some w) × (entity_by u.path b w.number w.place w.form ≡ Some x)

declared_at : (u : PackageSource) (b : Entries) (name : List ℕ) (c : Option Declared) (x : Entity) → declared (declarations u) name ≡ c → meaning_at u.path b name c ≡ Some (seen.Object x) → DeclaredAs u b name x
declared_at u b name None x e f = absurd (universe_only (predeclared name) x f)
declared_at u b name (Some w) x e f = (w, e, object_is (entity_by u.path b w.number w.place w.form) x f)

declared_as : (u : PackageSource) (b : Entries) (name : List ℕ) (i : Option (List ℕ)) (x : Entity) → option_or (as_import i) (meaning_at u.path b name (declared (declarations u) name)) ≡ Some (seen.Object x) → DeclaredAs u b name x
declared_as u b name None x e = declared_at u b name (declared (declarations u) name) x refl e
declared_as u b name (Some path) x e = absurd (no_import path x (one_some e))

-- ---- types that a client writes

module _ (pairs : List TypePair) (std : TypeName → Bool) (is_open : Sel → Bool) where
  -- its own, a predeclared one, or one whose level it writes, of types that it reaches
  abbrev pub Written : Term → Type 0
  Written v = ((n : TypeName) × (out-Term v ≡ Term-F.Named n) × (is_imported n ≡ false)) ⊎ (IsMade (out-Term v) × ((w : Term) → HasItem (parts (out-Term v)) w → IsReached pairs std is_open w))

  basic_written : (b : Basic) → Written (basic_term b)
  basic_written b = inr (subst IsMade (sym (out-roll-Term (Term-F.Plain b))) tt, λ w k. absurd (subst (λ l. HasItem (parts l) w) (out-roll-Term (Term-F.Plain b)) k))

  any_written : Written any_term
  any_written = inr (subst IsMade (sym (out-roll-Term (Term-F.Interface []))) tt, λ w k. absurd (subst (λ l. HasItem (parts l) w) (out-roll-Term (Term-F.Interface [])) k))

  error_written : Written (roll-Term (Term-F.Named (record { path = []; name = codes "error" })))
  error_written = inl (record { path = []; name = codes "error" }, out-roll-Term (Term-F.Named (record { path = []; name = codes "error" })), refl)

  as_named : (t v : Term) → Written t → Some (type_name t) ≡ Some (type_name v) → Written v
  as_named t v h e = subst Written (one_name (one_some e)) h

  pub universe_written : (i : Option ℕ) (q : Predeclared) (v : Term) → predeclared_operand i q ≡ Some (type_name v) → Written v
  universe_written i p.Any v e = as_named any_term v any_written e
  universe_written i p.Bool v e = as_named (basic_term basic.Bool) v (basic_written basic.Bool) e
  universe_written i p.Byte v e = as_named (basic_term basic.Uint8) v (basic_written basic.Uint8) e
  universe_written i p.Complex64 v e = as_named (basic_term basic.Complex64) v (basic_written basic.Complex64) e
  universe_written i p.Complex128 v e = as_named (basic_term basic.Complex128) v (basic_written basic.Complex128) e
  universe_written i p.Error v e = as_named (roll-Term (Term-F.Named (record { path = []; name = codes "error" }))) v error_written e
  universe_written i p.Float32 v e = as_named (basic_term basic.Float32) v (basic_written basic.Float32) e
  universe_written i p.Float64 v e = as_named (basic_term basic.Float64) v (basic_written basic.Float64) e
  universe_written i p.Int v e = as_named (basic_term basic.Int) v (basic_written basic.Int) e
  universe_written i p.Int8 v e = as_named (basic_term basic.Int8) v (basic_written basic.Int8) e
  universe_written i p.Int16 v e = as_named (basic_term basic.Int16) v (basic_written basic.Int16) e
  universe_written i p.Int32 v e = as_named (basic_term basic.Int32) v (basic_written basic.Int32) e
  universe_written i p.Int64 v e = as_named (basic_term basic.Int64) v (basic_written basic.Int64) e
  universe_written i p.Rune v e = as_named (basic_term basic.Int32) v (basic_written basic.Int32) e
  universe_written i p.Str v e = as_named (basic_term basic.Str) v (basic_written basic.Str) e
  universe_written i p.Uint v e = as_named (basic_term basic.Uint) v (basic_written basic.Uint) e
  universe_written i p.Uint8 v e = as_named (basic_term basic.Uint8) v (basic_written basic.Uint8) e
  universe_written i p.Uint16 v e = as_named (basic_term basic.Uint16) v (basic_written basic.Uint16) e
  universe_written i p.Uint32 v e = as_named (basic_term basic.Uint32) v (basic_written basic.Uint32) e
  universe_written i p.Uint64 v e = as_named (basic_term basic.Uint64) v (basic_written basic.Uint64) e
  universe_written i p.Uintptr v e = as_named (basic_term basic.Uintptr) v (basic_written basic.Uintptr) e
  universe_written i p.True v e = absurd (no_constant (other_mode _ v mode.Constant refl e))
  universe_written i p.False v e = absurd (no_constant (other_mode _ v mode.Constant refl e))
  universe_written None p.Iota v e = absurd (none_some e)
  universe_written (Some n) p.Iota v e = absurd (no_constant (other_mode _ v mode.Constant refl e))
  universe_written i p.Nil v e = absurd (no_nil (other_mode _ v mode.Nil refl e))
  universe_written i q v e = absurd (no_builtin (other_mode _ v mode.Builtin refl e))

module _ (s : Setting) (u : PackageSource) (b : Entries) (d : Declaration) (F G : Env) (r : Naming) (pairs : List TypePair) (std : TypeName → Bool) (is_open : Sel → Bool) (K : Keeps (environment s u b d) F r pairs std is_open)
    (more : (q : QualifiedName) (t : Term) → IsTypeName (environment s u b d) q t → IsTypeName G q t) (barred : G.profile ≡ true) (M : ℕ)
    (own : (name : Name) (v : Term) → DeclaredAs u b name.text (entity.TypeOf v) → Written pairs std is_open v ⊎ Ends (declarations u) M (record { qualifier = None; name = name })) where
  abbrev E : Env
  E = environment s u b d

  abbrev R : Term → Type 0
  R = IsReached pairs std is_open

  abbrev W : Term → Type 0
  W = Written pairs std is_open

  abbrev Met : List Node → Type 0
  Met bs = Each (Meets G) bs

  object_written : (name : Name) (v : Term) (x : Entity) → meaning_of u b d.file name.text ≡ Some (seen.Object x) → seen_operand E.iota (seen.Object x) ≡ Some (type_name v) → W v ⊎ Ends (declarations u) M (record { qualifier = None; name = name })
  object_written name v (entity.TypeOf w) e f = own name v (subst (λ z. DeclaredAs u b name.text (entity.TypeOf z)) (one_name (one_some f)) (declared_as u b name.text (path_in (import_of u d.file name.text)) (entity.TypeOf w) e))
  object_written name v (entity.Const c k) e f = absurd (no_constant (other_mode _ v mode.Constant refl f))
  object_written name v (entity.Var t) e f = absurd (no_variable (other_mode _ v mode.Variable refl f))
  object_written name v (entity.Function g) e f = absurd (no_plain (other_mode _ v mode.Plain refl f))

  seen_written : (name : Name) (v : Term) (m : Seen) → meaning_of u b d.file name.text ≡ Some m → seen_operand E.iota m ≡ Some (type_name v) → W v ⊎ Ends (declarations u) M (record { qualifier = None; name = name })
  seen_written name v (seen.Object x) e f = object_written name v x e f
  seen_written name v (seen.Universe q) e f = inl (universe_written pairs std is_open E.iota q v f)
  seen_written name v (seen.Import path) e f = absurd (none_some f)
  seen_written name v (seen.Local t) e f = absurd (no_variable (other_mode _ v mode.Variable refl f))
  seen_written name v (seen.LocalConst c k) e f = absurd (no_constant (other_mode _ v mode.Constant refl f))

  named_by : (o : Option Name) (name : Name) (v : Term) → NamesType E o name v → W v ⊎ Ends (declarations u) M (record { qualifier = o; name = name })
  named_by None name v a = seen_written name v a.meaning a.means a.denotes
  named_by (Some x) name v a = inr (ends_here (declarations u) M (record { qualifier = Some x; name = name }) refl)

  -- ---- forms

  abbrev WrittenBy : Typ → Term → Type 0
  WrittenBy t v = W v ⊎ EndsBy (declarations u) M (written_name (name_form t))

  in_level : (v : Term) → R v → IsMade (out-Term v) → W v
  in_level v h m = inr (m, λ w k. C.part_reached E F r pairs std is_open K v w h k)

  of_level : (l : Layer) → R (roll-Term l) → IsMade l → W (roll-Term l)
  of_level l h m = in_level (roll-Term l) h (subst IsMade (sym (out-roll-Term l)) m)

  mutual
    pub type_written : (t : Typ) (v : Term) → OfType E t v → Meets G (type t) → WrittenBy t v
    type_written t v (of_type a s) m = form_written t (out-Typ t) v refl a (m.types t stands_here) (meets_parts G (type t) m) (expressions.type_kept E F G r pairs std is_open K more barred (of_type a s) m).1

    form_written : (t : Typ) (l : TypeLayer) (v : Term) → out-Typ t ≡ l → OfForm E l v → TypeMeets G l → Met (type_parts l) → R v → WrittenBy t v
    form_written t l v e (of_name {q = q} a) n m h =
        let f = named_by q.qualifier q.name v a in
        elim f [
          | inl x ↦ inl x
          | inr x ↦ inr (subst (λ z. EndsBy (declarations u) M (written_name z)) (sym (named_form t q e)) x)
        ]
    form_written t l v e (of_paren {t = inner} a) n m h = subst (λ z. W v ⊎ EndsBy (declarations u) M (written_name z)) (sym (inner_form t inner e)) (type_written inner v a m.0)
    form_written t l v e (of_pointer {u = w} a) n m h = inl (of_level (Term-F.Pointer w) h tt)
    form_written t l v e (of_slice {u = w} a) n m h = inl (of_level (Term-F.Slice w) h tt)
    form_written t l v e (of_array {u = w} {n = k} x y a) n m h = inl (of_level (Term-F.Array k w) h tt)
    form_written t l v e (of_map {u = w} {v = z} a b) n m h = inl (of_level (Term-F.Map w z) h tt)
    form_written t l v e (of_channel {u = w} a) n m h = inl (of_level (Term-F.Chan direction.Both w) h tt)
    form_written t l v e (of_send_channel {u = w} a) n m h = inl (of_level (Term-F.Chan direction.SendOnly w) h tt)
    form_written t l v e (of_receive_channel {u = w} a) n m h = inl (of_level (Term-F.Chan direction.ReceiveOnly w) h tt)
    form_written t l v e (of_function {h = g} a) n m h = inl (of_level (Term-F.Func g) h tt)
    form_written t l v e (of_struct {fs = fs} x) n m h = inl (of_level (Term-F.Struct fs) h (expressions.fields_kept E F G r pairs std is_open K more barred x n.1 m).1.0)
    form_written t l v e (of_interface ms all x y i j) n m h =
        let f = expressions.methods_kept E F G r pairs std is_open K more barred x n.1 m in
        inl (of_level (Term-F.Interface ms) h (each_made ms (λ z k. each_has (λ c. IsClientSel (method_sel c)) all z f.1.0 (i z k))))
