-- What the type forms of a client ask of its environments.
use Rattle.std.proofs.Common.{◌≡◌, Bool, true, false, List, [], refl, sym, ap, ◌∙◌, subst, Option, Some, None}
use Rattle.go_base.specs.Lists.{Has as HasItem}
use Rattle.std.specs.Prelude.{codes, ℕ}
use Rattle.go_model.specs.declared.constants.value.Basic.{Basic}
use Rattle.go_model.specs.declared.types.names.Sel.{Sel}
use Rattle.go_model.specs.declared.types.names.TypeName.{TypeName}
use Rattle.go_model.specs.declared.types.term.Term.{Term, Term-F, out-Term, roll-Term, out-roll-Term}
use Rattle.go_model.specs.types.Selectors.{base_layer, base_of}
use Rattle.go_model.specs.types.Terms.{Layer, pointer_to}
use Rattle.go_rules.specs.Asks.{EmbedsField, EmbedsInterface, IsOwnLayer}
use Rattle.go_rules.specs.Environments.{Env}
use Rattle.go_rules.specs.Expressions.{IsTypeName, is_type, starred}
use Rattle.go_rules.specs.Operands.{any_term, basic_term, type_name}
use Rattle.go_rules.specs.Universe.{iota_operand, predeclared_operand, predeclared_type, type_operand}
use Rattle.go_rules.specs.declared.operand.Operand.{Operand}
use Rattle.go_rules.specs.declared.predeclared.Predeclared.{Predeclared}
use Rattle.go_rules.specs.declared.predeclared.Predeclared.TheVariants as p
use Rattle.go_rules.proofs.OneName.{none_some, one_name, one_some, one_type_name}
use Rattle.go_syntax.specs.declared.name.QualifiedName.{QualifiedName}
use Rattle.go_type_images.specs.Images.{Naming, image, same_sels}
use Rattle.go_type_images.specs.Parts.{parts}
use Rattle.go_type_images.specs.declared.pair.TypePair.{TypePair}
use Rattle.go_client_types.specs.Reached.{IsMade, IsReached, reach_made, reach_own}
use Rattle.go_type_images.proofs.ImageLevels.{image_roll}

own_base : (t : Term) (l : Layer) → IsOwnLayer l → base_layer t l ≡ t
own_base t (Term-F.Named n) h = refl
own_base t (Term-F.Plain b) h = refl
own_base t (Term-F.Interface ms) h = refl
own_base t (Term-F.Pointer u) h = absurd h
own_base t (Term-F.Slice u) h = absurd h
own_base t (Term-F.Array n u) h = absurd h
own_base t (Term-F.Map k u) h = absurd h
own_base t (Term-F.Chan d u) h = absurd h
own_base t (Term-F.Func g) h = absurd h
own_base t (Term-F.Struct fs) h = absurd h

base_starred : (star : Bool) (u : Term) → IsOwnLayer (out-Term u) → base_of (starred star u) ≡ u
base_starred false u h = own_base u (out-Term u) h
base_starred true u h = ap (base_layer (pointer_to u)) (out-roll-Term (Term-F.Pointer u))

module _ (E G : Env) (grows : (q : QualifiedName) (t : Term) → IsTypeName E q t → IsTypeName G q t) (barred : G.profile ≡ true) where
  pub embeds : (star : Bool) (q : QualifiedName) (u : Term) → EmbedsField G star q → IsTypeName E q u → IsOwnLayer (out-Term (base_of (starred star u)))
  embeds star q u m a =
      let s : m.embedded ≡ u = one_type_name G q m.names (grows q u a) in
      let own : IsOwnLayer (out-Term u) = subst (λ t. IsOwnLayer (out-Term t)) s (m.permitted barred) in
      subst (λ t. IsOwnLayer (out-Term t)) (sym (base_starred star u own)) own

  pub embeds_too : (q : QualifiedName) (u : Term) → EmbedsInterface G q → IsTypeName E q u → IsOwnLayer (out-Term u)
  embeds_too q u m a = subst (λ t. IsOwnLayer (out-Term t)) (one_type_name G q m.names (grows q u a)) (m.permitted barred)

-- ---- the universe

error_name : TypeName
error_name = record { path = []; name = codes "error" }

module _ (r : Naming) (pairs : List TypePair) (std : TypeName → Bool) (is_open : Sel → Bool) (named : r (record { path = []; name = codes "error" }) ≡ record { path = []; name = codes "error" }) where
  abbrev Universal : Term → Type 0
  Universal t = (image r same_sels t ≡ t) × IsReached pairs std is_open t

  made : (l : Layer) → IsMade l → ((u : Term) → HasItem (parts l) u → IsReached pairs std is_open u) → IsReached pairs std is_open (roll-Term l)
  made l m h = reach_made (subst IsMade (sym (out-roll-Term l)) m) (λ u k. h u (subst (λ x. HasItem (parts x) u) (out-roll-Term l) k))

  basic : (b : Basic) (t : Term) → Some (basic_term b) ≡ Some t → Universal t
  basic b t e = subst Universal (one_some e) (image_roll r same_sels (Term-F.Plain b), made (Term-F.Plain b) tt (λ u k. absurd k))

  any : (t : Term) → Some any_term ≡ Some t → Universal t
  any t e = subst Universal (one_some e) (image_roll r same_sels (Term-F.Interface []), made (Term-F.Interface []) tt (λ u k. absurd k))

  fault : (t : Term) → Some (roll-Term (Term-F.Named (record { path = []; name = codes "error" }))) ≡ Some t → Universal t
  fault t e = subst Universal (one_some e) (image_roll r same_sels (Term-F.Named (record { path = []; name = codes "error" })) ∙ ap (λ n. roll-Term (Term-F.Named n)) named, reach_own (out-roll-Term (Term-F.Named (record { path = []; name = codes "error" }))) refl)

  of_type : (q : Predeclared) (t : Term) → predeclared_type q ≡ Some t → Universal t
  of_type p.Any t e = any t e
  of_type p.Error t e = fault t e
  of_type p.Bool t e = basic _ t e
  of_type p.Byte t e = basic _ t e
  of_type p.Complex64 t e = basic _ t e
  of_type p.Complex128 t e = basic _ t e
  of_type p.Float32 t e = basic _ t e
  of_type p.Float64 t e = basic _ t e
  of_type p.Int t e = basic _ t e
  of_type p.Int8 t e = basic _ t e
  of_type p.Int16 t e = basic _ t e
  of_type p.Int32 t e = basic _ t e
  of_type p.Int64 t e = basic _ t e
  of_type p.Rune t e = basic _ t e
  of_type p.Str t e = basic _ t e
  of_type p.Uint t e = basic _ t e
  of_type p.Uint8 t e = basic _ t e
  of_type p.Uint16 t e = basic _ t e
  of_type p.Uint32 t e = basic _ t e
  of_type p.Uint64 t e = basic _ t e
  of_type p.Uintptr t e = basic _ t e
  of_type q t e = absurd (none_some e)

  by_type : (o : Option Term) (t : Term) → type_operand o ≡ Some (type_name t) → o ≡ Some t
  by_type None t e = absurd (none_some e)
  by_type (Some u) t e = ap Some (one_name (one_some e))

  other_mode : (o : Operand) (t : Term) → is_type o.mode ≡ false → Some o ≡ Some (type_name t) → ⊥
  other_mode o t f e = let m : is_type o.mode ≡ true = ap (λ (x : Operand). is_type x.mode) (one_some e) in absurd (cc)

  of_iota : (i : Option ℕ) (t : Term) → iota_operand i ≡ Some (type_name t) → ⊥
  of_iota None t e = none_some e
  of_iota (Some n) t e = other_mode _ t refl e

  of_operand : (i : Option ℕ) (q : Predeclared) (t : Term) → predeclared_operand i q ≡ Some (type_name t) → predeclared_type q ≡ Some t
  of_operand i p.True t e = absurd (other_mode _ t refl e)
  of_operand i p.False t e = absurd (other_mode _ t refl e)
  of_operand i p.Iota t e = absurd (of_iota i t e)
  of_operand i p.Nil t e = absurd (other_mode _ t refl e)
  of_operand i p.Append t e = absurd (other_mode _ t refl e)
  of_operand i p.Cap t e = absurd (other_mode _ t refl e)
  of_operand i p.Close t e = absurd (other_mode _ t refl e)
  of_operand i p.Copy t e = absurd (other_mode _ t refl e)
  of_operand i p.Delete t e = absurd (other_mode _ t refl e)
  of_operand i p.Len t e = absurd (other_mode _ t refl e)
  of_operand i p.Make t e = absurd (other_mode _ t refl e)
  of_operand i p.New t e = absurd (other_mode _ t refl e)
  of_operand i p.Panic t e = absurd (other_mode _ t refl e)
  of_operand i p.Print t e = absurd (other_mode _ t refl e)
  of_operand i p.Println t e = absurd (other_mode _ t refl e)
  of_operand i p.Recover t e = absurd (other_mode _ t refl e)
  of_operand i q t e = by_type (predeclared_type q) t e

  pub universe : (i : Option ℕ) (q : Predeclared) (t : Term) → predeclared_operand i q ≡ Some (type_name t) → Universal t
  universe i q t e = of_type q t (of_operand i q t e)
