-- Each type is found.
use Rattle.std.proofs.Common.{◌≡◌, ℕ, suc, ◌<◌, List, [], ◌∷◌, ◌++◌, length, drop, true, false, if◌then◌else◌, Option, Some, refl, ap, ◌∙◌, arith}
use Rattle.go_syntax.specs.declared.name.Name.{Name}
use Rattle.go_syntax.specs.declared.body.BodyRange.{BodyRange}
use Rattle.go_syntax.specs.declared.types.FieldDecl.{FieldDecl}
use Rattle.go_syntax.specs.declared.types.InterfaceElem.{InterfaceElem}
use Rattle.go_syntax.specs.declared.types.«Type».{«Type» as Typ}
use Rattle.go_syntax.specs.declared.token.TokenKind.TheVariants as kind
use Rattle.go_syntax.specs.grammar.Grammar as grammar
use Rattle.go_syntax.specs.grammar.Symbols.{Rule, takes, takes_name, takes_string, Ends, begins, begins_type, closes}
use Rattle.go_syntax.specs.grammar.Terminals.{Terminal, Sign, Identifier}
use Rattle.go_cursor.specs.LookAheads.{names_field}
use Rattle.go_cursor.specs.Reading.{after, step_of, expect, close}
use Rattle.go_descent.specs.Rules.{Parts, embedded_field, named_field, field_of, field_item, fields, struct_type, slice_or_array, map_type, composite_type, chan_type, method_of, interface_elem, interface_item, interface_elems, interface_type, receive_type, typ_of}
use Rattle.go_descent.proofs.Begins.{read, if_so, if_not, Gives, gives_stop, gives_more, runs, ends_here, ends_string, ends_paren, ends_comma, ends_type, type_begins, signature_begins, type_not_comma}
use Rattle.go_descent.proofs.BeginsExpr.{expr_begins, expr_not_right_bracket}
use Rattle.go_descent.proofs.CompleteNames.{names_read, type_name_read, tag_read}
use Rattle.go_descent.proofs.CompleteParts.{CompleteParts, over_right_bracket}
use Rattle.go_descent.proofs.Shorter.{Shortens, type_shorter, type_name_shorter, tag_shorter, ends_shorter, signature_shorter, more_names_shorter}

-- Fields

-- a type's name that is an embedded field
names_no_field : (n : Name) (ts : List Terminal) → begins kind.Comma ts ≡ false → begins_type ts ≡ false → names_field (Identifier n ∷ ts) ≡ false
names_no_field n ts e f = if_not _ _ _ e f

module _ {Body : ℕ → Rule BodyRange} where
  more_names_field : {h : ℕ} {ts u rest : List Terminal} {ns : List Name} {t : Typ} (n : Name) → grammar.IsMoreNames ts ns u → grammar.IsType Body h u t rest → names_field (Identifier n ∷ ts) ≡ true
  more_names_field {ts = ts} n grammar.names_none d = if_not _ _ _ (type_not_comma ts (type_begins d)) (type_begins d)
  more_names_field n (grammar.names_more (takes at) m more) d = refl

tag_then_comma : {ts u rest : List Terminal} {text : Option (List ℕ)} → grammar.IsTag ts text u → Ends u rest → begins kind.Comma ts ≡ false
tag_then_comma grammar.tag_none e = ends_comma e
tag_then_comma (grammar.tag_some place takes_string) e = refl

tag_then_type : {ts u rest : List Terminal} {text : Option (List ℕ)} → grammar.IsTag ts text u → Ends u rest → begins_type ts ≡ false
tag_then_type grammar.tag_none e = ends_type e
tag_then_type (grammar.tag_some place takes_string) e = refl

module _ {Body : ℕ → Rule BodyRange} (l : Parts) {h : ℕ} (typ_read : (ts : List Terminal) (t : Typ) (rest : List Terminal) → grammar.IsType Body h ts t rest → l.typ ts ≡ Some (t, rest)) where
  field_read : {ts u rest : List Terminal} {f : FieldDecl} → grammar.IsField Body h ts f u → Ends u rest → field_of l ts ≡ Some (f, u)
  unfolding field_of named_field embedded_field
  field_read (grammar.field_named {u = u} (grammar.names {n = n} takes_name more) d t) e =
      if_so _ _ _ (more_names_field n more d) (read _ _ (names_read (grammar.names takes_name more) (type_not_comma u (type_begins d))) (read _ _ (typ_read _ _ _ d) (read _ _ (tag_read t (ends_string e)) refl)))
  field_read (grammar.field_embedded (grammar.type_name_alone {rest = v} {n = n} takes_name s) t) e =
      if_not _ _ _ (names_no_field n v (tag_then_comma t e) (tag_then_type t e)) (read _ _ (type_name_read (grammar.type_name_alone takes_name s)) (read _ _ (tag_read t (ends_string e)) refl))
  field_read (grammar.field_embedded (grammar.type_name_qualified takes_name (takes at) takes_name) t) e =
      read _ _ (type_name_read (grammar.type_name_qualified takes_name (takes at) takes_name)) (read _ _ (tag_read t (ends_string e)) refl)
  field_read (grammar.field_pointer (takes at) q t) e = read _ _ (type_name_read q) (read _ _ (tag_read t (ends_string e)) refl)

module _ {Body : ℕ → Rule BodyRange} where
  field_open : {h : ℕ} {ts rest : List Terminal} {f : FieldDecl} → grammar.IsField Body h ts f rest → closes ts ≡ false
  field_open (grammar.field_named (grammar.names takes_name more) d t) = refl
  field_open (grammar.field_embedded (grammar.type_name_alone takes_name s) t) = refl
  field_open (grammar.field_embedded (grammar.type_name_qualified takes_name b c) t) = refl
  field_open (grammar.field_pointer (takes at) q t) = refl

  elem_open : {h : ℕ} {ts rest : List Terminal} {e : InterfaceElem} → grammar.IsInterfaceElem Body h ts e rest → closes ts ≡ false
  elem_open (grammar.elem_method takes_name s) = refl
  elem_open (grammar.elem_embedded (grammar.type_name_alone takes_name s)) = refl
  elem_open (grammar.elem_embedded (grammar.type_name_qualified takes_name b c)) = refl

  typ_composite : (l : Parts) {n : ℕ} {ts rest : List Terminal} {t : Typ} → grammar.IsCompositeType Body n ts t rest → typ_of l ts ≡ composite_type l ts
  unfolding typ_of
  typ_composite l (grammar.type_slice (takes at) b d) = refl
  typ_composite l (grammar.type_array (takes at) x b d) = refl
  typ_composite l (grammar.type_map (takes at) b k c d) = refl
  typ_composite l (grammar.type_struct_empty (takes at) b c) = refl
  typ_composite l (grammar.type_struct (takes at) b d c) = refl

  typ_other : (l : Parts) {n : ℕ} {ts rest : List Terminal} {t : Typ} → grammar.IsOtherType Body n ts t rest → typ_of l ts ≡ (if begins kind.ChanWord ts then chan_type l (drop 1 ts) else interface_type l (drop 1 ts))
  unfolding typ_of
  typ_other l (grammar.type_chan (takes at) e d) = refl
  typ_other l (grammar.type_send (takes at) b d) = refl
  typ_other l (grammar.type_interface_empty (takes at) b c) = refl
  typ_other l (grammar.type_interface (takes at) b d c) = refl

-- a field is some terminal at least
module _ {Body : ℕ → Rule BodyRange} (shorter : Shortens Body) where
  field_some : {h : ℕ} {ts rest : List Terminal} {f : FieldDecl} → grammar.IsField Body h ts f rest → length rest < length ts
  field_some (grammar.field_named (grammar.names takes_name more) d t) = omega (arith, more_names_shorter more, type_shorter Body shorter d, tag_shorter t)
  field_some (grammar.field_embedded (grammar.type_name_alone takes_name s) t) = omega (arith, tag_shorter t)
  field_some (grammar.field_embedded (grammar.type_name_qualified takes_name (takes at) takes_name) t) = omega (arith, tag_shorter t)
  field_some (grammar.field_pointer (takes at) q t) = omega (arith, type_name_shorter q, tag_shorter t)

  elem_some : {h : ℕ} {ts rest : List Terminal} {e : InterfaceElem} → grammar.IsInterfaceElem Body h ts e rest → length rest < length ts
  elem_some (grammar.elem_method takes_name s) = omega (arith, signature_shorter Body shorter s)
  elem_some (grammar.elem_embedded (grammar.type_name_alone takes_name s)) = omega arith
  elem_some (grammar.elem_embedded (grammar.type_name_qualified takes_name (takes at) takes_name)) = omega arith

not_closing_right_brace : (ts : List Terminal) → closes ts ≡ false → begins kind.RightBrace ts ≡ false
not_closing_right_brace [] e = refl
not_closing_right_brace (Sign kind.RightBrace at ∷ ts) e = absurd (cc)
not_closing_right_brace (_ ∷ ts) e = refl

module _ {Body : ℕ → Rule BodyRange} (shorter : Shortens Body) {l : Parts} where
  more_fields_read : {h : ℕ} (p : CompleteParts Body l (suc h)) {ts rest : List Terminal} {fs : List FieldDecl} → grammar.IsFields Body h ts fs rest → closes rest ≡ true → (acc : List FieldDecl) → Gives (step_of (field_item l)) acc ts (Some (acc ++ fs, rest))
  more_fields_read p {ts} grammar.fields_none c acc = gives_stop (field_item l) acc ts (if_so _ _ _ c refl)
  more_fields_read p {ts} {rest} (grammar.fields_more {v = v} {f = f} {fs = fs} d e more) c acc =
      gives_more (field_item l) acc f fs ts v rest (if_not _ _ _ (field_open d) (ap after (read _ _ (field_read l p.reads_typ d e) (ends_here f e))))
      (omega (arith, field_some shorter d, ends_shorter e)) (more_fields_read p more c (acc ++ f ∷ []))

  fields_read : {h : ℕ} (p : CompleteParts Body l (suc h)) {ts rest : List Terminal} {fs : List FieldDecl} → grammar.IsFields Body h ts fs rest → closes rest ≡ true → fields l ts ≡ Some (fs, rest)
  unfolding fields
  fields_read p {ts} {rest} {fs} d c = runs (step_of (field_item l)) [] ts (Some (fs, rest)) (more_fields_read p d c [])

  pub composite_read : {n : ℕ} (p : CompleteParts Body l n) {ts rest : List Terminal} {t : Typ} → grammar.IsCompositeType Body n ts t rest → composite_type l ts ≡ Some (t, rest)
  unfolding composite_type slice_or_array map_type struct_type expect close
  composite_read p (grammar.type_slice (takes at) (takes b) d) = read _ _ (p.reads_typ _ _ _ d) refl
  composite_read p (grammar.type_array {u = u} {w = w} (takes at) x (takes b) d) = if_not _ _ _ (expr_not_right_bracket u (expr_begins x)) (read _ _ (p.reads_expr _ _ _ x (over_right_bracket true b w)) (read _ _ (p.reads_typ _ _ _ d) refl))
  composite_read p (grammar.type_map (takes at) (takes b) k (takes c) d) = read _ _ (p.reads_typ _ _ _ k) (read _ _ (p.reads_typ _ _ _ d) refl)
  composite_read p (grammar.type_struct_empty (takes at) (takes b) (takes c)) = refl
  composite_read p (grammar.type_struct (takes at) (takes b) grammar.fields_none (takes c)) = refl
  composite_read p (grammar.type_struct {h = h} {v = v} (takes at) (takes b) (grammar.fields_more d e more) (takes c)) =
      if_not _ _ _ (not_closing_right_brace v (field_open d)) (if_so _ _ _ (p.is_deep h refl) (read _ _ (fields_read p (grammar.fields_more d e more) refl) refl))

  -- Interfaces

  elem_read : {h : ℕ} (p : CompleteParts Body l (suc h)) {ts u rest : List Terminal} {e : InterfaceElem} → grammar.IsInterfaceElem Body h ts e u → Ends u rest → interface_elem l ts ≡ Some (e, u)
  unfolding interface_elem method_of
  elem_read p (grammar.elem_method takes_name s) e = if_so _ _ _ (signature_begins s) (read _ _ (p.reads_signature _ _ _ s) refl)
  elem_read p (grammar.elem_embedded (grammar.type_name_alone takes_name s)) e = if_not _ _ _ (ends_paren e) (read _ _ (type_name_read (grammar.type_name_alone takes_name s)) refl)
  elem_read p (grammar.elem_embedded (grammar.type_name_qualified takes_name (takes at) takes_name)) e = read _ _ (type_name_read (grammar.type_name_qualified takes_name (takes at) takes_name)) refl

  more_elems_read : {h : ℕ} (p : CompleteParts Body l (suc h)) {ts rest : List Terminal} {es : List InterfaceElem} → grammar.IsInterfaceElems Body h ts es rest → closes rest ≡ true → (acc : List InterfaceElem) → Gives (step_of (interface_item l)) acc ts (Some (acc ++ es, rest))
  more_elems_read p {ts} grammar.elems_none c acc = gives_stop (interface_item l) acc ts (if_so _ _ _ c refl)
  more_elems_read p {ts} {rest} (grammar.elems_more {v = v} {e = x} {es = xs} d e more) c acc =
      gives_more (interface_item l) acc x xs ts v rest (if_not _ _ _ (elem_open d) (ap after (read _ _ (elem_read p d e) (ends_here x e))))
      (omega (arith, elem_some shorter d, ends_shorter e)) (more_elems_read p more c (acc ++ x ∷ []))

  elems_read : {h : ℕ} (p : CompleteParts Body l (suc h)) {ts rest : List Terminal} {es : List InterfaceElem} → grammar.IsInterfaceElems Body h ts es rest → closes rest ≡ true → interface_elems l ts ≡ Some (es, rest)
  unfolding interface_elems
  elems_read p {ts} {rest} {es} d c = runs (step_of (interface_item l)) [] ts (Some (es, rest)) (more_elems_read p d c [])

  -- Channels and interfaces

  pub other_read : {n : ℕ} (p : CompleteParts Body l n) {ts rest : List Terminal} {t : Typ} → grammar.IsOtherType Body n ts t rest
      → (if begins kind.ChanWord ts then chan_type l (drop 1 ts) else interface_type l (drop 1 ts)) ≡ Some (t, rest)
  unfolding chan_type interface_type expect close
  other_read p (grammar.type_chan (takes at) e d) = if_not _ _ _ e (read _ _ (p.reads_typ _ _ _ d) refl)
  other_read p (grammar.type_send (takes at) (takes b) d) = read _ _ (p.reads_typ _ _ _ d) refl
  other_read p (grammar.type_interface_empty (takes at) (takes b) (takes c)) = refl
  other_read p (grammar.type_interface (takes at) (takes b) grammar.elems_none (takes c)) = refl
  other_read p (grammar.type_interface {h = h} {v = v} (takes at) (takes b) (grammar.elems_more d e more) (takes c)) =
      if_not _ _ _ (not_closing_right_brace v (elem_open d)) (if_so _ _ _ (p.is_deep h refl) (read _ _ (elems_read p (grammar.elems_more d e more) refl) refl))

  pub typ_read : {n : ℕ} (p : CompleteParts Body l n) {ts rest : List Terminal} {t : Typ} → grammar.IsType Body n ts t rest → typ_of l ts ≡ Some (t, rest)
  unfolding typ_of receive_type expect close
  typ_read p (grammar.type_name (grammar.type_name_alone takes_name e)) = read _ _ (type_name_read (grammar.type_name_alone takes_name e)) refl
  typ_read p (grammar.type_name (grammar.type_name_qualified takes_name (takes at) takes_name)) = read _ _ (type_name_read (grammar.type_name_qualified takes_name (takes at) takes_name)) refl
  typ_read p (grammar.type_paren (takes at) d (takes b)) = read _ _ (p.reads_typ _ _ _ d) refl
  typ_read p (grammar.type_pointer (takes at) d) = read _ _ (p.reads_typ _ _ _ d) refl
  typ_read p (grammar.type_receive (takes at) (takes b) d) = read _ _ (p.reads_typ _ _ _ d) refl
  typ_read p (grammar.type_func (takes at) d) = read _ _ (p.reads_signature _ _ _ d) refl
  typ_read p (grammar.type_composite d) = typ_composite l d ∙ composite_read p d
  typ_read p (grammar.type_other d) = typ_other l d ∙ other_read p d
