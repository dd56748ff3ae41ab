-- What the readers of types find is in the grammar.
use Rattle.std.proofs.Common.{◌≡◌, ℕ, zero, suc, List, [], drop, true, Some}
use Rattle.go_syntax.specs.declared.body.BodyRange.{BodyRange}
use Rattle.go_syntax.specs.declared.types.«Type».{«Type» as Typ}
use Rattle.go_syntax.specs.declared.types.«Type».TheVariants as type
use Rattle.go_syntax.specs.declared.token.TokenKind.TheVariants as kind
use Rattle.go_syntax.specs.grammar.Grammar.{IsExpr, IsSignature, IsType, type_name as type_named, type_paren, type_pointer, type_receive, type_func, type_composite, type_other, IsCompositeType, type_slice, type_array, type_map, type_struct_empty, type_struct, IsOtherType, type_chan, type_send, type_interface_empty, type_interface, IsFields, fields_none, fields_more, IsField, field_named, field_embedded, field_pointer, IsInterfaceElems, elems_none, elems_more, IsInterfaceElem, elem_method, elem_embedded}
use Rattle.go_syntax.specs.grammar.Symbols.{Rule, Takes, begins}
use Rattle.go_syntax.specs.grammar.Terminals.{Terminal}
use Rattle.go_cursor.specs.Names.{names, type_name, tag}
use Rattle.go_cursor.specs.LookAheads.{names_field, names_method}
use Rattle.go_cursor.specs.Reading.{bind, expect, close, name, begins_name}
use Rattle.go_descent.specs.Rules.{Parts, slice_or_array, map_type, embedded_field, named_field, field_of, field_item, fields, struct_type, composite_type, chan_type, method_of, interface_elem, interface_item, interface_elems, interface_type, receive_type, typ_of}
use Rattle.go_descent.proofs.SoundParts.{SoundParts, no_level}
use Rattle.go_cursor.proofs.Steps.{Below, Sound, above, with_bind, branch, same, taken, expected, closed, named_by, run_sound, from_none, Ending, ending_item_sound, names_sound, type_name_sound, tag_sound}

-- fields and methods, above the types in them
module _ (Body : ℕ → Rule BodyRange) (h : ℕ) (l : Parts) (s : SoundParts Body l (suc h)) where
  field_sound : Sound (IsField Body h) (field_of l)
  unfolding field_of embedded_field named_field
  field_sound ts f rest e = branch (begins kind.Multiply ts) e
      (λ c ee. with_bind (type_name (drop 1 ts)) _ ee (λ q u eq et. with_bind (tag u) _ et (λ text v ex r. same (IsField Body h) ts (field_pointer (taken kind.Multiply ts c) (type_name_sound (drop 1 ts) q u eq) (tag_sound u text v ex)) r)))
      (λ c eb. branch (names_field ts) eb
      (λ c en. with_bind (names ts) _ en (λ ns u en et. with_bind (l.typ u) _ et (λ t v et eg. with_bind (tag v) _ eg (λ text w eg r. same (IsField Body h) ts (field_named (names_sound ts ns u en) (s.typ u t v et) (tag_sound v text w eg)) r))))
      (λ c ee. with_bind (type_name ts) _ ee (λ q u eq et. with_bind (tag u) _ et (λ text v ex r. same (IsField Body h) ts (field_embedded (type_name_sound ts q u eq) (tag_sound u text v ex)) r))))

  pub fields_sound : Sound (IsFields Body h) (fields l)
  unfolding fields
  fields_sound ts fs rest e = from_none (IsFields Body h) ts fs rest
      (run_sound (Ending (IsField Body h)) (IsFields Body h) (λ w. fields_none) (λ w v y x xs k c. fields_more k.1 k.2 c) (field_item l) (ending_item_sound (IsField Body h) (field_of l) field_sound) [] ts fs rest e)

  elem_sound : Sound (IsInterfaceElem Body h) (interface_elem l)
  unfolding interface_elem method_of
  elem_sound ts x rest e = branch (names_method ts) e
      (λ c en. with_bind (name ts) _ en (λ n u en es. with_bind (l.signature u) _ es (λ g v eg r. same (IsInterfaceElem Body h) ts (elem_method (named_by ts en) (s.signature u g v eg)) r)))
      (λ c eq. with_bind (type_name ts) _ eq (λ q u eq r. same (IsInterfaceElem Body h) ts (elem_embedded (type_name_sound ts q u eq)) r))

  pub elems_sound : Sound (IsInterfaceElems Body h) (interface_elems l)
  unfolding interface_elems
  elems_sound ts xs rest e = from_none (IsInterfaceElems Body h) ts xs rest
      (run_sound (Ending (IsInterfaceElem Body h)) (IsInterfaceElems Body h) (λ w. elems_none) (λ w v y x xs k c. elems_more k.1 k.2 c) (interface_item l) (ending_item_sound (IsInterfaceElem Body h) (interface_elem l) elem_sound) [] ts xs rest e)

struct_some : (Body : ℕ → Rule BodyRange) (l : Parts) (n : ℕ) → SoundParts Body l n → l.deep ≡ true → (ts u v : List Terminal) → Takes kind.StructWord ts u → Takes kind.LeftBrace u v
    → (t : Typ) (rest : List Terminal) → bind (fields l v) (λ fs. close kind.RightBrace (type.Struct fs)) ≡ Some (t, rest) → IsCompositeType Body n ts t rest
struct_some Body l zero s c ts u v k o t rest e = absurd (no_level (s.deep c))
struct_some Body l (suc h) s c ts u v k o t rest e = with_bind (fields l v) _ e (λ fs w ef ec. closed (IsCompositeType Body (suc h)) kind.RightBrace ts w (λ y b. type_struct k o (fields_sound Body h l s v fs w ef) b) ec)

interface_some : (Body : ℕ → Rule BodyRange) (l : Parts) (n : ℕ) → SoundParts Body l n → l.deep ≡ true → (ts u v : List Terminal) → Takes kind.InterfaceWord ts u → Takes kind.LeftBrace u v
    → (t : Typ) (rest : List Terminal) → bind (interface_elems l v) (λ es. close kind.RightBrace (type.Interface es)) ≡ Some (t, rest) → IsOtherType Body n ts t rest
interface_some Body l zero s c ts u v k o t rest e = absurd (no_level (s.deep c))
interface_some Body l (suc h) s c ts u v k o t rest e = with_bind (interface_elems l v) _ e (λ es w ee ec. closed (IsOtherType Body (suc h)) kind.RightBrace ts w (λ y b. type_interface k o (elems_sound Body h l s v es w ee) b) ec)

module _ (Body : ℕ → Rule BodyRange) (l : Parts) (n : ℕ) (s : SoundParts Body l n) where
  slice_or_array_sound : (ts u : List Terminal) → Takes kind.LeftBracket ts u → (t : Typ) (rest : List Terminal) → slice_or_array l u ≡ Some (t, rest) → IsCompositeType Body n ts t rest
  unfolding slice_or_array
  slice_or_array_sound ts u k t rest e = branch (begins kind.RightBracket u) e
      (λ c et. with_bind (l.typ (drop 1 u)) _ et (λ a v ea r. same (IsCompositeType Body n) ts
      (above (IsType Body) (λ m. IsCompositeType Body m ts (type.Slice a) v) n (s.typ (drop 1 u) a v ea) (λ h d. type_slice k (taken kind.RightBracket u c) d)) r))
      (λ c ex. with_bind (l.expr u) _ ex (λ x v ex eb. with_bind (expect kind.RightBracket v) _ eb (λ _ w ek et. with_bind (l.typ w) _ et (λ a y ea r. same (IsCompositeType Body n) ts
      (above (IsExpr Body true) (λ m. Below (IsType Body) m w a y → IsCompositeType Body m ts (type.Array x a) y) n (s.expr u x v ex) (λ h d f. type_array k d (expected kind.RightBracket v ek) f) (s.typ w a y ea)) r))))

  map_sound : (ts u : List Terminal) → Takes kind.MapWord ts u → (t : Typ) (rest : List Terminal) → map_type l u ≡ Some (t, rest) → IsCompositeType Body n ts t rest
  unfolding map_type
  map_sound ts u k t rest e = with_bind (expect kind.LeftBracket u) _ e (λ _ v eo ek. with_bind (l.typ v) _ ek (λ key w ek ec. with_bind (expect kind.RightBracket w) _ ec (λ _ y ec et. with_bind (l.typ y) _ et (λ a z ea r. same (IsCompositeType Body n) ts
      (above (IsType Body) (λ m. Below (IsType Body) m y a z → IsCompositeType Body m ts (type.Map key a) z) n (s.typ v key w ek) (λ h d f. type_map k (expected kind.LeftBracket u eo) d (expected kind.RightBracket w ec) f) (s.typ y a z ea)) r))))

  struct_sound : (ts u : List Terminal) → Takes kind.StructWord ts u → (t : Typ) (rest : List Terminal) → struct_type l u ≡ Some (t, rest) → IsCompositeType Body n ts t rest
  unfolding struct_type
  struct_sound ts u k t rest e = with_bind (expect kind.LeftBrace u) _ e (λ _ v eo eb. branch (begins kind.RightBrace v) eb
      (λ c r. same (IsCompositeType Body n) ts (type_struct_empty k (expected kind.LeftBrace u eo) (taken kind.RightBrace v c)) r)
      (λ c ed. branch l.deep ed (λ c ef. struct_some Body l n s c ts u v k (expected kind.LeftBrace u eo) t rest ef) (λ c r. absurd (cc))))

  pub composite_type_sound : Sound (IsCompositeType Body n) (composite_type l)
  unfolding composite_type
  composite_type_sound ts t rest e = branch (begins kind.LeftBracket ts) e (λ c e. slice_or_array_sound ts (drop 1 ts) (taken kind.LeftBracket ts c) t rest e)
      (λ c e. branch (begins kind.MapWord ts) e (λ c e. map_sound ts (drop 1 ts) (taken kind.MapWord ts c) t rest e)
      (λ c e. branch (begins kind.StructWord ts) e (λ c e. struct_sound ts (drop 1 ts) (taken kind.StructWord ts c) t rest e) (λ c e. absurd (cc))))

  pub chan_sound : (ts u : List Terminal) → Takes kind.ChanWord ts u → (t : Typ) (rest : List Terminal) → chan_type l u ≡ Some (t, rest) → IsOtherType Body n ts t rest
  unfolding chan_type
  chan_sound ts u k t rest e = branch (begins kind.Arrow u) e
      (λ c e. with_bind (l.typ (drop 1 u)) _ e (λ a v ea r. same (IsOtherType Body n) ts
      (above (IsType Body) (λ m. IsOtherType Body m ts (type.SendChan a) v) n (s.typ (drop 1 u) a v ea) (λ h d. type_send k (taken kind.Arrow u c) d)) r))
      (λ c e. with_bind (l.typ u) _ e (λ a v ea r. same (IsOtherType Body n) ts
      (above (IsType Body) (λ m. IsOtherType Body m ts (type.Chan a) v) n (s.typ u a v ea) (λ h d. type_chan k c d)) r))

  pub interface_sound : (ts u : List Terminal) → Takes kind.InterfaceWord ts u → (t : Typ) (rest : List Terminal) → interface_type l u ≡ Some (t, rest) → IsOtherType Body n ts t rest
  unfolding interface_type
  interface_sound ts u k t rest e = with_bind (expect kind.LeftBrace u) _ e (λ _ v eo eb. branch (begins kind.RightBrace v) eb
      (λ c r. same (IsOtherType Body n) ts (type_interface_empty k (expected kind.LeftBrace u eo) (taken kind.RightBrace v c)) r)
      (λ c ed. branch l.deep ed (λ c ef. interface_some Body l n s c ts u v k (expected kind.LeftBrace u eo) t rest ef) (λ c r. absurd (cc))))

  receive_sound : (ts u : List Terminal) → Takes kind.Arrow ts u → (t : Typ) (rest : List Terminal) → receive_type l u ≡ Some (t, rest) → IsType Body n ts (type.ReceiveChan t) rest
  unfolding receive_type
  receive_sound ts u k t rest e = with_bind (expect kind.ChanWord u) _ e (λ _ v eo et. above (IsType Body) (λ m. IsType Body m ts (type.ReceiveChan t) rest) n (s.typ v t rest et) (λ h d. type_receive k (expected kind.ChanWord u eo) d))

  pub type_sound : Sound (IsType Body n) (typ_of l)
  unfolding typ_of
  type_sound ts t rest e = branch (begins kind.LeftParen ts) e
      (λ c e. with_bind (l.typ (drop 1 ts)) _ e (λ a v ea ec. closed (IsType Body n) kind.RightParen ts v (λ w b. above (IsType Body) (λ m. IsType Body m ts (type.Paren a) w) n (s.typ (drop 1 ts) a v ea) (λ h d. type_paren (taken kind.LeftParen ts c) d b)) ec))
      (λ c e. branch (begins kind.Multiply ts) e
      (λ c e. with_bind (l.typ (drop 1 ts)) _ e (λ a v ea r. same (IsType Body n) ts (above (IsType Body) (λ m. IsType Body m ts (type.Pointer a) v) n (s.typ (drop 1 ts) a v ea) (λ h d. type_pointer (taken kind.Multiply ts c) d)) r))
      (λ c e. branch (begins kind.Arrow ts) e
      (λ c e. with_bind (receive_type l (drop 1 ts)) _ e (λ a v ea r. same (IsType Body n) ts (receive_sound ts (drop 1 ts) (taken kind.Arrow ts c) a v ea) r))
      (λ c e. branch (begins kind.FuncWord ts) e
      (λ c e. with_bind (l.signature (drop 1 ts)) _ e (λ g v eg r. same (IsType Body n) ts (above (IsSignature Body) (λ m. IsType Body m ts (type.Func g) v) n (s.signature (drop 1 ts) g v eg) (λ h d. type_func (taken kind.FuncWord ts c) d)) r))
      (λ c e. branch (begins kind.ChanWord ts) e
      (λ c e. type_other (chan_sound ts (drop 1 ts) (taken kind.ChanWord ts c) t rest e))
      (λ c e. branch (begins kind.InterfaceWord ts) e
      (λ c e. type_other (interface_sound ts (drop 1 ts) (taken kind.InterfaceWord ts c) t rest e))
      (λ c e. branch (begins_name ts) e
      (λ c e. with_bind (type_name ts) _ e (λ q u eq r. same (IsType Body n) ts (type_named (type_name_sound ts q u eq)) r))
      (λ c e. type_composite (composite_type_sound ts t rest e))))))))
