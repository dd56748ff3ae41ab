-- In a region the relations of types hold that hold in the whole environment, a value may be used where it may, and what
-- operators, conversions, indices and slice expressions make is of the region.
use Rattle.std.proofs.Common.{◌≡◌, false, [], refl, sym, ap, ◌∙◌, subst}
use Rattle.std.specs.Prelude.{◌&&◌, ◌||◌}
use Rattle.go_model.specs.declared.constants.value.Basic.{Basic}
use Rattle.go_model.specs.declared.constants.value.Basic.TheVariants as basic
use Rattle.go_model.specs.declared.constants.value.Kind.{Kind}
use Rattle.go_model.specs.declared.types.package.ConstTerm.{ConstTerm}
use Rattle.go_model.specs.declared.types.term.Term.{Term, Term-F, out-Term, roll-Term}
use Rattle.go_model.specs.types.Assignability.{AreChannels, UnderlyingAssigns}
use Rattle.go_model.specs.types.Comparison.{LeadsToIncomparable, at_slice, at_map, at_func, in_array, in_struct}
use Rattle.go_model.specs.types.Conversions.{UnderlyingConverts, PointerConverts, basics_convert, both_basic, is_character, is_characters, is_text}
use Rattle.go_model.specs.types.Imports.{imported_interface, imported_struct, is_imported_open, is_imported_struct}
use Rattle.go_model.specs.types.Tags.{untagged}
use Rattle.go_model.specs.types.Terms.{Layer, pointer_to}
use Rattle.go_model.specs.types.Underlying.{under}
use Rattle.go_rules.specs.Environments.{Env}
use Rattle.go_rules.specs.Operands.{IsTyped, typed_value, typed_constant, HasKind, kind_of_type, kind_of_untyped, any_term, basic_term}
use Rattle.go_rules.specs.Regions.{Region, ConstIn, IsClosed, ShapeIn, TermIn, cut}
use Rattle.go_rules.specs.Usability.{Implements, Assignable, assign_identical, assign_underlying, assign_interface, assign_channel, BasesEntered, Convertible, convert_assignable, convert_underlying, convert_pointer, convert_basic, LeadsTo, leads_here, leads_array, leads_struct, Compares, holds_nil, UsableAs, use_value, use_constant, use_truth, use_constant_as_any, use_truth_as_any, use_nil, Match, match_types, match_right, match_left, match_kinds}
use Rattle.go_rules.specs.declared.operand.Operand.{Operand}
use Rattle.go_rules.proofs.LocalTerms.{LayerIn, close_in, field_in, form_in, open_in, under_in}
use Rattle.go_rules.proofs.LocalTypes.{entered_same, form_same, method_local, under_same}

-- the operand's types are of the region
abbrev pub OperandIn : Region → Operand → Type 0
OperandIn R o = ShapeIn R o.shape

pub typed_in : (R : Region) {o : Operand} {t : Term} → OperandIn R o → IsTyped o t → TermIn R t
typed_in R h (typed_value m) = h
typed_in R h typed_constant = h

pub basic_in : (R : Region) (b : Basic) → TermIn R (basic_term b)
basic_in R b = close_in R (Term-F.Plain b) tt

pub any_in : (R : Region) → TermIn R any_term
any_in R = close_in R (Term-F.Interface []) tt

pub pointer_in : (R : Region) (t : Term) → TermIn R t → TermIn R (pointer_to t)
pointer_in R t h = close_in R (Term-F.Pointer t) h

module _ (E : Env) (R : Region) (w : IsClosed E R) where
  abbrev C : Env
  C = cut R E

  same : (t : Term) → TermIn R t → under C.table t ≡ under E.table t
  same t h = under_same E R w t h

  form : (t : Term) (l : Layer) → TermIn R t → under E.table t ≡ l → under C.table t ≡ l
  form t l h e = form_same E R w t l h e

  pub implements_local : (t u : Term) → TermIn R t → TermIn R u → Implements E t u → Implements C t u
  implements_local t u h k (ms, e, f) = (ms, form u (Term-F.Interface ms) k e, λ m i. method_local E R w h (f m i))

  struct_same : (t : Term) → TermIn R t → is_imported_struct C.table t ≡ is_imported_struct E.table t
  struct_same t h = ap (imported_struct (out-Term t)) (same t h)

  pub struct_local : (t : Term) → TermIn R t → (E.profile && is_imported_struct E.table t) ≡ false → (E.profile && is_imported_struct C.table t) ≡ false
  struct_local t h e = ap (λ b. E.profile && b) (struct_same t h) ∙ e

  underlying_assigns_local : (t u : Term) → TermIn R t → TermIn R u → UnderlyingAssigns E.table E.profile t u → UnderlyingAssigns C.table E.profile t u
  underlying_assigns_local t u h k a = record { same = same t h ∙ a.same ∙ sym (same u k); unnamed = a.unnamed; permitted = (λ i. E.profile && (struct_same t h i || struct_same u k i)) ∙ a.permitted }

  pub assignable_local : (t u : Term) → TermIn R t → TermIn R u → Assignable E t u → Assignable C t u
  assignable_local t u h k (assign_identical e) = assign_identical e
  assignable_local t u h k (assign_underlying i j a) = assign_underlying (entered_same E R w t h i) (entered_same E R w u k j) (underlying_assigns_local t u h k a)
  assignable_local t u h k (assign_interface i) = assign_interface (implements_local t u h k i)
  assignable_local t u h k (assign_channel a) = assign_channel (record { channels = subst (λ l. AreChannels (under C.table t) l) (sym (same u k)) (subst (λ l. AreChannels l (under E.table u)) (sym (same t h)) a.channels); unnamed = a.unnamed })

  open_same : (t : Term) → TermIn R t → is_imported_open C.table t ≡ is_imported_open E.table t
  open_same t h = λ i. imported_struct (out-Term t) (same t h i) || imported_interface (out-Term t) (same t h i)

  underlying_converts_local : (t u : Term) → TermIn R t → TermIn R u → UnderlyingConverts E.table E.profile t u → UnderlyingConverts C.table E.profile t u
  underlying_converts_local t u h k a = record {
    same = ap (λ l. untagged (roll-Term l)) (same t h) ∙ a.same ∙ ap (λ l. untagged (roll-Term l)) (sym (same u k));
    permitted = (λ i. E.profile && (open_same t h i || open_same u k i)) ∙ a.permitted;
  }

  bases_local : (k l : Layer) → LayerIn R k → LayerIn R l → BasesEntered E k l → BasesEntered C k l
  bases_local (Term-F.Pointer t) (Term-F.Pointer u) h i b = (entered_same E R w t h b.0, entered_same E R w u i b.1)
  bases_local (Term-F.Pointer t) l h i b = tt
  bases_local k l h i b = tt

  pointer_converts_local : (t u : Term) → TermIn R t → TermIn R u → PointerConverts E.table E.profile t u → PointerConverts C.table E.profile t u
  pointer_converts_local t u h k a =
      let p = subst (LayerIn R) a.from_is (open_in R t h) in let q = subst (LayerIn R) a.to_is (open_in R u k) in
      record { base = a.base; other = a.other; from_is = a.from_is; to_is = a.to_is; converts = underlying_converts_local a.base a.other p q a.converts }

  characters_same : (l : Layer) → LayerIn R l → is_characters C.table l ≡ is_characters E.table l
  characters_same (Term-F.Slice e) h = ap is_character (same e h)
  characters_same l h = refl

  basics_same : (t u : Term) → TermIn R t → TermIn R u → basics_convert C.table t u ≡ basics_convert E.table t u
  basics_same t u h k =
      let x = ap (is_characters C.table) (same t h) ∙ characters_same (under E.table t) (under_in E R w t h) in
      let y = ap (is_characters C.table) (same u k) ∙ characters_same (under E.table u) (under_in E R w u k) in
      λ i. both_basic (same t h i) (same u k i) || (is_text (same t h i) && y i) || (x i && is_text (same u k i))

  pub convertible_local : (t u : Term) → TermIn R t → TermIn R u → Convertible E t u → Convertible C t u
  convertible_local t u h k (convert_assignable a) = convert_assignable (assignable_local t u h k a)
  convertible_local t u h k (convert_underlying i j a) = convert_underlying (entered_same E R w t h i) (entered_same E R w u k j) (underlying_converts_local t u h k a)
  convertible_local t u h k (convert_pointer b a) = convert_pointer (bases_local (out-Term t) (out-Term u) (open_in R t h) (open_in R u k) b) (pointer_converts_local t u h k a)
  convertible_local t u h k (convert_basic e) = convert_basic (basics_same t u h k ∙ e)

  -- ---- comparison

  leads_whole : {t u : Term} → LeadsTo C.table t u → TermIn R t → LeadsTo E.table t u × TermIn R u
  leads_whole leads_here h = (leads_here, h)
  leads_whole (leads_array {t = t} {e = e} {n = n} d p) h = let f = sym (same t h) ∙ d in let g = leads_whole p (form_in E R w t (Term-F.Array n e) h f) in (leads_array f g.0, g.1)
  leads_whole (leads_struct {t = t} {fs = fs} x d i p) h = let f = sym (same t h) ∙ d in let g = leads_whole p (field_in R fs x (form_in E R w t (Term-F.Struct fs) h f) i) in (leads_struct x f i g.0, g.1)

  incomparable_whole : {t : Term} → LeadsToIncomparable C.table t → TermIn R t → LeadsToIncomparable E.table t
  incomparable_whole (at_slice {t = t} e) h = at_slice (sym (same t h) ∙ e)
  incomparable_whole (at_map {t = t} e) h = at_map (sym (same t h) ∙ e)
  incomparable_whole (at_func {t = t} e) h = at_func (sym (same t h) ∙ e)
  incomparable_whole (in_array {t = t} {e = e} {n = n} d p) h = let f = sym (same t h) ∙ d in in_array f (incomparable_whole p (form_in E R w t (Term-F.Array n e) h f))
  incomparable_whole (in_struct {t = t} {fs = fs} x d i p) h = let f = sym (same t h) ∙ d in in_struct x f i (incomparable_whole p (field_in R fs x (form_in E R w t (Term-F.Struct fs) h f) i))

  pub compares_local : (t : Term) → TermIn R t → Compares E t → Compares C t
  compares_local t h c = record { comparable = λ p. c.comparable (incomparable_whole p h); entered = λ u p. let g = leads_whole p h in entered_same E R w u g.1 (c.entered u g.0) }

  -- ---- use of a value

  pub usable_local : {o : Operand} {t : Term} → OperandIn R o → TermIn R t → UsableAs E o t → UsableAs C o t
  usable_local {t = t} h k (use_value {u = u} i a) = use_value i (assignable_local u t (typed_in R h i) k a)
  usable_local h k (use_constant {t = t} {b = b} e r) = use_constant (form t (Term-F.Plain b) k e) r
  usable_local h k (use_truth {t = t} e) = use_truth (form t (Term-F.Plain basic.Bool) k e)
  usable_local h k (use_constant_as_any {t = t} e d) = use_constant_as_any (form t (Term-F.Interface []) k e) d
  usable_local h k (use_truth_as_any {t = t} e) = use_truth_as_any (form t (Term-F.Interface []) k e)
  usable_local h k (use_nil {t = t} e) = use_nil (ap holds_nil (same t k) ∙ e)

  pub match_local : {o p : Operand} {d : ConstTerm} → OperandIn R o → OperandIn R p → Match E o p d → Match C o p d × ConstIn R d
  match_local h k (match_types a b) = (match_types a b, typed_in R h a)
  match_local h k (match_right a b u) = (match_right a b (usable_local h (typed_in R k b) u), typed_in R k b)
  match_local h k (match_left a b u) = (match_left a b (usable_local k (typed_in R h a) u), typed_in R h a)
  match_local h k (match_kinds a b j) = (match_kinds a b j, tt)

  pub kind_local : {c : ConstTerm} {k : Kind} → ConstIn R c → HasKind E c k → HasKind C c k
  kind_local h (kind_of_type {t = t} {b = b} e) = kind_of_type (form t (Term-F.Plain b) h e)
  kind_local h kind_of_untyped = kind_of_untyped
