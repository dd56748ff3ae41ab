-- Environments over tables that share types keep what they tell a client that has no type of its own yet.
use Rattle.std.proofs.Common.{◌≡◌, ◌⊎◌, inl, inr, Bool, true, false, List, [], ◌∷◌, ◌++◌, map, refl, sym, ap, ◌∙◌, subst, Option, Some, None}
use Rattle.std.specs.Prelude.{if◌then◌else◌, codes}
use Rattle.go_base.specs.Lists.{Has as HasItem}
use Rattle.go_model.specs.declared.constants.value.Basic.TheVariants as basic
use Rattle.go_model.specs.declared.types.names.Sel.{Sel}
use Rattle.go_model.specs.declared.types.names.TypeName.{TypeName}
use Rattle.go_model.specs.declared.types.package.ConstTerm.{ConstTerm}
use Rattle.go_model.specs.declared.types.package.ConstTerm.TheVariants as constant
use Rattle.go_model.specs.declared.types.package.Defined.{Defined}
use Rattle.go_model.specs.declared.types.package.Entity.{Entity}
use Rattle.go_model.specs.declared.types.package.Entity.TheVariants as entity
use Rattle.go_model.specs.declared.types.package.MethodOf.{MethodOf}
use Rattle.go_model.specs.declared.types.term.Method.{out-Method}
use Rattle.go_model.specs.declared.types.term.Signature.{Signature, out-Signature, out-roll-Signature, roll-Signature}
use Rattle.go_model.specs.declared.types.term.Term.{Term, Term-F, out-Term, out-roll-Term, roll-Term}
use Rattle.go_model.specs.types.Imports.{is_imported}
use Rattle.go_model.specs.types.Tables.{Table}
use Rattle.go_model.specs.types.Terms.{error_method, error_type, is_error}
use Rattle.go_model.specs.types.Underlying.{entry}
use Rattle.go_rules.specs.Environments.{Env}
use Rattle.go_rules.specs.declared.seen.Seen.{Seen}
use Rattle.go_rules.specs.declared.seen.Seen.TheVariants as seen
use Rattle.go_type_images.specs.EntryImages.{const_to, defined_to, entity_to, entry_to, method_to}
use Rattle.go_type_images.specs.Images.{Naming, image, image_of_signature, same_sels}
use Rattle.go_type_images.specs.Parts.{function_type, method_type, parts}
use Rattle.go_client_types.specs.Keeping.{IsKeptEntity, IsOwnEntry, Keeps, seen_to, stays}
use Rattle.go_client_types.specs.Reached.{IsMade, IsReached, reach_made}
use Rattle.go_shared_types.specs.Scopes.{SharesScope}
use Rattle.go_shared_types.proofs.PartNames.{error_sel, error_signature}
use Rattle.go_shared_types.proofs.SameTypes as S
use Rattle.go_shared_types.proofs.Sharing.{preserves}

-- ---- what the names leave as they are, stays

all_stay : (t : Term) → image (λ n. n) same_sels t ≡ t
all_stay t = S.stays (λ n. n) (λ u. Unit {0}) (λ u v g k. tt) (λ u n g e. refl) t tt

signature_same : (g : Signature) → image_of_signature (λ n. n) same_sels g ≡ g
signature_same g = S.signature_stays (λ n. n) g (all_stay (function_type g))

method_same : (m : MethodOf) → method_to (λ n. n) m ≡ m
method_same m = λ i. record { sel = m.sel; pointer = m.pointer; signature = signature_same m.signature i }

methods_same : (ms : List MethodOf) → map (method_to (λ n. n)) ms ≡ ms
methods_same [] = refl
methods_same (m ∷ ms) = λ i. method_same m i ∷ methods_same ms i

defined_same : (d : Defined) → defined_to (λ n. n) d ≡ d
defined_same d = λ i. record { name = d.name; underlying = all_stay d.underlying i; methods = methods_same d.methods i }

entry_same : (o : Option Defined) → entry_to (λ n. n) o ≡ o
entry_same None = refl
entry_same (Some d) = ap Some (defined_same d)

const_same : (c : ConstTerm) → const_to (λ n. n) c ≡ c
const_same (constant.OfTerm t) = ap constant.OfTerm (all_stay t)
const_same (constant.OfKind k) = refl

entity_same : (x : Entity) → entity_to (λ n. n) x ≡ x
entity_same (entity.Const c v) = ap (λ d. entity.Const d v) (const_same c)
entity_same (entity.Var t) = ap entity.Var (all_stay t)
entity_same (entity.Function g) = ap entity.Function (signature_same g)
entity_same (entity.TypeOf t) = ap entity.TypeOf (all_stay t)

seen_same : (m : Seen) → seen_to (λ n. n) m ≡ m
seen_same (seen.Local t) = ap seen.Local (all_stay t)
seen_same (seen.LocalConst c v) = ap (λ d. seen.LocalConst d v) (const_same c)
seen_same (seen.Object x) = ap seen.Object (entity_same x)
seen_same (seen.Import path) = refl
seen_same (seen.Universe p) = refl

-- ---- the predeclared `error`

no_option : {A : Type 0} (x : A) → ◌≡◌ {A = Option A} None (Some x) → ⊥
no_option x e = absurd (cc)

pub some_some : {A : Type 0} {x y : A} → ◌≡◌ {A = Option A} (Some x) (Some y) → x ≡ y
some_some e = cc

pub error_entry : (T : Table) (n : TypeName) → is_error n ≡ true → entry T n ≡ Some error_type
error_entry T n e = ap (λ b. if b then Some error_type else T n) e

other_entry : (T : Table) (n : TypeName) → is_error n ≡ false → entry T n ≡ T n
other_entry T n e = ap (λ b. if b then Some error_type else T n) e

module _ (std : TypeName → Bool) (is_open : Sel → Bool) where
  abbrev Reached : Term → Type 0
  Reached = IsReached [] std is_open

  text_reached : Reached (roll-Term (Term-F.Plain basic.Str))
  text_reached = reach_made (subst IsMade (sym (out-roll-Term (Term-F.Plain basic.Str))) tt) (λ u k. absurd (subst (λ l. HasItem (parts l) u) (out-roll-Term (Term-F.Plain basic.Str)) k))

  of_text : (u : Term) → HasItem (roll-Term (Term-F.Plain basic.Str) ∷ []) u → Reached u
  of_text u (inl e) = subst Reached e text_reached
  of_text u (inr k) = absurd k

  error_function : (g : Signature) → g ≡ roll-Signature (record { params = []; variadic = false; results = roll-Term (Term-F.Plain basic.Str) ∷ [] }) → Reached (function_type g)
  error_function g e = reach_made (subst IsMade (sym (out-roll-Term (Term-F.Func g))) tt)
      (λ u k. of_text u (subst (λ x. HasItem (x.params ++ x.results) u) (ap out-Signature e ∙ out-roll-Signature (record { params = []; variadic = false; results = roll-Term (Term-F.Plain basic.Str) ∷ [] })) (subst (λ l. HasItem (parts l) u) (out-roll-Term (Term-F.Func g)) k)))

  of_method : (u : Term) → HasItem (method_type error_method ∷ []) u → Reached u
  of_method u (inl e) = subst Reached e (error_function (out-Method error_method).signature error_signature)
  of_method u (inr k) = absurd k

  error_own : IsOwnEntry [] std is_open error_type
  error_own = record {
    made = subst IsMade (sym (out-roll-Term (Term-F.Interface (error_method ∷ [])))) (inl error_sel, tt);
    reached = λ u k. of_method u (subst (λ l. HasItem (parts l) u) (out-roll-Term (Term-F.Interface (error_method ∷ []))) k);
    signatures = λ m k. absurd k;
    labels = λ m k. absurd k;
  }

module _ (E F : Env) (std : TypeName → Bool) (is_open : Sel → Bool) (P : SharesScope E F std is_open) where
  entries : (n : TypeName) → is_imported n ≡ false → entry F.table n ≡ entry_to (λ n. n) (entry E.table n)
  entries n i = by (is_error n) refl ∙ sym (entry_same (entry E.table n))
    where
      by : (b : Bool) → is_error n ≡ b → entry F.table n ≡ entry E.table n
      by true e = error_entry F.table n e ∙ sym (error_entry E.table n e)
      by false e = other_entry F.table n e ∙ (P.no_own n i e).1 ∙ sym (P.no_own n i e).0 ∙ sym (other_entry E.table n e)

  own_entries : (n : TypeName) (d : Defined) → is_imported n ≡ false → entry E.table n ≡ Some d → IsOwnEntry [] std is_open d
  own_entries n d i f = by (is_error n) refl
    where
      by : (b : Bool) → is_error n ≡ b → IsOwnEntry [] std is_open d
      by true e = subst (IsOwnEntry [] std is_open) (some_some (sym (error_entry E.table n e) ∙ f)) (error_own std is_open)
      by false e = absurd (no_option d (sym (P.no_own n i e).0 ∙ sym (other_entry E.table n e) ∙ f))

  pub keeps : Keeps E F (λ n. n) [] std is_open
  keeps = record {
    types = preserves E.table F.table std is_open P.types;
    entries = entries;
    own_entries = own_entries;
    missing = λ n i. (P.none_missing n).1 ∙ sym (P.none_missing n).0;
    none_missing = λ n e. P.none_missing n;
    meanings = λ name m e. let h = P.meanings name m e in (h.0 ∙ ap Some (sym (seen_same m)), h.1);
    objects = λ name path object x e u f. let h = P.objects name path object x e u f in (x, h.0, subst (IsKeptEntity (λ n. n) x) (entity_same x) stays, h.1);
    path = P.path;
    bits = P.bits;
    iota = P.iota;
    client = P.client;
    barred = P.barred;
    barred_too = P.barred_too;
  }
