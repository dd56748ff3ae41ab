-- Operands of which more is known, and the results of calls, on both sides.
use Rattle.std.proofs.Common.{◌≡◌, Bool, true, false, List, [], ◌∷◌, map, refl}
use Rattle.std.specs.Prelude.{if◌then◌else◌}
use Rattle.go_base.specs.Lists.{Each}
use Rattle.go_model.specs.declared.constants.value.Value.{Value}
use Rattle.go_model.specs.declared.types.names.Sel.{Sel}
use Rattle.go_model.specs.declared.types.names.TypeName.{TypeName}
use Rattle.go_model.specs.declared.types.package.ConstTerm.{ConstTerm}
use Rattle.go_model.specs.declared.types.term.Term.{Term}
use Rattle.go_rules.specs.Environments.{Env}
use Rattle.go_rules.specs.Expressions.{IsPrinted, is_type, reached, results_of}
use Rattle.go_rules.specs.Operands.{builtin, constant_of, is_variable, plain, tuple, type_name}
use Rattle.go_rules.specs.declared.operand.Mode.{Mode}
use Rattle.go_rules.specs.declared.operand.Mode.TheVariants as mode
use Rattle.go_rules.specs.declared.operand.Operand.{Operand}
use Rattle.go_rules.specs.declared.predeclared.Predeclared.{Predeclared}
use Rattle.go_type_images.specs.EntryImages.{const_to}
use Rattle.go_type_images.specs.Images.{Naming, image, same_sels}
use Rattle.go_type_images.specs.declared.pair.TypePair.{TypePair}
use Rattle.go_client_types.specs.Following.{After, Becomes, addressable, after_bare, after_constant, after_tuple, after_value, same_mode}
use Rattle.go_client_types.specs.Keeping.{Keeps}
use Rattle.go_client_types.specs.Reached.{ConstReached, IsReached}
use Rattle.go_client_types.proofs.Conversions.{true_false}
use Rattle.go_client_operators.specs.FollowedOperands.{AreAfter}
use Rattle.go_client_operators.proofs.Calls.{printed_kept}

no_value : (k : Bool) → (true ≡ true → k ≡ true) → k ≡ false → ⊥
no_value k h e = true_false (h refl) e

module _ (r : Naming) (pairs : List TypePair) (std : TypeName → Bool) (is_open : Sel → Bool) where
  abbrev to : Term → Term
  to = image r same_sels

  abbrev R : Term → Type 0
  R = IsReached pairs std is_open

  abbrev A : Operand → Operand → Type 0
  A = After r pairs std is_open

  -- a type becomes its image
  pub named_after : {t : Term} {p : Operand} → A (type_name t) p → (p ≡ type_name (to t)) × R t
  named_after (after_value same_mode h) = (refl, h)
  named_after (after_bare h) = absurd h

  pub constant_after : {c : ConstTerm} {v : Value} {p : Operand} → A (constant_of c v) p → (p ≡ constant_of (const_to r c) v) × ConstReached pairs std is_open c
  constant_after (after_constant h) = (refl, h)
  constant_after (after_bare h) = absurd h

  pub builtin_after : {f : Predeclared} {p : Operand} → A (builtin f) p → p ≡ builtin f
  builtin_after (after_bare h) = refl

  pub tuple_after : {ts : List Term} {p : Operand} → A (tuple ts) p → (p ≡ tuple (map to ts)) × Each R ts
  tuple_after (after_tuple h) = (refl, h)
  tuple_after (after_bare h) = absurd h

  -- what is no type stays none
  pub type_mode : {o p : Operand} → A o p → is_type p.mode ≡ is_type o.mode
  type_mode (after_value same_mode h) = refl
  type_mode (after_value addressable h) = refl
  type_mode (after_constant h) = refl
  type_mode (after_tuple h) = refl
  type_mode (after_bare h) = refl

  -- a variable stays one
  pub variable_stays : {o p : Operand} → A o p → is_variable o.mode ≡ true → is_variable p.mode ≡ true
  variable_stays (after_value same_mode h) e = e
  variable_stays (after_value addressable h) e = refl
  variable_stays (after_constant h) e = e
  variable_stays (after_tuple h) e = e
  variable_stays (after_bare h) e = e

  -- a value that is selected or indexed from one that became addressable may be so
  pub mode_after : {o p : Operand} → A o p → Becomes (reached (is_variable o.mode)) (reached (is_variable p.mode))
  mode_after (after_value same_mode h) = same_mode
  mode_after (after_value addressable h) = addressable
  mode_after (after_constant h) = same_mode
  mode_after (after_tuple h) = same_mode
  mode_after (after_bare h) = same_mode

  to_variable : (c : Bool) → Becomes (reached c) mode.Variable
  to_variable true = same_mode
  to_variable false = addressable

  pub through_after : (q k : Bool) (m n : Mode) → (q ≡ true → k ≡ true) → Becomes (reached (is_variable m)) (reached (is_variable n)) → Becomes (reached (if q then true else is_variable m)) (reached (if k then true else is_variable n))
  through_after true true m n h b = same_mode
  through_after true false m n h b = absurd (no_value false h refl)
  through_after false true m n h b = to_variable (is_variable m)
  through_after false false m n h b = b

  -- the results of a call
  pub results_after : (ts : List Term) → Each R ts → A (results_of ts) (results_of (map to ts))
  results_after [] h = after_bare tt
  results_after (t ∷ []) h = after_value same_mode h.0
  results_after (t ∷ u ∷ ts) h = after_tuple h

  pub plains_after : (ts : List Term) → Each R ts → AreAfter r pairs std is_open (map plain ts) (map plain (map to ts))
  plains_after [] h = tt
  plains_after (t ∷ ts) h = (after_value same_mode h.0, plains_after ts h.1)

module _ (E F : Env) (r : Naming) (pairs : List TypePair) (std : TypeName → Bool) (is_open : Sel → Bool) (K : Keeps E F r pairs std is_open) where
  pub all_printed : (os qs : List Operand) → AreAfter r pairs std is_open os qs → Each (IsPrinted E) os → Each (IsPrinted F) qs
  all_printed [] [] a h = tt
  all_printed [] (q ∷ qs) a h = absurd a
  all_printed (o ∷ os) [] a h = absurd a
  all_printed (o ∷ os) (q ∷ qs) a h = (printed_kept E F r pairs std is_open K a.0 h.0, all_printed os qs a.1 h.1)
