-- Arguments of calls, one after another.
use Rattle.std.proofs.Common.{◌≡◌, ◌<◌, ◌≤◌, ◌+◌, ℕ, length, get_or, drop, List, [], ◌∷◌, ◌++◌, map, append_assoc, refl, sym, ap, ◌∙◌, subst, Bool, true, false, ◌||◌, append-nil}
use Rattle.go_model.specs.declared.types.term.Direction.TheVariants as direction
use Rattle.go_model.specs.declared.types.term.Term.{Term}
use Rattle.go_model.specs.types.Bounds.{IsWithinBounds}
use Rattle.go_rules.specs.Environments.{Env}
use Rattle.go_rules.specs.Expressions.{Has, has_operand, HasEach, each_none, each_more, HasForm, has_type, OfForm, of_receive_channel, OfType, of_type, channel_of}
use Rattle.go_rules.specs.Nodes.{ExprLayer, TypeLayer, expression}
use Rattle.go_rules.specs.Operands.{type_name}
use Rattle.go_rules.specs.declared.operand.Operand.{Operand}
use Rattle.go_rules.proofs.OneOperand.{has_once, type_once}
use Rattle.go_calls.proofs.go_selectors_proofs.Lists.{drop_all, drop_next}
use Rattle.go_syntax.specs.declared.expression.Expr.{Expr, Expr-F, out-Expr}
use Rattle.go_syntax.specs.declared.expression.Expr.TheVariants.{outs-Type}
use Rattle.go_syntax.specs.declared.types.«Type».{«Type» as Typ, «Type-F» as Typ-F, «out-Type» as out-Typ}
use Rattle.go_syntax.specs.declared.types.«Type».TheVariants as type
use Rattle.go_syntax.specs.declared.types.«Type».TheVariants.{outs-ReceiveChan}
use Rattle.go_literals.specs.go_type_terms.Loudness.{AreLoud}
use Rattle.go_literals.specs.go_type_terms.Results.{IsChannelOf}
use Rattle.go_literals.proofs.go_type_terms_proofs.LoudTrees.{none_loud}
use Rattle.go_literals.proofs.go_operations_proofs.Walks.{Walk, set_out, walk_on, arrived}
use Rattle.go_expr.specs.Arguments.{HasEachAfter, receive_type}

module _ (E : Env) where
  first_each : {e : Expr} {es : List Expr} {os : List Operand} → HasEach E (e ∷ es) os → (o : Operand) × (qs : List Operand) × Has E e o × HasEach E es qs × (os ≡ o ∷ qs)
  first_each (each_more h k) = (_, _, h, k, refl)

  no_each : {os : List Operand} → HasEach E [] os → os ≡ []
  no_each each_none = refl

  abbrev Onward : List Operand → List Expr → List Operand → Type 0
  Onward before es all = HasEachAfter E before es all

  abbrev pub Arguing : List Operand → List Expr → List Operand → List Expr → Bool → Type 0
  Arguing before whole now rest loud = Walk E (map expression) Onward before whole now rest loud

  pub arguing_begins : (before : List Operand) (es : List Expr) → Arguing before es before es false
  arguing_begins before es = set_out E (map expression) Onward before es

  joins : (now : List Operand) (e : Expr) (rest : List Expr) (o : Operand) → Has E e o → (all : List Operand) → Onward (now ++ o ∷ []) rest all → Onward now (e ∷ rest) all
  joins now e rest o h all k = (o ∷ k.0, each_more h k.1, k.2 ∙ append_assoc now (o ∷ []) k.0)

  splits : (now : List Operand) (e : Expr) (rest : List Expr) (o : Operand) → Has E e o → (all : List Operand) → Onward now (e ∷ rest) all → Onward (now ++ o ∷ []) rest all
  splits now e rest o h all k =
      let f = first_each k.1 in
      (f.1, f.3, k.2 ∙ ap (λ ys. now ++ ys) (f.4 ∙ ap (λ q. q ∷ f.1) (has_once E f.2 h)) ∙ sym (append_assoc now (o ∷ []) f.1))

  arguing_on : (before : List Operand) (whole : List Expr) (now next : List Operand) (e : Expr) (rest : List Expr) (o : Operand) (loud b : Bool) → Has E e o → AreLoud E (expression e ∷ []) b → next ≡ now ++ o ∷ [] → Arguing before whole now (e ∷ rest) loud → Arguing before whole next rest (loud || b)
  arguing_on before whole now next e rest o loud b h l i w =
      subst (λ (xs : List Operand). Arguing before whole xs rest (loud || b)) (sym i)
      (walk_on E (map expression) Onward before whole now (now ++ o ∷ []) e rest loud b (expression e ∷ []) refl l (joins now e rest o h) (splits now e rest o h) w)

  arguing_stops : (before : List Operand) (whole : List Expr) (now : List Operand) (e : Expr) (rest : List Expr) (loud : Bool) → Arguing before whole now (e ∷ rest) loud → (all : List Operand) → HasEachAfter E before whole all → (o : Operand) × Has E e o
  arguing_stops before whole now e rest loud w all h = let f = first_each (w.from all h).1 in (f.0, f.2)

  arguing_ends : (before : List Operand) (whole : List Expr) (now : List Operand) (loud : Bool) → Arguing before whole now [] loud → HasEachAfter E before whole now × AreLoud E (map expression whole) loud
  arguing_ends before whole now loud w = arrived E (map expression) Onward before whole now loud now ([], each_none, sym (append-nil now)) (none_loud E) w

  arguing_all : (before : List Operand) (whole : List Expr) (now : List Operand) (i : ℕ) (e : Expr) (loud : Bool) → i < length whole → e ≡ get_or whole i e → Arguing before whole now (drop i whole) loud → Arguing before whole now (e ∷ drop (i + 1) whole) loud
  arguing_all before whole now i e loud h k w = subst (λ (xs : List Expr). Arguing before whole now xs loud) (drop_next i whole e h k) w

  pub arguing_next : (before : List Operand) (whole : List Expr) (now next : List Operand) (i : ℕ) (e : Expr) (o : Operand) (loud b : Bool) → i < length whole → e ≡ get_or whole i e → Has E e o → AreLoud E (expression e ∷ []) b → next ≡ now ++ o ∷ []
      → Arguing before whole now (drop i whole) loud → Arguing before whole next (drop (i + 1) whole) (loud || b)
  arguing_next before whole now next i e o loud b h k a l n w = arguing_on before whole now next e (drop (i + 1) whole) o loud b a l n (arguing_all before whole now i e loud h k w)

  pub arguing_first : (before : List Operand) (whole : List Expr) (now : List Operand) (i : ℕ) (e : Expr) (loud : Bool) → i < length whole → e ≡ get_or whole i e → Arguing before whole now (drop i whole) loud → (all : List Operand) → HasEachAfter E before whole all → (o : Operand) × Has E e o
  arguing_first before whole now i e loud h k w all y = arguing_stops before whole now e (drop (i + 1) whole) loud (arguing_all before whole now i e loud h k w) all y

  pub arguing_whole : (before : List Operand) (whole : List Expr) (now : List Operand) (i : ℕ) (loud : Bool) → length whole ≤ i → Arguing before whole now (drop i whole) loud → HasEachAfter E before whole now × AreLoud E (map expression whole) loud
  arguing_whole before whole now i loud h w = arguing_ends before whole now loud (subst (λ (xs : List Expr). Arguing before whole now xs loud) (drop_all i whole h) w)

  -- ---- all arguments

  pub to_each : (es : List Expr) (os : List Operand) → HasEachAfter E [] es os → HasEach E es os
  to_each es os h = subst (HasEach E es) (sym h.2) h.1

  pub in_each : (es : List Expr) (os : List Operand) → HasEach E es os → HasEachAfter E [] es os
  in_each es os h = (os, h, refl)

  pub to_each_after : (e : Expr) (es : List Expr) (o : Operand) (before all : List Operand) → before ≡ o ∷ [] → Has E e o → HasEachAfter E before es all → HasEach E (e ∷ es) all
  to_each_after e es o before all i h k = subst (HasEach E (e ∷ es)) (sym (k.2 ∙ ap (λ xs. xs ++ k.0) i)) (each_more h k.1)

  pub in_each_after : (e : Expr) (es : List Expr) (o : Operand) (before : List Operand) → before ≡ o ∷ [] → Has E e o → (all : List Operand) → HasEach E (e ∷ es) all → (xs : List Operand) × HasEachAfter E before es xs
  in_each_after e es o before i h all k = let f = first_each k in (before ++ f.1, (f.1, f.3, refl))

  pub first_argument : (e : Expr) (es : List Expr) (all : List Operand) → HasEach E (e ∷ es) all → (o : Operand) × Has E e o
  first_argument e es all k = let f = first_each k in (f.0, f.2)

  -- ---- a channel type

  formed : (t : Typ) (u : Term) → OfType E t u → OfForm E (out-Typ (type.ReceiveChan t)) (channel_of direction.ReceiveOnly u)
  formed t u h = subst (λ (l : TypeLayer). OfForm E l (channel_of direction.ReceiveOnly u)) (sym (outs-ReceiveChan t)) (of_receive_channel h)

  pub to_receive_type : (t : Typ) (u : Term) → IsChannelOf E direction.ReceiveOnly t u → IsWithinBounds u → Has E (receive_type t) (type_name u)
  to_receive_type t u c w =
      let f = subst (λ (l : ExprLayer). HasForm E l (type_name u)) (sym (outs-Type (type.ReceiveChan t)))
      (has_type (of_type (subst (OfForm E (out-Typ (type.ReceiveChan t))) (sym c.2) (formed t c.0 c.1)) w)) in
      has_operand f w

  received : {t : Typ} {u : Term} → OfForm E (Typ-F.ReceiveChan t) u → IsChannelOf E direction.ReceiveOnly t u
  received (of_receive_channel h) = (_, h, refl)

  typed : {t : Typ} {u : Term} → OfType E (type.ReceiveChan t) u → IsChannelOf E direction.ReceiveOnly t u × IsWithinBounds u
  typed {t = t} {u = u} (of_type f w) = (received (subst (λ (l : TypeLayer). OfForm E l u) (outs-ReceiveChan t) f), w)

  type_form : {t : Typ} {o : Operand} → HasForm E (Expr-F.«Expr::Type» t) o → (u : Term) × OfType E t u
  type_form (has_type h) = (_, h)

  pub in_receive_type : (t : Typ) (o : Operand) → Has E (receive_type t) o → (u : Term) × IsChannelOf E direction.ReceiveOnly t u × IsWithinBounds u
  in_receive_type t o (has_operand f w) = let y = type_form (subst (λ (l : ExprLayer). HasForm E l o) (outs-Type (type.ReceiveChan t)) f) in let z = typed y.1 in (y.0, z.0, z.1)

  channel_once : (t : Typ) (u v : Term) → IsChannelOf E direction.ReceiveOnly t u → IsChannelOf E direction.ReceiveOnly t v → u ≡ v
  channel_once t u v c d = c.2 ∙ ap (channel_of direction.ReceiveOnly) (type_once E c.1 d.1) ∙ sym d.2

  pub receive_type_out : (t : Typ) (u : Term) → IsChannelOf E direction.ReceiveOnly t u → (IsWithinBounds u → ⊥) → (o : Operand) → Has E (receive_type t) o → ⊥
  receive_type_out t u c none o h = let y = in_receive_type t o h in none (subst IsWithinBounds (channel_once t y.0 u y.1 c) y.2)
