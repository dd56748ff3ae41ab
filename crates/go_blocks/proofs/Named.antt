-- The names and the variables of a function, pushed one after another, and the types of a receiver.
use Rattle.std.proofs.Common.{◌≡◌, List, [], ◌++◌, Option, None, Some, refl, sym, ap, ◌∙◌, subst, append_assoc}
use Rattle.std.proofs.lemmas.List.{map-append}
use Rattle.go_model.specs.declared.types.term.Term.{Term}
use Rattle.go_rules.specs.Environments.{Env}
use Rattle.go_rules.specs.Expressions.{OfType, for_names}
use Rattle.go_rules.specs.declared.seen.Seen.{Seen}
use Rattle.go_rules.specs.declared.seen.Seen.TheVariants as seen
use Rattle.go_rules.proofs.OneOperand.{type_once}
use Rattle.go_statement_rules.specs.Functions.{OfReceiver, no_receiver, receiver}
use Rattle.go_statement_rules.specs.Scopes.{locals}
use Rattle.go_syntax.specs.declared.name.Name.{Name}
use Rattle.go_syntax.specs.declared.types.ParameterDecl.{ParameterDecl, out-ParameterDecl}

-- ---- names and variables

pub names_pushed : (none one all r p q : List (Option Name)) → none ≡ [] → one ≡ none ++ r → all ≡ one ++ (p ++ q) → all ≡ r ++ p ++ q
names_pushed none one all r p q e f g = g ∙ ap (λ (ns : List (Option Name)). ns ++ (p ++ q)) (f ∙ ap (λ (ns : List (Option Name)). ns ++ r) e) ∙ sym (append_assoc r p q)

three_locals : (ts ps rs : List Term) → locals ts ++ locals ps ++ locals rs ≡ locals (ts ++ ps ++ rs)
three_locals ts ps rs = ap (λ (ms : List Seen). ms ++ locals rs) (sym (map-append seen.Local ts ps)) ∙ sym (map-append seen.Local (ts ++ ps) rs)

pub locals_pushed : (none one two all : List Seen) (ts ps rs : List Term) → none ≡ [] → one ≡ none ++ locals ts → two ≡ one ++ locals ps → all ≡ two ++ locals rs → all ≡ locals (ts ++ ps ++ rs)
locals_pushed none one two all ts ps rs e f g h =
    h ∙ ap (λ (ms : List Seen). ms ++ locals rs) (g ∙ ap (λ (ms : List Seen). ms ++ locals ps) (f ∙ ap (λ (ms : List Seen). ms ++ locals ts) e)) ∙ three_locals ts ps rs

-- ---- a receiver

module _ (E : Env) where
  pub receiver_once : {r : Option ParameterDecl} {ts us : List Term} → OfReceiver E r ts → OfReceiver E r us → ts ≡ us
  receiver_once no_receiver no_receiver = refl
  receiver_once (receiver {r = r} a) (receiver b) = ap (for_names (out-ParameterDecl r).names) (type_once E a b)

  pub receiver_given : (r : ParameterDecl) (t : Term) (ts : List Term) → ts ≡ for_names (out-ParameterDecl r).names t → OfType E (out-ParameterDecl r).type_ t → OfReceiver E (Some r) ts
  receiver_given r t ts e h = subst (OfReceiver E (Some r)) (sym e) (receiver h)

  pub receiver_none : (r : ParameterDecl) → ((t : Term) → OfType E (out-ParameterDecl r).type_ t → ⊥) → (ts : List Term) → OfReceiver E (Some r) ts → ⊥
  receiver_none r none ts (receiver {t = t} h) = none t h

  pub no_receiver_given : (r : Option ParameterDecl) → r ≡ None → (ts : List Term) → ts ≡ [] → OfReceiver E r ts
  no_receiver_given r e ts h = subst (λ (z : Option ParameterDecl). OfReceiver E z ts) (sym e) (subst (OfReceiver E None) (sym h) no_receiver)
