-- What is found in the bodies of a declaration.
use Rattle.std.proofs.Common.{inl, inr, ◌≡◌, ◌⊎◌, ◌≤◌, ℕ, Bool, true, false, List, [], ◌∷◌, Option, None, Some, refl, sym, ap, ◌∙◌, subst, arith}
use Rattle.go_base.specs.Lists.{Each, Has}
use Rattle.go_base.proofs.Members.{each_has}
use Rattle.go_client_typings.specs.Bodies.{AreTypedBodies, HasBody, has_literal, has_own, HasUntyped, IsTypedFunc, func_in, untyped_itself, untyped_statement}
use Rattle.go_clients.specs.inner.Told.{HasOwnRun, TellsDeclaration, told_by, told_in, turned}
use Rattle.go_judged.specs.Judging.{Judges, both, tested}
use Rattle.go_judged.specs.declared.judged.Judged.{Judged}
use Rattle.go_judged.proofs.Joining.{judged_as, judged_both}
use Rattle.go_local_scopes.specs.States.{around}
use Rattle.go_rules.specs.Environments.{Env}
use Rattle.go_rules.specs.Nodes.{Node}
use Rattle.go_rules.specs.Scopes.{Scopes as Known}
use Rattle.go_selectors.specs.Answers.{Decides}
use Rattle.go_statement_rules.specs.Bodies.{AreTypedOutside}
use Rattle.go_statement_rules.specs.Functions.{Run, outside}
use Rattle.go_statement_rules.specs.Places.{IsUntypedPlace}
use Rattle.go_statement_rules.specs.Scopes.{Scopes}
use Rattle.go_statement_rules.proofs.OnePlace.{typed_no_place}
use Rattle.go_syntax.specs.declared.declaration.Func.{Func}
use Rattle.go_syntax.specs.declared.statement.LiteralBlock.{LiteralBlock}
use Rattle.go_typings.specs.DeclarationNodes.{nodes}
use Rattle.go_typings.specs.Declarations.{Declaration, Form}
use Rattle.go_typings.specs.PackageEnvironments.{iota_of}
use Rattle.go_typings.specs.Refusals.{offset_of}
use Rattle.go_untyped_places.specs.LiteralRuns.{IsLiteralRun}
use Rattle.go_untyped_places.specs.Surveys.{Surveyed}
use Rattle.go_blocks.specs.go_walks.Literals.{LiteralsTyped}

module _ (E : Env) (blocks : List LiteralBlock) where
  pub no_function : Judges E blocks (IsTypedFunc E blocks None) (HasOwnRun E blocks None) (tested true)
  no_function = (tt, λ v h. absurd h)

  -- ---- with the function literals

  module _ (f : Form) where
    own_run : (o : Option Func) → func_in f ≡ o → (v : Run) → HasOwnRun E blocks o v → HasBody E blocks f v
    own_run None e v h = absurd h
    own_run (Some g) e v h = has_own e h

    to_body : (v : Run) → HasOwnRun E blocks (func_in f) v ⊎ IsLiteralRun E blocks outside [] (nodes f) v → HasBody E blocks f v
    to_body v (inl h) = own_run (func_in f) refl v h
    to_body v (inr l) = has_literal l.among l.stands l.is l.enters

    of_body : (v : Run) → HasBody E blocks f v → HasOwnRun E blocks (func_in f) v ⊎ IsLiteralRun E blocks outside [] (nodes f) v
    of_body v (has_own e h) = inl (subst (λ o. HasOwnRun E blocks o v) (sym e) h)
    of_body v (has_literal {at = at} {x = x} {g = g} {b = b} i j e h) = inr (record { at = at; among = i; literal = x; signature = g; body = b; stands = j; is = e; enters = h })

    each_of : (P : Node → Type 0) (ns : List Node) → ((n : Node) → Has ns n → P n) → Each P ns
    each_of P [] h = tt
    each_of P (n ∷ ns) h = (h n (inl refl), each_of P ns (λ m k. h m (inr k)))

    to_typed : IsTypedFunc E blocks (func_in f) × LiteralsTyped E blocks outside [] (nodes f) → AreTypedBodies E blocks f
    to_typed t = record { body = t.0; literals = each_of (AreTypedOutside E blocks) (nodes f) t.1 }

    of_typed : AreTypedBodies E blocks f → IsTypedFunc E blocks (func_in f) × LiteralsTyped E blocks outside [] (nodes f)
    of_typed t = (t.body, λ n i. each_has (AreTypedOutside E blocks) (nodes f) n t.literals i)

    pub bodies_judged : (j k : Judged) → Judges E blocks (IsTypedFunc E blocks (func_in f)) (HasOwnRun E blocks (func_in f)) j → Judges E blocks (LiteralsTyped E blocks outside [] (nodes f)) (IsLiteralRun E blocks outside [] (nodes f)) k
        → Judges E blocks (AreTypedBodies E blocks f) (HasBody E blocks f) (both j k)
    bodies_judged j k a b =
        judged_as E blocks (IsTypedFunc E blocks (func_in f) × LiteralsTyped E blocks outside [] (nodes f)) (AreTypedBodies E blocks f) (λ v. HasOwnRun E blocks (func_in f) v ⊎ IsLiteralRun E blocks outside [] (nodes f) v) (HasBody E blocks f) (both j k)
        to_typed of_typed to_body of_body
        (judged_both E blocks (IsTypedFunc E blocks (func_in f)) (LiteralsTyped E blocks outside [] (nodes f)) (HasOwnRun E blocks (func_in f)) (IsLiteralRun E blocks outside [] (nodes f)) j k a b)

  -- ---- the place that is told

  module _ (d : Declaration) where
    itself_least : ((w : Run) (place : ℕ) → HasBody E blocks d.form w → IsUntypedPlace E blocks w place → ⊥) → (q : ℕ) → HasUntyped E blocks d.form q → offset_of d.form ≤ q
    itself_least none q (untyped_statement {w = w} b u) = absurd (none w q b u)
    itself_least none q (untyped_itself h k) = omega arith

    statement_least : (v : Run) (p : ℕ) → HasBody E blocks d.form v → IsUntypedPlace E blocks v p → ((w : Run) (q : ℕ) → HasBody E blocks d.form w → IsUntypedPlace E blocks w q → p ≤ q) → (q : ℕ) → HasUntyped E blocks d.form q → p ≤ q
    statement_least v p b u least q (untyped_statement {w = w} c n) = least w q c n
    statement_least v p b u least q (untyped_itself h k) = absurd (k v p b u)

    by_found : (t : Bool) (p : Option ℕ) → Decides t (AreTypedBodies E blocks d.form) → Surveyed E blocks (HasBody E blocks d.form) p → TellsDeclaration E blocks d (told_in d t p)
    by_found true None x s = x
    by_found false None x s =
        let none : (w : Run) (q : ℕ) → HasBody E blocks d.form w → IsUntypedPlace E blocks w q → ⊥ = λ w q b u. typed_no_place E blocks w q (s w b) u in
        record { file = refl; untyped = untyped_itself x none; first = itself_least none }
    by_found true (Some p) x s = record { file = refl; untyped = untyped_statement s.1 s.2; first = statement_least s.0 p s.1 s.2 s.3 }
    by_found false (Some p) x s = record { file = refl; untyped = untyped_statement s.1 s.2; first = statement_least s.0 p s.1 s.2 s.3 }

    pub declaration_told : (j : Judged) → Judges E blocks (AreTypedBodies E blocks d.form) (HasBody E blocks d.form) j → TellsDeclaration E blocks d (told_by d j)
    declaration_told j k = by_found j.typed j.place k.0 k.1

-- ---- the scopes in which they are judged

-- the function literals, judged in scopes that are the same
pub literals_judged : (e g : Known) (blocks : List LiteralBlock) (ns ms : List Node) (j : Judged) → g ≡ e → e.opened ≡ [] → ms ≡ ns
    → Judges (around g) blocks (LiteralsTyped (around g) blocks outside g.opened ms) (IsLiteralRun (around g) blocks outside g.opened ms) j → Judges (around e) blocks (LiteralsTyped (around e) blocks outside [] ns) (IsLiteralRun (around e) blocks outside [] ns) j
literals_judged e g blocks ns ms j same o m k =
    subst (λ (q : Known × (Scopes × List Node)). Judges (around q.0) blocks (LiteralsTyped (around q.0) blocks outside q.1.0 q.1.1) (IsLiteralRun (around q.0) blocks outside q.1.0 q.1.1) j)
    (λ i. (same i, ((ap (λ (z : Known). z.opened) same ∙ o) i, m i))) k

-- scopes that are moved to a declaration
pub moved_to : (e f g : Known) (d : Declaration) (i : Option ℕ) → f ≡ record e { file = d.file } → g ≡ record f { iota = i } → i ≡ iota_of d.form → g ≡ turned e d
moved_to e f g d i p q r = q ∙ (λ j. record (p j) { iota = r j })
