-- One thing is told of a client.
use Rattle.std.proofs.Common.{◌≡◌, ℕ, true, false, List, [], Some, refl, sym, ap, ◌∙◌, subst, inl, inr, arith}
use Rattle.std.proofs.Math.Nat.{le_antisymm}
use Rattle.go_base.proofs.Members.{each_has}
use Rattle.go_client_typings.specs.Bodies.{AreTypedBodies, has_literal, has_own, HasUntyped, IsTypedFunc, func_in, untyped_itself, untyped_statement}
use Rattle.go_client_typings.specs.Clients.{Blocks, BodiesAreTyped, ComesFirst, IsFirstUntyped, IsTypedClient, IsUntypedClient, IsVetted, blocks_in, refused_at, setting, untyped_body, untyped_declaration}
use Rattle.go_client_typings.specs.declared.vetted.Vetted.{Vetted}
use Rattle.go_client_typings.specs.declared.vetted.Vetted.TheVariants as vetted
use Rattle.go_client_typings.proofs.Unflagged.{client_without}
use Rattle.go_model.specs.worlds.Worlds.{Packages}
use Rattle.go_rules.specs.Environments.{Env}
use Rattle.go_rules.specs.Nodes.{Node, Stands, expression}
use Rattle.go_statement_rules.specs.Bodies.{AreTypedOutside, IsTypedBody}
use Rattle.go_statement_rules.specs.Functions.{outside}
use Rattle.go_statement_rules.specs.Statements.{IsTypedFunction, literals_typed}
use Rattle.go_statement_rules.proofs.OnePlace.{typed_no_place}
use Rattle.go_statement_rules.proofs.OneRun.{body_run, literal_run}
use Rattle.go_syntax.specs.declared.body.BodyRange.{BodyRange}
use Rattle.go_syntax.specs.declared.declaration.Func.{Func}
use Rattle.go_syntax.specs.declared.expression.Expr.{Expr, Expr-F, out-Expr}
use Rattle.go_syntax.specs.declared.name.Place.{Place}
use Rattle.go_syntax.specs.declared.statement.LiteralBlock.{LiteralBlock}
use Rattle.go_syntax.specs.declared.types.Signature.{Signature as Sig}
use Rattle.go_typings.specs.Assignments.{all_of}
use Rattle.go_typings.specs.DeclarationNodes.{nodes}
use Rattle.go_typings.specs.Declarations.{Form, declarations}
use Rattle.go_typings.specs.PackageEnvironments.{Entries, environment}
use Rattle.go_typings.specs.Redeclarations.{IsRedeclared}
use Rattle.go_typings.specs.Refusals.{IsMissing, IsRefused, Refusal, redeclared, missing_import, unsound}
use Rattle.go_typings.specs.Sources.{PackageSource, Setting}
use Rattle.go_typings.specs.Typings.{IsTyping}
use Rattle.go_typings.proofs.OneRefusal.{one_refusal}
use Rattle.go_typings.proofs.OneTyping.{one_typing}
use Rattle.go_typings.proofs.SoundDeclarations.{typed_sound}

-- ---- bodies

module _ (E : Env) (blocks : List LiteralBlock) where
  own_body : (f : Form) (g : Func) → func_in f ≡ Some g → AreTypedBodies E blocks f → IsTypedBody E blocks g
  own_body f g e k = subst (IsTypedFunc E blocks) e k.body

  own_literal : (at : Node) (x : Expr) (g : Sig) (b : BodyRange) → AreTypedOutside E blocks at → Stands at (expression x) → out-Expr x ≡ Expr-F.FuncLit g b → IsTypedFunction E blocks outside [] g b
  own_literal at x g b (literals_typed h) j e = h x g b j e

  -- a declaration whose bodies are typed has none that isn't
  pub body_apart : (f : Form) (p : ℕ) → AreTypedBodies E blocks f → HasUntyped E blocks f p → ⊥
  body_apart f p k (untyped_statement (has_own {g = g} {w = w} e h) q) = typed_no_place E blocks w p (body_run E blocks g w h (own_body f g e k)) q
  body_apart f p k (untyped_statement (has_literal {at = at} {x = x} {g = g} {b = b} {w = w} i j e h) q) =
      typed_no_place E blocks w p (literal_run E blocks outside [] g b w h (own_literal at x g b (each_has (AreTypedOutside E blocks) (nodes f) at k.literals i) j e)) q
  body_apart f p k (untyped_itself h n) = h k

-- ---- places

same_place : (p q : Place) → p.file ≡ q.file → p.offset ≡ q.offset → p ≡ q
same_place p q e f = λ i. record { file = e i; offset = f i }

first_once : (p q : Place) → ComesFirst p q → ComesFirst q p → p ≡ q
first_once p q (inl l) (inl k) = absurd (omega (arith, l, k))
first_once p q (inl l) (inr k) = let e = k.0 in absurd (omega (arith, l, e))
first_once p q (inr l) (inl k) = let e = l.0 in absurd (omega (arith, k, e))
first_once p q (inr l) (inr k) = same_place p q l.0 (le_antisymm l.1 k.1)

-- ---- clients

module _ (s : Setting) (u : PackageSource) (blocks : Blocks) where
  same_entries : (a b : Entries) → IsTyping s u a → IsTyping s u b → a ≡ b
  same_entries a b t r = λ i n. one_typing s u (all_of (declarations u)) a b t r n i

  not_refused : (a : Entries) → ((q : Place) → IsRedeclared u q → ⊥) → ((q : Place) → IsMissing u q → ⊥) → IsTyping s u a → (r : Refusal) → IsRefused s u r → ⊥
  not_refused a o f t (redeclared q) k = o q k
  not_refused a o f t (missing_import q) k = f q k.1
  not_refused a o f t (unsound q) k = let n = k.2.1 in n.unsound (typed_sound s u a t k.2.0 n.is)

  pub client_apart : IsTypedClient s u blocks → (p : Place) → IsUntypedClient s u blocks p → ⊥
  client_apart c p (untyped_declaration r k e) = not_refused c.entries c.once c.found c.typing r k
  client_apart c p (untyped_body {a = a} o f t h) =
      let b = subst (BodiesAreTyped s u blocks) (same_entries c.entries a c.typing t) c.bodies in
      let d = h.is.declaration in
      body_apart (environment s u a d) (blocks_in blocks d.file) d.form p.offset (b d h.is.has) h.is.untyped

  pub one_untyped : (p q : Place) → IsUntypedClient s u blocks p → IsUntypedClient s u blocks q → p ≡ q
  one_untyped p q (untyped_declaration r k e) (untyped_declaration v l g) = sym e ∙ ap refused_at (one_refusal s u r v k l) ∙ g
  one_untyped p q (untyped_declaration r k e) (untyped_body {a = a} o f t h) = absurd (not_refused a o f t r k)
  one_untyped p q (untyped_body {a = a} o f t h) (untyped_declaration r k e) = absurd (not_refused a o f t r k)
  one_untyped p q (untyped_body {a = a} o f t h) (untyped_body {a = b} n g r k) =
      let x = subst (λ (z : Entries). IsFirstUntyped s u blocks z p) (same_entries a b t r) h in
      first_once p q (x.first q k.is) (k.first p x.is)

module _ (world : Packages) (bits : ℕ) (u : PackageSource) (blocks : Blocks) where
  in_or_untyped : (p : Place) → IsTypedClient (setting world bits true) u blocks → IsUntypedClient (setting world bits false) u blocks p → ⊥
  in_or_untyped p c k = client_apart (setting world bits false) u blocks (client_without (setting world bits true) u blocks c) p k

  pub one_vetted : (v w : Vetted) → IsVetted world bits u blocks v → IsVetted world bits u blocks w → v ≡ w
  one_vetted vetted.InProfile vetted.InProfile a b = refl
  one_vetted vetted.InProfile vetted.TypedOutsideProfile a b = absurd (b.1 a)
  one_vetted vetted.InProfile (vetted.Untyped q) a b = absurd (in_or_untyped q a b)
  one_vetted vetted.TypedOutsideProfile vetted.InProfile a b = absurd (a.1 b)
  one_vetted vetted.TypedOutsideProfile vetted.TypedOutsideProfile a b = refl
  one_vetted vetted.TypedOutsideProfile (vetted.Untyped q) a b = absurd (client_apart (setting world bits false) u blocks a.0 q b)
  one_vetted (vetted.Untyped p) vetted.InProfile a b = absurd (in_or_untyped p b a)
  one_vetted (vetted.Untyped p) vetted.TypedOutsideProfile a b = absurd (client_apart (setting world bits false) u blocks b.0 p a)
  one_vetted (vetted.Untyped p) (vetted.Untyped q) a b = ap vetted.Untyped (one_untyped (setting world bits false) u blocks p q a b)
