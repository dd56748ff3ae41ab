-- In two environments of which each has what the other has the same bodies are typed, and the others aren't at the same places.
use Rattle.std.proofs.Common.{ℕ, List, [], ◌∷◌, Option, None, Some}
use Rattle.go_base.specs.Lists.{Each}
use Rattle.go_client_typings.specs.Bodies.{AreTypedBodies, HasBody, has_literal, has_own, HasUntyped, IsTypedFunc, func_in, untyped_itself, untyped_statement}
use Rattle.go_client_typings.proofs.GrowContexts.{context_f, enters_body_f, enters_f, inside_f, leaves_f}
use Rattle.go_rules.specs.Environments.{Env}
use Rattle.go_rules.specs.Growth.{Grows}
use Rattle.go_rules.specs.Nodes.{Node}
use Rattle.go_statement_rules.specs.Bodies.{AreTypedOutside}
use Rattle.go_statement_rules.specs.Functions.{Run, Spot}
use Rattle.go_statement_rules.specs.Places.{Fails, FailsItself, IsUntypedPlace}
use Rattle.go_statement_rules.proofs.GrowStatements.{body_among_more, outside_among_more}
use Rattle.go_syntax.specs.declared.declaration.Func.{Func}
use Rattle.go_syntax.specs.declared.statement.LiteralBlock.{LiteralBlock}
use Rattle.go_typings.specs.DeclarationNodes.{nodes}
use Rattle.go_typings.specs.Declarations.{Form}

func_f : (E F : Env) (blocks : List LiteralBlock) → Grows E F → (f : Option Func) → IsTypedFunc E blocks f → IsTypedFunc F blocks f
func_f E F blocks m None h = tt
func_f E F blocks m (Some f) h = body_among_more E F blocks f m h

each_f : (E F : Env) (blocks : List LiteralBlock) → Grows E F → (ns : List Node) → Each (AreTypedOutside E blocks) ns → Each (AreTypedOutside F blocks) ns
each_f E F blocks m [] h = tt
each_f E F blocks m (n ∷ ns) h = (outside_among_more E F blocks n m h.0, each_f E F blocks m ns h.1)

pub bodies_f : (E F : Env) (blocks : List LiteralBlock) → Grows E F → (f : Form) → AreTypedBodies E blocks f → AreTypedBodies F blocks f
bodies_f E F blocks m f h = record { body = func_f E F blocks m (func_in f) h.body; literals = each_f E F blocks m (nodes f) h.literals }

fails_f : (E F : Env) (blocks : List LiteralBlock) → Grows E F → Grows F E → (w : Run) (c : Spot) → Fails E blocks w c → Fails F blocks w c
fails_f E F blocks m n w c h = record { stands = context_f E F blocks m h.stands; untyped = λ t l. h.untyped t (leaves_f F E blocks n c.statement l) }

itself_f : (E F : Env) (blocks : List LiteralBlock) → Grows E F → Grows F E → (w : Run) (c : Spot) → FailsItself E blocks w c → FailsItself F blocks w c
itself_f E F blocks m n w c h = record {
  fails = fails_f E F blocks m n w c h.fails;
  holds_none = λ v d i k. h.holds_none v d (inside_f F E blocks n i) (fails_f F E blocks n m v d k);
}

pub place_f : (E F : Env) (blocks : List LiteralBlock) → Grows E F → Grows F E → (w : Run) (p : ℕ) → IsUntypedPlace E blocks w p → IsUntypedPlace F blocks w p
place_f E F blocks m n w p h = record { spot = h.spot; fails = itself_f E F blocks m n w h.spot h.fails; starts = h.starts; least = λ c k. h.least c (itself_f F E blocks n m w c k) }

body_in_f : (E F : Env) (blocks : List LiteralBlock) → Grows E F → {f : Form} {w : Run} → HasBody E blocks f w → HasBody F blocks f w
body_in_f E F blocks m (has_own e h) = has_own e (enters_body_f E F blocks m h)
body_in_f E F blocks m (has_literal i j e h) = has_literal i j e (enters_f E F blocks m h)

pub untyped_f : (E F : Env) (blocks : List LiteralBlock) (f : Form) (p : ℕ) → Grows E F → Grows F E → HasUntyped E blocks f p → HasUntyped F blocks f p
untyped_f E F blocks f p m n (untyped_statement {w = w} h k) = untyped_statement (body_in_f E F blocks m h) (place_f E F blocks m n w p k)
untyped_f E F blocks f p m n (untyped_itself h k) = untyped_itself (λ t. h (bodies_f F E blocks n f t)) (λ w q b u. k w q (body_in_f F E blocks n b) (place_f F E blocks n m w q u))
