-- In a closed region and among more entries a declaration that refers to the region alone meets what it is asked.
use Rattle.std.proofs.Common.{◌≡◌, ℕ, List, [], ◌∷◌, Option, None, Some, length, map, sym, ap, ◌∙◌, subst}
use Rattle.go_references.specs.go_base.Lists.{Each}
use Rattle.go_rules.specs.go_model.declared.types.package.Defined.{Defined}
use Rattle.go_rules.specs.go_model.declared.types.term.Term.{Term, out-Term}
use Rattle.go_rules.specs.go_model.worlds.Worlds.{bars_methods}
use Rattle.go_rules.specs.Asks.{Meets}
use Rattle.go_rules.specs.Environments.{Env}
use Rattle.go_rules.specs.Expressions.{OfType}
use Rattle.go_rules.specs.Growth.{Grows}
use Rattle.go_rules.specs.Nodes.{Node, expression, optional, type}
use Rattle.go_rules.specs.Regions.{IsClosed, RefersIn, Region, cut}
use Rattle.go_rules.specs.Usability.{UsableAs}
use Rattle.go_rules.specs.declared.operand.Operand.{Operand}
use Rattle.go_rules.proofs.GrowAsks.{meets_more}
use Rattle.go_rules.proofs.GrowOperand.{type_more}
use Rattle.go_rules.proofs.GrowRelations.{usable_more}
use Rattle.go_rules.proofs.GrowResults.{each_of}
use Rattle.go_rules.proofs.GrowTypes.{joined_is}
use Rattle.go_rules.proofs.LocalAsks.{meets_local}
use Rattle.go_rules.proofs.LocalOperand.{type_local}
use Rattle.go_rules.proofs.LocalParts.{each_left, each_right}
use Rattle.go_rules.proofs.LocalResults.{each_usable}
use Rattle.go_references.specs.go_syntax.declared.declaration.Func.{Func}
use Rattle.go_references.specs.go_syntax.declared.expression.Expr.{Expr}
use Rattle.go_references.specs.go_syntax.declared.types.ParameterDecl.{ParameterDecl}
use Rattle.go_references.specs.go_syntax.declared.types.«Type».{«Type» as Typ}
use Rattle.go_typings.specs.DeclarationAsks.{AreUsable, Asks, FormAsks, IsApart, IsMethod, ValuesFit}
use Rattle.go_typings.specs.DeclarationNodes.{nodes}
use Rattle.go_typings.specs.Declarations.{Form, constants, variables, alias, definition, function, method, declarations}
use Rattle.go_typings.specs.Initializers.{Initialize}
use Rattle.go_typings.specs.Receivers.{base}
use Rattle.go_typings.specs.Sources.{PackageSource}
use Rattle.go_typings.proofs.GrowRules.{initialize_more}
use Rattle.go_typings.proofs.LocalRules.{initialize_local}

-- the type that a method is declared for is had in the second environment as in the first, but for methods
abbrev pub KeepsBase : Env → Env → PackageSource → Form → Type 0
KeepsBase E F u (method receiver f) = (name : List ℕ) (d : Defined) → base (declarations u) receiver ≡ Some name → E.table (record { path = u.path; name = name }) ≡ Some d → (e : Defined) × (F.table (record { path = u.path; name = name }) ≡ Some e) × (d.underlying ≡ e.underlying)
KeepsBase E F u f = Unit {0}

module _ (E F : Env) (R : Region) (w : IsClosed E R) (m : Grows (cut R E) F) where
  abbrev C : Env
  C = cut R E

  meets_same : (at : Node) → RefersIn R at → Meets E at → Meets F at
  meets_same at n k = subst (λ z. Meets z at) (joined_is C F m) (meets_more C F m (meets_local E R w at n k))

  usable_same : (t : Typ) (n : ℕ) (es : List Expr) → RefersIn R (type t) → Each (RefersIn R) (map expression es) → AreUsable E t n es → AreUsable F t n es
  usable_same t n [] h i k = tt
  usable_same t n (e ∷ es) h i (v, os, k, j, g) =
      let q = type_local E R w k h in
      let p = initialize_local E R w i j in
      let b = each_usable E R w v os q.1 p.1 g in
      subst (λ z. (v : Term) × (os : List Operand) × OfType z t v × Initialize z n (e ∷ es) os × Each (λ o. UsableAs z o v) os) (joined_is C F m)
      (v, os, type_more C F m q.0, initialize_more C F m p.0, each_of os (λ o x. usable_more C F m x) b)

  fit_same : (t : Option Typ) (n : ℕ) (es : List Expr) → Each (RefersIn R) (optional type t) → Each (RefersIn R) (map expression es) → ValuesFit E t n es → ValuesFit F t n es
  fit_same None n es h i k = tt
  fit_same (Some t) n es h i k = usable_same t n es h.0 i k

  each_meets : (xs : List Node) → Each (RefersIn R) xs → Each (Meets E) xs → Each (Meets F) xs
  each_meets [] n k = tt
  each_meets (x ∷ xs) n k = (meets_same x n.0 k.0, each_meets xs n.1 k.1)

  module _ (u : PackageSource) (number : ℕ) where
    method_same : (receiver : ParameterDecl) (f : Func) → KeepsBase E F u (method receiver f) → IsMethod E u number receiver f → IsMethod F u number receiver f
    method_same receiver f h k =
        let e = h k.type k.defined k.of k.entry in
        record {
          type = k.type;
          of = k.of;
          defined = e.0;
          entry = e.1;
          permits_methods = ap (λ t. bars_methods (out-Term t)) (sym e.2) ∙ k.permits_methods;
          only = k.only;
          apart = λ b. subst (λ t. IsApart (out-Term t) f.name.text) e.2 (k.apart b);
          distinct = k.distinct;
        }

    form_asks_same : (f : Form) → Each (RefersIn R) (nodes f) → KeepsBase E F u f → FormAsks E u number f → FormAsks F u number f
    form_asks_same (constants c place) n h k = k
    form_asks_same (variables v) n h k =
        (k.0, fit_same v.type_ (length v.names) v.values (each_left (RefersIn R) (optional type v.type_) (map expression v.values) n) (each_right (RefersIn R) (optional type v.type_) (map expression v.values) n) k.1)
    form_asks_same (alias c) n h k = k
    form_asks_same (definition c) n h k = k
    form_asks_same (function f) n h k = k
    form_asks_same (method r f) n h k = method_same r f h k

    pub asks_same : (f : Form) → Each (RefersIn R) (nodes f) → KeepsBase E F u f → Asks E u number f → Asks F u number f
    asks_same f n h k = record { form = form_asks_same f n h k.form; meets = each_meets (nodes f) n k.meets }
