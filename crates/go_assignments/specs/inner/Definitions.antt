-- What short variable declarations make of names, one by one.
use Rattle.std.specs.Prelude.{◌≡◌, ◌||◌, Bool, true, false, List, [], ◌∷◌, length, Some, Result, Ok, Err}
use Rattle.go_model.specs.declared.types.term.Term.{Term}
use Rattle.go_rules.specs.Asks.{AreDistinctNames, texts}
use Rattle.go_rules.specs.Environments.{Env}
use Rattle.go_rules.specs.Expressions.{is_blank}
use Rattle.go_rules.specs.Scopes.{Scopes as Names, is_declared, with_meaning}
use Rattle.go_rules.specs.Usability.{UsableAs}
use Rattle.go_rules.specs.declared.operand.Operand.{Operand}
use Rattle.go_rules.specs.declared.seen.Seen.TheVariants as seen
use Rattle.go_selectors.specs.Answers.{Decides}
use Rattle.go_syntax.specs.declared.expression.Expr.{Expr}
use Rattle.go_syntax.specs.declared.name.Name.{Name}
use Rattle.go_type_terms.specs.declared.error.ExprError.{ExprError}
use Rattle.go_type_terms.specs.declared.error.ExprError.TheVariants.{NoMemory, Untyped}
use Rattle.go_typings.specs.Initializers.{Initialize, TypeOfValue}
use Rattle.go_usability.specs.Answers.{Gives}
use Rattle.go_assignments.specs.Simple.{AreMet}
use Rattle.go_assignments.specs.declared.defined.Offer.{Offer}

-- the variable that the name means may be given the value
abbrev pub MayTake : Env → Name → Operand → Type 0
MayTake E n o = (t : Term) × (E.meaning n.text ≡ Some (seen.Local t)) × UsableAs E o t

-- what the value offers to the name
pub record IsOffer (E : Env) (n : Name) (o : Operand) (x : Offer) : Type 0 where
  pub named : x.name.now ≡ n
  pub typed : Gives (TypeOfValue E o) x.term
  pub fits : Decides x.fits (MayTake E n o)

abbrev pub AreOffers : Env → List Name → List Operand → List Offer → Type 0
AreOffers E [] [] [] = Unit {0}
AreOffers E (n ∷ ns) (o ∷ os) (x ∷ xs) = IsOffer E n o x × AreOffers E ns os xs
AreOffers E ns os xs = ⊥

-- what is told of them: there is none exactly where there are more or fewer names than values
abbrev pub TellsOffers : Env → List Name → List Operand → Result (List Offer) ExprError → Type 0
TellsOffers E ns os (Ok xs) = AreOffers E ns os xs
TellsOffers E ns os (Err NoMemory) = Unit {0}
TellsOffers E ns os (Err Untyped) = length ns ≡ length os → ⊥

-- the names are distinct, and are given as many values by the expressions
abbrev pub AreGiven : Env → List Name → List Expr → List Operand → Type 0
AreGiven E ns es os = AreDistinctNames (texts ns) × Initialize E (length ns) es os × AreMet E es × (length ns ≡ length os)

-- what is told of the values of expressions: what they offer, or that the names aren't given any
abbrev pub TellsGiven : Env → List Name → List Expr → Result (List Offer) ExprError → Type 0
TellsGiven E ns es (Ok xs) = (os : List Operand) × AreGiven E ns es os × AreOffers E ns os xs
TellsGiven E ns es (Err NoMemory) = Unit {0}
TellsGiven E ns es (Err Untyped) = (os : List Operand) → AreGiven E ns es os → ⊥

-- what a name makes of what is offered to it: it is blank, and the value has a type; the innermost scope has its variable, which may be given the value; or it is a new variable
pub data Accepts (old : Names) (x : Offer) (new : Names) : Bool → Type 0 where
  accepts_blank : {t : Term} → is_blank x.name.now.text ≡ true → x.term ≡ Some t → new ≡ old → Accepts old x new false
  accepts_old : is_declared old x.name.now.text ≡ true → x.fits ≡ true → new ≡ old → Accepts old x new false
  accepts_new : {t : Term} → is_blank x.name.now.text ≡ false → is_declared old x.name.now.text ≡ false → x.term ≡ Some t → new ≡ with_meaning old x.name.now.text (seen.Local t) → Accepts old x new true

-- each name in turn, and whether one is a new variable
abbrev pub AcceptsAll : Names → List Offer → Names → Bool → Type 0
AcceptsAll old [] new any = (new ≡ old) × (any ≡ false)
AcceptsAll old (x ∷ xs) new any = (mid : Names) × (first : Bool) × (others : Bool) × Accepts old x mid first × AcceptsAll mid xs new others × (any ≡ first || others)

-- what is told of one name, and of each
abbrev pub AcceptsOne : Names → Offer → Names → Result Bool ExprError → Type 0
AcceptsOne old x new (Ok any) = Accepts old x new any
AcceptsOne old x new (Err NoMemory) = Unit {0}
AcceptsOne old x new (Err Untyped) = (t : Names) (any : Bool) → Accepts old x t any → ⊥

abbrev pub AcceptsEach : Names → List Offer → Names → Result Bool ExprError → Type 0
AcceptsEach old xs new (Ok any) = AcceptsAll old xs new any
AcceptsEach old xs new (Err NoMemory) = Unit {0}
AcceptsEach old xs new (Err Untyped) = (t : Names) (any : Bool) → AcceptsAll old xs t any → ⊥
