-- Every statement is a finite tree: the form in which other files recurse on statements.
use Rattle.std.proofs.Common.{inl, inr, ◌≡◌, List, [], ◌∷◌, ◌++◌, map, Option, Some, None, sym, ap, subst}
use Rattle.go_base.specs.Lists.{Has as In}
use Rattle.go_typings.proofs.go_rules_proofs.OneName.{none_some}
use Rattle.go_statement_rules.specs.Contexts.{init_of}
use Rattle.go_statement_rules.specs.Statements.{KindLayer, kind_of}
use Rattle.go_syntax.specs.declared.statement.Case.{Case, Case-F, out-Case, roll-Case, out-roll-Case}
use Rattle.go_syntax.specs.declared.statement.SelectCase.{SelectCase, SelectCase-F, out-SelectCase, roll-SelectCase, out-roll-SelectCase, map-SelectCase}
use Rattle.go_syntax.specs.declared.statement.Stmt.{Stmt, Stmt-F, roll-Stmt, out-roll-Stmt, ind-Stmt}
use Rattle.go_syntax.specs.declared.statement.StmtKind.{StmtKind, StmtKind-F, out-StmtKind, roll-StmtKind, out-roll-StmtKind, map-StmtKind}
use Rattle.go_syntax.specs.declared.statement.TypeCase.{TypeCase, TypeCase-F, out-TypeCase, roll-TypeCase, out-roll-TypeCase}

-- the statement that may be left out
abbrev pub optional : Option Stmt → List Stmt
optional None = []
optional (Some x) = x ∷ []

abbrev pub in_cases : List Case → List Stmt
in_cases [] = []
in_cases (c ∷ cs) = (out-Case c).body ++ in_cases cs

abbrev pub in_type_cases : List TypeCase → List Stmt
in_type_cases [] = []
in_type_cases (c ∷ cs) = (out-TypeCase c).body ++ in_type_cases cs

abbrev pub in_select_cases : List SelectCase → List Stmt
in_select_cases [] = []
in_select_cases (c ∷ cs) = (optional (out-SelectCase c).communication ++ (out-SelectCase c).body) ++ in_select_cases cs

-- the statements that stand in a statement itself
abbrev pub inner : KindLayer → List Stmt
inner (StmtKind-F.Labeled n x) = x ∷ []
inner (StmtKind-F.Block ss) = ss
inner (StmtKind-F.If init e ss other) = optional init ++ (ss ++ optional other)
inner (StmtKind-F.Switch init e cs) = optional init ++ in_cases cs
inner (StmtKind-F.TypeSwitch init n e cs) = optional init ++ in_type_cases cs
inner (StmtKind-F.Select cs) = in_select_cases cs
inner (StmtKind-F.For init e post ss) = optional init ++ (optional post ++ ss)
inner (StmtKind-F.While e ss) = ss
inner (StmtKind-F.Range e ss) = ss
inner (StmtKind-F.RangeAssign es e ss) = ss
inner (StmtKind-F.RangeDefine ns e ss) = ss
inner k = []

mutual
  pub data Tree : Stmt → Type 0 where
    tree : {x : Stmt} → Trees (inner (kind_of x)) → Tree x

  pub data Trees : List Stmt → Type 0 where
    trees_none : Trees []
    trees_more : {x : Stmt} {xs : List Stmt} → Tree x → Trees xs → Trees (x ∷ xs)

joined : {xs ys : List Stmt} → Trees xs → Trees ys → Trees (xs ++ ys)
joined trees_none y = y
joined (trees_more a x) y = trees_more a (joined x y)

abbrev OfKind : StmtKind → Type 0
OfKind k = Trees (inner (out-StmtKind k))

abbrev OfCase : Case → Type 0
OfCase c = Trees (out-Case c).body

abbrev OfSelect : SelectCase → Type 0
OfSelect c = Trees (optional (out-SelectCase c).communication ++ (out-SelectCase c).body)

abbrev OfTypeCase : TypeCase → Type 0
OfTypeCase c = Trees (out-TypeCase c).body

abbrev A : Type 0
A = (k : StmtKind) × OfKind k

abbrev B : Type 0
B = (c : Case) × OfCase c

abbrev C : Type 0
C = (c : SelectCase) × OfSelect c

abbrev D : Type 0
D = (x : Stmt) × Tree x

abbrev G : Type 0
G = (c : TypeCase) × OfTypeCase c

abbrev forget : StmtKind-F A B C D G → KindLayer
forget y = map-StmtKind A B C D G StmtKind Case SelectCase Stmt TypeCase (λ (a : A). a.0) (λ (a : B). a.0) (λ (a : C). a.0) (λ (a : D). a.0) (λ (a : G). a.0) y

abbrev forget_select : SelectCase-F A B C D G → SelectCase-F StmtKind Case SelectCase Stmt TypeCase
forget_select y = map-SelectCase A B C D G StmtKind Case SelectCase Stmt TypeCase (λ (a : A). a.0) (λ (a : B). a.0) (λ (a : C). a.0) (λ (a : D). a.0) (λ (a : G). a.0) y

trees : (xs : List D) → Trees (map (λ (a : D). a.0) xs)
trees [] = trees_none
trees (a ∷ xs) = trees_more a.1 (trees xs)

cases : (cs : List B) → Trees (in_cases (map (λ (a : B). a.0) cs))
cases [] = trees_none
cases (a ∷ cs) = joined a.1 (cases cs)

type_cases : (cs : List G) → Trees (in_type_cases (map (λ (a : G). a.0) cs))
type_cases [] = trees_none
type_cases (a ∷ cs) = joined a.1 (type_cases cs)

select_cases : (cs : List C) → Trees (in_select_cases (map (λ (a : C). a.0) cs))
select_cases [] = trees_none
select_cases (a ∷ cs) = joined a.1 (select_cases cs)

one : (a : D) {xs : List Stmt} → Trees xs → Trees (a.0 ∷ xs)
one a x = trees_more a.1 x

layer : (y : StmtKind-F A B C D G) → Trees (inner (forget y))
layer (StmtKind-F.Labeled n a) = one a trees_none
layer (StmtKind-F.Block ss) = trees ss
layer (StmtKind-F.If None e ss None) = joined (trees ss) trees_none
layer (StmtKind-F.If None e ss (Some b)) = joined (trees ss) (one b trees_none)
layer (StmtKind-F.If (Some a) e ss None) = one a (joined (trees ss) trees_none)
layer (StmtKind-F.If (Some a) e ss (Some b)) = one a (joined (trees ss) (one b trees_none))
layer (StmtKind-F.Switch None e cs) = cases cs
layer (StmtKind-F.Switch (Some a) e cs) = one a (cases cs)
layer (StmtKind-F.TypeSwitch None n e cs) = type_cases cs
layer (StmtKind-F.TypeSwitch (Some a) n e cs) = one a (type_cases cs)
layer (StmtKind-F.Select cs) = select_cases cs
layer (StmtKind-F.For None e None ss) = trees ss
layer (StmtKind-F.For None e (Some b) ss) = one b (trees ss)
layer (StmtKind-F.For (Some a) e None ss) = one a (trees ss)
layer (StmtKind-F.For (Some a) e (Some b) ss) = one a (one b (trees ss))
layer (StmtKind-F.While e ss) = trees ss
layer (StmtKind-F.Range e ss) = trees ss
layer (StmtKind-F.RangeAssign es e ss) = trees ss
layer (StmtKind-F.RangeDefine ns e ss) = trees ss
layer y = trees_none

kind_step : (x : KindLayer) (y : StmtKind-F A B C D G) → forget y ≡ x → OfKind (roll-StmtKind x)
kind_step x y e = subst (λ z. Trees (inner z)) (sym (out-roll-StmtKind x)) (subst (λ z. Trees (inner z)) e (layer y))

case_step : (x : Case-F StmtKind Case SelectCase Stmt TypeCase) (ss : List D) → map (λ (a : D). a.0) ss ≡ x.body → OfCase (roll-Case x)
case_step x ss e = subst (λ (z : Case-F StmtKind Case SelectCase Stmt TypeCase). Trees z.body) (sym (out-roll-Case x)) (subst Trees e (trees ss))

type_case_step : (x : TypeCase-F StmtKind Case SelectCase Stmt TypeCase) (ss : List D) → map (λ (a : D). a.0) ss ≡ x.body → OfTypeCase (roll-TypeCase x)
type_case_step x ss e = subst (λ (z : TypeCase-F StmtKind Case SelectCase Stmt TypeCase). Trees z.body) (sym (out-roll-TypeCase x)) (subst Trees e (trees ss))

select_layer : (c : Option D) (ss : List D) → Trees (optional (forget_select (record { communication = c; body = ss })).communication ++ (forget_select (record { communication = c; body = ss })).body)
select_layer None ss = trees ss
select_layer (Some a) ss = one a (trees ss)

select_step : (x : SelectCase-F StmtKind Case SelectCase Stmt TypeCase) (y : SelectCase-F A B C D G) → forget_select y ≡ x → OfSelect (roll-SelectCase x)
select_step x y e = subst (λ (z : SelectCase-F StmtKind Case SelectCase Stmt TypeCase). Trees (optional z.communication ++ z.body)) (sym (out-roll-SelectCase x))
    (subst (λ (z : SelectCase-F StmtKind Case SelectCase Stmt TypeCase). Trees (optional z.communication ++ z.body)) e (select_layer y.communication y.body))

stmt_step : (x : Stmt-F StmtKind Case SelectCase Stmt TypeCase) (k : A) → k.0 ≡ x.kind → Tree (roll-Stmt x)
stmt_step x k e = tree (subst (λ (z : Stmt-F StmtKind Case SelectCase Stmt TypeCase). Trees (inner (out-StmtKind z.kind))) (sym (out-roll-Stmt x)) (subst (λ z. Trees (inner (out-StmtKind z))) e k.1))

pub grown : (x : Stmt) → Tree x
grown = ind-Stmt OfKind OfCase OfSelect Tree OfTypeCase
    (λ x y e. kind_step x y e)
    (λ x y e. case_step x y.body (ap (λ z. z.body) e))
    (λ x y e. select_step x y e)
    (λ x y e. stmt_step x y.kind (ap (λ z. z.kind) e))
    (λ x y e. type_case_step x y.body (ap (λ z. z.body) e))

left_in : (x : Stmt) (xs ys : List Stmt) → In xs x → In (xs ++ ys) x
left_in x [] ys h = absurd h
left_in x (y ∷ xs) ys (inl e) = inl e
left_in x (y ∷ xs) ys (inr h) = inr (left_in x xs ys h)

right_in : (x : Stmt) (xs ys : List Stmt) → In ys x → In (xs ++ ys) x
right_in x [] ys h = h
right_in x (y ∷ xs) ys h = inr (right_in x xs ys h)

pub case_in : (x : Stmt) (cs : List Case) (c : Case) → In cs c → In (out-Case c).body x → In (in_cases cs) x
case_in x [] c i h = absurd i
case_in x (d ∷ cs) c (inl e) h = left_in x (out-Case d).body (in_cases cs) (subst (λ (z : Case). In (out-Case z).body x) (sym e) h)
case_in x (d ∷ cs) c (inr i) h = right_in x (out-Case d).body (in_cases cs) (case_in x cs c i h)

pub type_case_in : (x : Stmt) (cs : List TypeCase) (c : TypeCase) → In cs c → In (out-TypeCase c).body x → In (in_type_cases cs) x
type_case_in x [] c i h = absurd i
type_case_in x (d ∷ cs) c (inl e) h = left_in x (out-TypeCase d).body (in_type_cases cs) (subst (λ (z : TypeCase). In (out-TypeCase z).body x) (sym e) h)
type_case_in x (d ∷ cs) c (inr i) h = right_in x (out-TypeCase d).body (in_type_cases cs) (type_case_in x cs c i h)

abbrev in_select : SelectCase → List Stmt
in_select c = optional (out-SelectCase c).communication ++ (out-SelectCase c).body

select_in : (x : Stmt) (cs : List SelectCase) (c : SelectCase) → In cs c → In (in_select c) x → In (in_select_cases cs) x
select_in x [] c i h = absurd i
select_in x (d ∷ cs) c (inl e) h = left_in x (in_select d) (in_select_cases cs) (subst (λ (z : SelectCase). In (in_select z) x) (sym e) h)
select_in x (d ∷ cs) c (inr i) h = right_in x (in_select d) (in_select_cases cs) (select_in x cs c i h)

one_optional : (x y : Stmt) (o : Option Stmt) → o ≡ Some y → In (y ∷ []) x → In (optional o) x
one_optional x y o e h = subst (λ o. In (optional o) x) (sym e) h

pub select_body_in : (x : Stmt) (cs : List SelectCase) (c : SelectCase) → In cs c → In (out-SelectCase c).body x → In (in_select_cases cs) x
select_body_in x cs c i h = select_in x cs c i (right_in x (optional (out-SelectCase c).communication) (out-SelectCase c).body h)

pub communication_in : (x y : Stmt) (cs : List SelectCase) (c : SelectCase) → In cs c → (out-SelectCase c).communication ≡ Some y → In (y ∷ []) x → In (in_select_cases cs) x
communication_in x y cs c i e h = select_in x cs c i (left_in x (optional (out-SelectCase c).communication) (out-SelectCase c).body (one_optional x y _ e h))

pub init_in : (x y : Stmt) (k : KindLayer) → init_of k ≡ Some y → In (y ∷ []) x → In (inner k) x
init_in x y (StmtKind-F.If init e ss other) i h = left_in x (optional init) (ss ++ optional other) (one_optional x y init i h)
init_in x y (StmtKind-F.Switch init e cs) i h = left_in x (optional init) (in_cases cs) (one_optional x y init i h)
init_in x y (StmtKind-F.TypeSwitch init n e cs) i h = left_in x (optional init) (in_type_cases cs) (one_optional x y init i h)
init_in x y (StmtKind-F.For init e post ss) i h = left_in x (optional init) (optional post ++ ss) (one_optional x y init i h)
init_in x y k i h = absurd (none_some i)

pub then_in : (x : Stmt) (init other : Option Stmt) (ss : List Stmt) → In ss x → In (optional init ++ (ss ++ optional other)) x
then_in x init other ss h = right_in x (optional init) (ss ++ optional other) (left_in x ss (optional other) h)

pub else_in : (x : Stmt) (init other : Option Stmt) (ss : List Stmt) → In (optional other) x → In (optional init ++ (ss ++ optional other)) x
else_in x init other ss h = right_in x (optional init) (ss ++ optional other) (right_in x ss (optional other) h)

pub behind_in : (x : Stmt) (init : Option Stmt) (ys : List Stmt) → In ys x → In (optional init ++ ys) x
behind_in x init ys h = right_in x (optional init) ys h

pub post_in : (x : Stmt) (init post : Option Stmt) (ss : List Stmt) → In (optional post) x → In (optional init ++ (optional post ++ ss)) x
post_in x init post ss h = right_in x (optional init) (optional post ++ ss) (left_in x (optional post) ss h)

pub for_in : (x : Stmt) (init post : Option Stmt) (ss : List Stmt) → In ss x → In (optional init ++ (optional post ++ ss)) x
for_in x init post ss h = right_in x (optional init) (optional post ++ ss) (right_in x (optional post) ss h)
