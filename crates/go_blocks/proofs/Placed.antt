-- What is found in statements one after another.
use Rattle.std.proofs.Common.{◌≡◌, ◌≤◌, ◌<◌, ◌+◌, ℕ, true, false, List, ◌∷◌, length, drop, get_or, sym, subst}
use Rattle.go_switch_statements.specs.go_flat_statements.Judging.{JudgesKind}
use Rattle.go_judged.specs.declared.judged.Judged.{Judged}
use Rattle.go_local_scopes.proofs.Standing.{reached, unreached}
use Rattle.go_rules.specs.Environments.{Env}
use Rattle.go_selectors.proofs.Lists.{drop_all, drop_next}
use Rattle.go_statement_rules.specs.Contexts.{Inside}
use Rattle.go_statement_rules.specs.Functions.{Enclosing, run}
use Rattle.go_statement_rules.specs.Places.{IsUntypedPlace}
use Rattle.go_statement_rules.specs.Scopes.{Scopes}
use Rattle.go_statement_rules.specs.Statements.{AreTyped, Leaves, kind_of, typed_more, typed_none}
use Rattle.go_syntax.specs.declared.statement.LiteralBlock.{LiteralBlock}
use Rattle.go_syntax.specs.declared.statement.Stmt.{Stmt, out-Stmt}
use Rattle.go_untyped_places.specs.Parts.{IsPart}
use Rattle.go_untyped_places.specs.Surveys.{place_or}
use Rattle.go_untyped_places.proofs.PartsInside.{of_part, to_part}
use Rattle.go_untyped_places.proofs.PlacesInside.{first_place, later_place}
use Rattle.go_untyped_places.proofs.Surveying.{survey_as, surveyed_place}

module _ (E : Env) (blocks : List LiteralBlock) (r : Enclosing) (s : Scopes) (all : List Stmt) where
  -- what is found in the rest is found in all
  pub record StatementsOn (t : Scopes) (rest : List Stmt) : Type 0 where
    pub to : (u : Scopes) → AreTyped E blocks r t rest u → AreTyped E blocks r s all u
    pub placed : (p : ℕ) → IsUntypedPlace E blocks (run r t rest) p → IsUntypedPlace E blocks (run r s all) p

  module _ (t : Scopes) (i : ℕ) (x : Stmt) (h : i < length all) (e : x ≡ get_or all i x) (o : StatementsOn t (drop i all)) where
    here : StatementsOn t (x ∷ drop (i + 1) all)
    here = subst (StatementsOn t) (drop_next i all x h e) o

    pub statements_next : (u : Scopes) (j : Judged) → j.typed ≡ true → JudgesKind E blocks r t (kind_of x) u j → StatementsOn u (drop (i + 1) all)
    statements_next u j f k =
        let l = reached (Leaves E blocks r t (kind_of x)) u j.typed f k.0 in
        record { to = λ w a. here.to w (typed_more l a); placed = λ p a. here.placed p (later_place E blocks r t x u l (drop (i + 1) all) p a) }

    pub statements_not : (u : Scopes) (j : Judged) → j.typed ≡ false → JudgesKind E blocks r t (kind_of x) u j → IsUntypedPlace E blocks (run r s all) (place_or (out-Stmt x).start j.place)
    statements_not u j f k =
        let none = unreached (Leaves E blocks r t (kind_of x)) u j.typed f k.0 in
        let p = place_or (out-Stmt x).start j.place in
        here.placed p (first_place E blocks r t x none (drop (i + 1) all) p
        (surveyed_place E blocks r t x j.place none (survey_as E blocks (IsPart E blocks r t (kind_of x)) (Inside E blocks r t (kind_of x)) j.place (λ v a. of_part E blocks r t (kind_of x) a) (λ v a. to_part E blocks r t (kind_of x) a) k.1)))

  pub statements_done : (t : Scopes) (i : ℕ) → length all ≤ i → StatementsOn t (drop i all) → AreTyped E blocks r s all t
  statements_done t i h o = o.to t (subst (λ (xs : List Stmt). AreTyped E blocks r t xs t) (sym (drop_all i all h)) typed_none)

pub statements_begin : (E : Env) (blocks : List LiteralBlock) (r : Enclosing) (s : Scopes) (all : List Stmt) → StatementsOn E blocks r s all s all
statements_begin E blocks r s all = record { to = λ u a. a; placed = λ p a. a }
