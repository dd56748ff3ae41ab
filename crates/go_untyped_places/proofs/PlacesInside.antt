-- The untyped place of statements one after another, and of one statement, from the places inside of it.
use Rattle.std.proofs.Common.{inl, inr, ◌≡◌, ◌⊎◌, ◌≤◌, ℕ, List, [], ◌∷◌, ◌++◌, refl, sym, ap, subst, arith}
use Rattle.std.proofs.lemmas.Bool.{cases_lt}
use Rattle.go_rules.specs.Environments.{Env}
use Rattle.go_statement_rules.specs.Bodies.{IsTypedRun}
use Rattle.go_statement_rules.specs.Contexts.{InContext, in_context, in_context_inside, Inside, StandsAmong, stands_among}
use Rattle.go_statement_rules.specs.Functions.{Enclosing, Run, Spot, run, spot}
use Rattle.go_statement_rules.specs.Places.{FailsItself, IsUntypedPlace}
use Rattle.go_statement_rules.specs.Scopes.{Scopes}
use Rattle.go_statement_rules.specs.Statements.{AreTyped, Leaves, kind_of, typed_more, typed_none}
use Rattle.go_statement_rules.proofs.InsideTyped.{context_typed, inside_typed}
use Rattle.go_statement_rules.proofs.OnePlace.{typed_or_place}
use Rattle.go_statement_rules.proofs.OneScope.{leaves_once}
use Rattle.go_syntax.specs.declared.statement.LiteralBlock.{LiteralBlock}
use Rattle.go_syntax.specs.declared.statement.Stmt.{Stmt, out-Stmt}

abbrev start_of : Spot → ℕ
start_of c = (out-Stmt c.statement).start

head_stmt : {x y : Stmt} {xs ys : List Stmt} → x ∷ xs ≡ y ∷ ys → x ≡ y
head_stmt e = cc

tail_stmt : {x y : Stmt} {xs ys : List Stmt} → x ∷ xs ≡ y ∷ ys → xs ≡ ys
tail_stmt e = cc

module _ (E : Env) (blocks : List LiteralBlock) where
  abbrev Untyped : Spot → Type 0
  Untyped c = (t : Scopes) → Leaves E blocks c.function c.scopes (kind_of c.statement) t → ⊥

  -- what stands in context of a typed run doesn't fail
  none_fails : {w : Run} {c : Spot} → IsTypedRun E blocks w → InContext E blocks w c → Untyped c → ⊥
  none_fails y i n = let z = context_typed E blocks y i in n z.0 z.1

  -- ---- from one run to another

  context_as : {w v : Run} {c : Spot} → ((a : Spot) → StandsAmong E blocks w a → StandsAmong E blocks v a) → InContext E blocks w c → InContext E blocks v c
  context_as f (in_context i) = in_context (f _ i)
  context_as f (in_context_inside i k h) = in_context_inside (f _ i) k h

  itself_as : {w v : Run} {c : Spot} → ((a : Spot) → StandsAmong E blocks w a → StandsAmong E blocks v a) → FailsItself E blocks w c → FailsItself E blocks v c
  itself_as f g = record { fails = record { stands = context_as f g.fails.stands; untyped = g.fails.untyped }; holds_none = g.holds_none }

  place_as : {w v : Run} {p : ℕ} → ((a : Spot) → StandsAmong E blocks w a → StandsAmong E blocks v a) → ((c : Spot) → FailsItself E blocks v c → FailsItself E blocks w c) → IsUntypedPlace E blocks w p → IsUntypedPlace E blocks v p
  place_as to from a = record { spot = a.spot; fails = itself_as to a.fails; starts = a.starts; least = λ c g. a.least c (from c g) }

  module _ (r : Enclosing) (s : Scopes) (x : Stmt) where
    first_among : (xs : List Stmt) → StandsAmong E blocks (run r s (x ∷ xs)) (spot r s x)
    first_among xs = stands_among [] xs refl typed_none

    -- ---- a statement that isn't typed

    module _ (n : (t : Scopes) → Leaves E blocks r s (kind_of x) t → ⊥) where
      first_at : {t : Scopes} (xs before after : List Stmt) (y : Stmt) → x ∷ xs ≡ before ++ y ∷ after → AreTyped E blocks r s before t → spot r t y ≡ spot r s x
      first_at xs [] after y e typed_none = ap (spot r s) (sym (head_stmt e))
      first_at xs (b ∷ before) after y e (typed_more {t = q} l d) = absurd (n q (subst (λ (z : Stmt). Leaves E blocks r s (kind_of z) q) (sym (head_stmt e)) l))

      only_first : {xs : List Stmt} {a : Spot} → StandsAmong E blocks (run r s (x ∷ xs)) a → a ≡ spot r s x
      only_first {xs = xs} (stands_among before after {x = y} e d) = first_at xs before after y e d

      same_among : (xs ys : List Stmt) (a : Spot) → StandsAmong E blocks (run r s (x ∷ xs)) a → StandsAmong E blocks (run r s (x ∷ ys)) a
      same_among xs ys a i = subst (StandsAmong E blocks (run r s (x ∷ ys))) (sym (only_first i)) (first_among ys)

      pub first_place : (xs : List Stmt) (p : ℕ) → IsUntypedPlace E blocks (run r s (x ∷ [])) p → IsUntypedPlace E blocks (run r s (x ∷ xs)) p
      first_place xs p a = place_as (same_among [] xs) (λ c g. itself_as (same_among xs []) g) a

      -- what stands in something inside of what stands among it alone stands inside of it
      inside_it : {a : Spot} {v : Run} → StandsAmong E blocks (run r s (x ∷ [])) a → Inside E blocks a.function a.scopes (kind_of a.statement) v → Inside E blocks r s (kind_of x) v
      inside_it {v = v} i k = subst (λ (z : Spot). Inside E blocks z.function z.scopes (kind_of z.statement) v) (only_first i) k

      module _ (typed : (v : Run) → Inside E blocks r s (kind_of x) v → IsTypedRun E blocks v) where
        least_itself : {c : Spot} → InContext E blocks (run r s (x ∷ [])) c → Untyped c → start_of (spot r s x) ≤ start_of c
        least_itself (in_context i) u = subst (λ (z : Spot). start_of (spot r s x) ≤ start_of z) (sym (only_first i)) (omega arith)
        least_itself (in_context_inside {v = v} i k h) u = absurd (none_fails (typed v (inside_it i k)) h u)

        pub itself_place : IsUntypedPlace E blocks (run r s (x ∷ [])) (out-Stmt x).start
        itself_place = record {
          spot = spot r s x;
          fails = record { fails = record { stands = in_context (first_among []); untyped = n }; holds_none = λ v d k f. none_fails (typed v k) f.stands f.untyped };
          starts = refl;
          least = λ c g. least_itself g.fails.stands g.fails.untyped;
        }

    -- ---- one in which something isn't typed

    module _ (v : Run) (p : ℕ) (k : Inside E blocks r s (kind_of x) v) (a : IsUntypedPlace E blocks v p) where
      pub holds_untyped : (t : Scopes) → Leaves E blocks r s (kind_of x) t → ⊥
      holds_untyped t l = none_fails (inside_typed E blocks l k) a.fails.fails.stands a.fails.fails.untyped

      module _ (least : (w : Run) (q : ℕ) → Inside E blocks r s (kind_of x) w → IsUntypedPlace E blocks w q → p ≤ q) where
        -- where another one inside fails at a statement, its place isn't before
        least_in : {w : Run} {c : Spot} → Inside E blocks r s (kind_of x) w → FailsItself E blocks w c → p ≤ start_of c
        least_in {w = w} {c = c} m f = elim (cases_lt (start_of c) p) [
          | inl b ↦ absurd (typed_or_place E blocks w (λ y. none_fails y f.fails.stands f.fails.untyped) (λ q z. let i = least w q m z in let j = z.least c f in omega (arith, i, j, b)))
          | inr h ↦ h
        ]

        least_inside : {c : Spot} → InContext E blocks (run r s (x ∷ [])) c → FailsItself E blocks (run r s (x ∷ [])) c → p ≤ start_of c
        least_inside (in_context i) g = absurd (g.holds_none v a.spot (subst (λ (z : Spot). Inside E blocks z.function z.scopes (kind_of z.statement) v) (sym (only_first holds_untyped i)) k) a.fails.fails)
        least_inside (in_context_inside i m h) g = least_in (inside_it holds_untyped i m) (record { fails = record { stands = h; untyped = g.fails.untyped }; holds_none = g.holds_none })

        pub inside_place : IsUntypedPlace E blocks (run r s (x ∷ [])) p
        inside_place = record {
          spot = a.spot;
          fails = record { fails = record { stands = in_context_inside (first_among []) k a.fails.fails.stands; untyped = a.fails.fails.untyped }; holds_none = a.fails.holds_none };
          starts = a.starts;
          least = λ c g. least_inside g.fails.stands g;
        }

    -- ---- one that is typed

    module _ (t : Scopes) (l : Leaves E blocks r s (kind_of x) t) where
      behind : {xs : List Stmt} (a : Spot) → StandsAmong E blocks (run r t xs) a → StandsAmong E blocks (run r s (x ∷ xs)) a
      behind a (stands_among before after e d) = stands_among (x ∷ before) after (ap (λ zs. x ∷ zs) e) (typed_more l d)

      later_at : {u : Scopes} (xs before after : List Stmt) (y : Stmt) → x ∷ xs ≡ before ++ y ∷ after → AreTyped E blocks r s before u → (spot r u y ≡ spot r s x) ⊎ StandsAmong E blocks (run r t xs) (spot r u y)
      later_at xs [] after y e typed_none = inl (ap (spot r s) (sym (head_stmt e)))
      later_at {u = u} xs (b ∷ before) after y e (typed_more {t = q} m d) =
          let w = leaves_once E blocks (subst (λ (z : Stmt). Leaves E blocks r s (kind_of z) q) (sym (head_stmt e)) m) l in
          inr (stands_among before after (tail_stmt e) (subst (λ (z : Scopes). AreTyped E blocks r z before u) w d))

      later_among : {xs : List Stmt} {a : Spot} → StandsAmong E blocks (run r s (x ∷ xs)) a → (a ≡ spot r s x) ⊎ StandsAmong E blocks (run r t xs) a
      later_among {xs = xs} (stands_among before after {x = y} e d) = later_at xs before after y e d

      -- it is typed where it stands
      typed_there : {a : Spot} → a ≡ spot r s x → Leaves E blocks a.function a.scopes (kind_of a.statement) t
      typed_there e = subst (λ (z : Spot). Leaves E blocks z.function z.scopes (kind_of z.statement) t) (sym e) l

      context_later : {xs : List Stmt} {c : Spot} → InContext E blocks (run r s (x ∷ xs)) c → Untyped c → InContext E blocks (run r t xs) c
      context_later (in_context i) n = elim (later_among i) [ inl e ↦ absurd (n t (typed_there e)) | inr j ↦ in_context j ]
      context_later (in_context_inside i k h) n = elim (later_among i) [ inl e ↦ absurd (none_fails (inside_typed E blocks (typed_there e) k) h n) | inr j ↦ in_context_inside j k h ]

      pub later_place : (xs : List Stmt) (p : ℕ) → IsUntypedPlace E blocks (run r t xs) p → IsUntypedPlace E blocks (run r s (x ∷ xs)) p
      later_place xs p a = place_as behind (λ c g. record { fails = record { stands = context_later g.fails.stands g.fails.untyped; untyped = g.fails.untyped }; holds_none = g.holds_none }) a
