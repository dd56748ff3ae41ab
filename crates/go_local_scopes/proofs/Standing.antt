-- Environments that stand in scopes, as these are opened, change and are closed.
use Rattle.std.proofs.Common.{◌≡◌, ℕ, Bool, true, false, [], ◌∷◌, drop, Option, None, refl, sym, ap, ◌∙◌, subst}
use Rattle.std.proofs.lemmas.Result.{IfOk-weaker}
use Rattle.std.specs.Prelude.{IfOk, Result}
use Rattle.go_local_scopes.specs.States.{IsAt, Kept, Reaches, around}
use Rattle.go_rules.specs.Environments.{Env}
use Rattle.go_rules.specs.Names.{Named}
use Rattle.go_rules.specs.Scopes.{Scopes as Known, env_of, meaning_of, missing_of, object_of, types_of}
use Rattle.go_rules.specs.declared.seen.Seen.{Seen}
use Rattle.go_selectors.specs.Answers.{Decides}
use Rattle.go_statement_rules.specs.Scopes.{Scopes, at_place, opened, within}
use Rattle.go_statement_rules.specs.Statements.{form_env}
use Rattle.go_statement_rules.specs.go_typings.Declarations.{Form, constants, variables, alias, definition, function, method}
use Rattle.go_statement_rules.specs.go_typings.PackageEnvironments.{iota_of}

no_scope : {s : Named Seen} {t : Scopes} → s ∷ t ≡ [] → ⊥
no_scope e = absurd (cc)

-- the environment with this value of iota
with_iota : Known → Option ℕ → Env
with_iota e i = record { meaning = meaning_of e; object = object_of e; table = types_of e; missing = missing_of e; path = e.path; bits = e.bits; profile = e.profile; iota = i }

from_around : (e : Known) → e.iota ≡ None → env_of e ≡ within (around e) e.opened
unfolding with_iota
from_around e n = ap (with_iota e) n

-- what is asked of it is asked in these scopes
pub env_at : (E : Env) (s : Scopes) (e : Known) → IsAt E s e → env_of e ≡ within E s
env_at E s e i = from_around e i.no_iota ∙ ap (λ F. within F e.opened) (sym i.outside) ∙ ap (within E) i.scopes

-- with other scopes
pub moved_at : (E : Env) (s t : Scopes) (e f : Known) → f ≡ record e { opened = t } → IsAt E s e → IsAt E t f
moved_at E s t e f m i = subst (IsAt E t) (sym m) (record { outside = i.outside; scopes = refl; no_iota = i.no_iota })

-- with one scope more
pub opened_at : (E : Env) (s : Scopes) (e f : Known) → f ≡ record e { opened = [] ∷ e.opened } → IsAt E s e → IsAt E (opened s) f
opened_at E s e f m i = subst (λ (t : Scopes). IsAt E (opened t) f) i.scopes (moved_at E s (opened e.opened) e f m i)

pub opened_some : (e f : Known) → f ≡ record e { opened = [] ∷ e.opened } → f.opened ≡ [] → ⊥
opened_some e f m n = no_scope (sym (ap (λ (g : Known). g.opened) m) ∙ n)

-- where nothing but the innermost scope is changed
pub kept_at : (E : Env) (s : Scopes) (e f : Known) → Kept e f → IsAt E s e → IsAt E f.opened f
kept_at E s e f k i = moved_at E s f.opened e f (k.1 ∙ ap (λ (t : Scopes). record e { opened = t }) (sym (ap (λ (g : Known). g.opened) k.1))) i

-- an innermost scope
pub some_scope : (s : Scopes) → (s ≡ [] → ⊥) → (scope : Named Seen) × (s ≡ scope ∷ drop 1 s)
some_scope [] n = absurd (n refl)
some_scope (scope ∷ outer) n = (scope, refl)

pub kept_none : (e : Known) → (e.opened ≡ [] → ⊥) → Kept e e
kept_none e n = let k = some_scope e.opened n in (k.0, ap (λ (t : Scopes). record e { opened = t }) k.1)

pub kept_on : (e f g : Known) → Kept e f → Kept f g → Kept e g
kept_on e f g k l = (l.0, l.1 ∙ ap (λ (h : Known). record h { opened = l.0 ∷ drop 1 h.opened }) k.1)

pub kept_by : (e f : Known) (scope : Named Seen) → f ≡ record e { opened = scope ∷ drop 1 e.opened } → Kept e f
kept_by e f scope m = (scope, m)

pub kept_same : (e f g : Known) → g ≡ f → Kept e f → Kept e g
kept_same e f g m k = (k.0, m ∙ k.1)

-- the scope that was opened is closed
pub closed_same : (e f g h : Known) → f ≡ record e { opened = [] ∷ e.opened } → Kept f g → h ≡ record g { opened = drop 1 g.opened } → h ≡ e
closed_same e f g h o k c = c ∙ ap (λ (z : Known). record z { opened = drop 1 z.opened }) (k.1 ∙ ap (λ (z : Known). record z { opened = k.0 ∷ drop 1 z.opened }) o)

pub kept_opened : (e f : Known) → Kept e f → f.opened ≡ [] → ⊥
kept_opened e f k n = no_scope (sym (ap (λ (g : Known). g.opened) k.1) ∙ n)

-- ---- what is told there

no_truth : true ≡ false → ⊥
no_truth e = absurd (cc)

pub reached : (T : Scopes → Type 0) (t : Scopes) (a : Bool) → a ≡ true → Reaches a T t → T t
reached T t true e x = x
reached T t false e x = absurd (no_truth (sym e))

pub unreached : (T : Scopes → Type 0) (t : Scopes) (a : Bool) → a ≡ false → Reaches a T t → (u : Scopes) → T u → ⊥
unreached T t true e x = absurd (no_truth e)
unreached T t false e x = x

pub reaches_at : (E : Env) (s : Scopes) (e : Known) → IsAt E s e → (b : Bool) (R : Scopes → Scopes → Type 0) (t : Scopes) → Reaches b (R e.opened) t → Reaches b (R s) t
reaches_at E s e i b R t h = subst (λ (o : Scopes). Reaches b (R o) t) i.scopes h

pub decides_at : (E : Env) (s : Scopes) (e : Known) → IsAt E s e → (b : Bool) (P : Env → Type 0) → Decides b (P (env_of e)) → Decides b (P (within E s))
decides_at E s e i b P h = subst (λ (F : Env). Decides b (P F)) (env_at E s e i) h

pub holds_at : (E : Env) (s : Scopes) (e : Known) → IsAt E s e → (P : Env → Type 0) → P (env_of e) → P (within E s)
holds_at E s e i P h = subst P (env_at E s e i) h

pub back_at : (E : Env) (s : Scopes) (e : Known) → IsAt E s e → (P : Env → Type 0) → P (within E s) → P (env_of e)
back_at E s e i P h = subst P (sym (env_at E s e i)) h

-- where nothing is changed
pub same_at : (E : Env) (s : Scopes) (e f : Known) → f ≡ e → IsAt E s e → IsAt E s f
same_at E s e f m i = subst (IsAt E s) (sym m) i

none_at : (E : Env) (s : Scopes) (e : Known) → IsAt E s e → env_of (record e { iota = None }) ≡ within E s
none_at E s e i = env_at E s (record e { iota = None }) (record { outside = i.outside; scopes = i.scopes; no_iota = refl })

-- with the value that `iota` has in a declaration
pub formed_at : (E : Env) (s : Scopes) (e : Known) → IsAt E s e → (f : Form) → env_of (record e { iota = iota_of f }) ≡ form_env (within E s) f
formed_at E s e i (constants g place) = ap (λ F. at_place F place) (env_at E s e i)
formed_at E s e i (variables g) = none_at E s e i
formed_at E s e i (alias g) = none_at E s e i
formed_at E s e i (definition g) = none_at E s e i
formed_at E s e i (function g) = none_at E s e i
formed_at E s e i (method receiver g) = none_at E s e i

-- what is told in a scope that was opened is told outside of it
pub opened_told : {A X : Type 0} (e f : Known) → f ≡ record e { opened = [] ∷ e.opened } → (r : Result A X) (P : Env → Scopes → A → Type 0) → IfOk r (λ j. (E : Env) (s : Scopes) → IsAt E (opened s) f → P E s j) → IfOk r (λ j. (E : Env) (s : Scopes) → IsAt E s e → P E s j)
opened_told {A} e f o r P h = IfOk-weaker r (λ (j : A). (E : Env) (s : Scopes) → IsAt E (opened s) f → P E s j) (λ (j : A). (E : Env) (s : Scopes) → IsAt E s e → P E s j) (λ j k E s i. k E s (opened_at E s e f o i)) h

pub defines_at : (E : Env) (s : Scopes) (e : Known) → IsAt E s e → (P : Env → Scopes → Type 0) → P (env_of e) e.opened → P (within E s) s
defines_at E s e i P h = subst (P (within E s)) i.scopes (subst (λ (F : Env). P F e.opened) (env_at E s e i) h)
