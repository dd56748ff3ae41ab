-- The flags of the declarations that meet what they are asked, answer by answer.
use Rattle.std.proofs.Common.{◌≡◌, ◌↔◌, ◌+◌, ◌<◌, ℕ, zero, suc, Bool, true, false, List, [], ◌∷◌, ◌++◌, length, get_or, Option, Some, refl, sym, ap, ◌∙◌, subst, ◌⊎◌, inl, inr, arith}
use Rattle.std.specs.Prelude.{slice_get}
use Rattle.go_declaration_asks.specs.Bases.{TellsBase}
use Rattle.go_declaration_asks.specs.declared.base.Base.{Base}
use Rattle.go_declarations.specs.Forms.{form_of}
use Rattle.go_declarations.specs.Listings.{declaration_of, declarations_of}
use Rattle.go_declarations.specs.declared.listing.Declaration.{Declaration as Borrowed}
use Rattle.go_graphs.proofs.Flagging.{flagged_within}
use Rattle.go_graphs.specs.Flags.{AreFlagsOf, is_flagged}
use Rattle.go_package_scopes.specs.KeptScopes.{IsMoved}
use Rattle.go_package_scopes.specs.PackageScopes.{at_declaration, IsScopeOf}
use Rattle.go_rules.specs.Scopes.{env_of, Scopes}
use Rattle.go_selectors.specs.Answers.{Decides}
use Rattle.go_soundness.specs.LostDeclarations.{MeetsAsks}
use Rattle.go_typings.proofs.Cells.{some_once}
use Rattle.go_typings.specs.DeclarationAsks.{Asks}
use Rattle.go_typings.specs.Declarations.{Declaration, declarations, Form}
use Rattle.go_typings.specs.PackageEnvironments.{Entries, environment}
use Rattle.go_typings.specs.Sources.{PackageSource, Setting}
use Rattle.go_met.proofs.BasesOfAll.{borrowed_there}
use Rattle.go_met.specs.inner.MetAsks.{AreMetThere, IsMetThere}
use Rattle.go_met.specs.inner.ToldBases.{TellBases, told_at}

-- what moved twice moved
pub moved_on : (a b c : Scopes) → IsMoved a b → IsMoved b c → IsMoved a c
moved_on a b c f g = g ∙ ap (λ (s : Scopes). record s { file = c.file; iota = c.iota }) f

-- a declaration is answered for where it stands
pub met_there : (c e : Scopes) (name : List ℕ) (xs : List Borrowed) (told : List (Option Base)) (i : ℕ) (x : Borrowed) (answer : Bool) → TellBases (declarations_of xs) told → i < length xs → x ≡ get_or xs i x → IsMoved c e
    → ((u : PackageSource) (number : ℕ) → u.name ≡ name → u.path ≡ e.path → TellsBase u number (form_of x.form) (told_at told i) → Decides answer (Asks (env_of (at_declaration e (declaration_of x))) u number (form_of x.form)))
    → IsMetThere c name (declarations_of xs) i answer
met_there c e name xs told i x answer tells h is moved decides u listed named pathed d at =
    let here : slice_get (declarations_of xs) i ≡ Some (declaration_of x) = borrowed_there xs i x h ∙ ap (λ (z : Borrowed). Some (declaration_of z)) (sym is) in
    let same : declaration_of x ≡ d = some_once (declaration_of x) d (sym here ∙ at) in
    subst (λ (z : Declaration). Decides answer (Asks (env_of (at_declaration c z)) u i z.form)) same
    (subst (λ (s : Scopes). Decides answer (Asks (env_of s) u i (form_of x.form))) (ap (λ (s : Scopes). at_declaration s (declaration_of x)) moved)
    (decides u i named (pathed ∙ sym (ap (λ (s : Scopes). s.path) moved)) (tells u listed i (declaration_of x) here)))

at_last : (bs : List Bool) (b : Bool) → get_or (bs ++ b ∷ []) (length bs) false ≡ b
at_last [] b = refl
at_last (x ∷ bs) b = at_last bs b

at_front : (bs : List Bool) (b : Bool) (n : ℕ) → n < length bs → get_or (bs ++ b ∷ []) n false ≡ get_or bs n false
at_front [] b n h = absurd (omega (arith, h))
at_front (x ∷ bs) b zero h = refl
at_front (x ∷ bs) b (suc n) h = at_front bs b n (omega (arith, h))

longer : (bs : List Bool) (b : Bool) → length (bs ++ b ∷ []) ≡ length bs + 1
longer [] b = refl
longer (x ∷ bs) b = let k = longer bs b in omega (arith, k)

-- the answers for the declarations below a number
pub record AreMetBelow (c : Scopes) (name : List ℕ) (ds : List Declaration) (i : ℕ) (answers : List Bool) : Type 0 where
  pub size : length answers ≡ i
  pub met : (n : ℕ) → n < i → IsMetThere c name ds n (get_or answers n false)

module _ (c : Scopes) (name : List ℕ) (ds : List Declaration) where
  pub met_none : (answers : List Bool) → answers ≡ [] → AreMetBelow c name ds 0 answers
  met_none answers e = record { size = ap length e; met = λ n h. absurd (omega (arith, h)) }

  pub met_next : (i : ℕ) (answers after : List Bool) (answer : Bool) → AreMetBelow c name ds i answers → IsMetThere c name ds i answer → after ≡ answers ++ answer ∷ [] → AreMetBelow c name ds (i + 1) after
  met_next i answers after answer m here made = record {
    size = ap length made ∙ longer answers answer ∙ ap (λ (k : ℕ). k + 1) m.size;
    met = λ n h. subst (λ (bs : List Bool). IsMetThere c name ds n (get_or bs n false)) (sym made) (by n (last n h));
  }
    where
      last : (n : ℕ) → n < i + 1 → (n < i) ⊎ (n ≡ i)
      last n h = grind (arith, h)

      by : (n : ℕ) → (n < i) ⊎ (n ≡ i) → IsMetThere c name ds n (get_or (answers ++ answer ∷ []) n false)
      by n (inl h) = subst (IsMetThere c name ds n) (sym (at_front answers answer n (let z = m.size in omega (arith, z, h)))) (m.met n h)
      by n (inr e) = subst (λ (k : ℕ). IsMetThere c name ds k (get_or (answers ++ answer ∷ []) k false)) (sym e) (subst (IsMetThere c name ds i) (sym (ap (λ (k : ℕ). get_or (answers ++ answer ∷ []) k false) (sym m.size) ∙ at_last answers answer)) here)

pub met_all : (c : Scopes) (name : List ℕ) (xs : List Borrowed) (i : ℕ) (answers : List Bool) → i ≡ length xs → AreMetBelow c name (declarations_of xs) i answers → AreMetThere c name (declarations_of xs) answers
met_all c name xs i answers e m = record {
  size = m.size ∙ e ∙ sym (as_long xs);
  met = λ n h. m.met n (let l = as_long xs in omega (arith, l, e, h));
}
  where
    as_long : (ys : List Borrowed) → length (declarations_of ys) ≡ length ys
    as_long [] = refl
    as_long (y ∷ ys) = ap suc (as_long ys)

-- ---- flags

slice_at : (ds : List Declaration) (n : ℕ) → n < length ds → (d : Declaration) × (slice_get ds n ≡ Some d)
slice_at [] n h = absurd (omega (arith, h))
slice_at (d ∷ ds) zero h = (d, refl)
slice_at (d ∷ ds) (suc n) h = slice_at ds n (omega (arith, h))

decided : (P : Type 0) (b : Bool) → Decides b P → P → b ≡ true
decided P true d p = refl
decided P false d p = absurd (d p)

pub met_flags : (s : Setting) (u : PackageSource) (a : Entries) (c : Scopes) (name : List ℕ) (ds : List Declaration) (answers : List Bool) → declarations u ≡ ds → u.name ≡ name → IsScopeOf s u a c → AreMetThere c name ds answers
    → ((d : Declaration) (n : ℕ) (f : Form) → Asks (env_of (at_declaration c d)) u n f ↔ Asks (environment s u a d) u n f) → AreFlagsOf (length (declarations u)) (MeetsAsks s u a) answers
met_flags s u a c name ds answers listed named is met same = record {
  size = long;
  sound = λ n h. sound n h (slice_at (declarations u) n (let w = flagged_within answers n h in omega (arith, w, long)));
  complete = λ n h m. decided (Asks (env_of (at_declaration c m.0)) u n m.0.form) (get_or answers n false) (there n m.0 m.1 h) ((same m.0 n m.0.form).1 m.2);
}
  where
    long : length answers ≡ length (declarations u)
    long = met.size ∙ ap length (sym listed)

    there : (n : ℕ) (d : Declaration) → slice_get (declarations u) n ≡ Some d → n < length (declarations u) → Decides (get_or answers n false) (Asks (env_of (at_declaration c d)) u n d.form)
    there n d at h = met.met n (let z = ap length listed in omega (arith, z, h)) u listed named (sym is.path) d (ap (λ (xs : List Declaration). slice_get xs n) (sym listed) ∙ at)

    sound : (n : ℕ) → is_flagged answers n ≡ true → (d : Declaration) × (slice_get (declarations u) n ≡ Some d) → MeetsAsks s u a n
    sound n h k =
        let w : n < length (declarations u) = (let v = flagged_within answers n h in omega (arith, v, long)) in
        (k.0, k.1, (same k.0 n k.0.form).0 (subst (λ b. Decides b (Asks (env_of (at_declaration c k.0)) u n k.0.form)) h (there n k.0 k.1 w)))
