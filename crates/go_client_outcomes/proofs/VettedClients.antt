-- Something is told of each client.
use Rattle.std.proofs.Common.{◌≡◌, ◌≢◌, ◌⊎◌, ◌<◌, ℕ, zero, suc, Bool, true, false, List, [], ◌∷◌, length, map, None, Some, refl, sym, ◌∙◌, subst, inl, inr, arith}
use Rattle.go_base.proofs.Ordered.{first_none}
use Rattle.go_base.specs.Keys.{first_with}
use Rattle.go_base.specs.Lists.{Has}
use Rattle.go_client_typings.specs.Bodies.{AreTypedBodies, HasBody, HasUntyped, untyped_itself, untyped_statement}
use Rattle.go_client_typings.specs.Clients.{Blocks, BodiesAreTyped, ComesFirst, IsProfileClient, IsTypedClient, IsUntypedAt, IsUntypedClient, IsVetted, blocks_in, setting, untyped_body, untyped_declaration}
use Rattle.go_client_typings.specs.declared.vetted.Vetted.{Vetted}
use Rattle.go_client_typings.specs.declared.vetted.Vetted.TheVariants as vetted
use Rattle.go_existence.specs.Existence.{NotNone}
use Rattle.go_existence.proofs.DoubleNegation.{decided, less_or, of_below, of_each, so, sure, bind}
use Rattle.go_existence.proofs.FiniteSets.{has_map}
use Rattle.go_existence.proofs.LeastNumbers.{least, least_or_none}
use Rattle.go_model.specs.declared.types.package.Package.{Package}
use Rattle.go_model.specs.types.Terms.{client_path}
use Rattle.go_model.specs.worlds.Worlds.{IsWorld, Packages, path_of}
use Rattle.go_rules.specs.Environments.{Env}
use Rattle.go_soundness.proofs.JoinedTypings.{sound_typed}
use Rattle.go_soundness.proofs.WorldsApart.{world_apart}
use Rattle.go_soundness.specs.Apart.{IsApart}
use Rattle.go_statement_rules.specs.Functions.{Run}
use Rattle.go_statement_rules.specs.Places.{IsUntypedPlace}
use Rattle.go_syntax.specs.declared.name.Place.{Place}
use Rattle.go_syntax.specs.declared.statement.LiteralBlock.{LiteralBlock}
use Rattle.go_typings.specs.Declarations.{Declaration, Form, declarations}
use Rattle.go_typings.specs.PackageEnvironments.{Entries, environment}
use Rattle.go_typings.specs.Redeclarations.{IsRedeclared}
use Rattle.go_typings.specs.Refusals.{IsMissing, missing_import, offset_of, place_of, redeclared, unsound}
use Rattle.go_typings.specs.Sources.{PackageSource, Setting}
use Rattle.go_typings.specs.Typings.{IsSound, IsTyping}
use Rattle.std.proofs.lemmas.Slice.Eq.{bytes_eq-Decides}
use Rattle.std.specs.Prelude.{slice_get}
use Rattle.std.specs.Str.{bytes_eq}

there : {A : Type 0} (xs : List A) (n : ℕ) → n < length xs → (x : A) × (slice_get xs n ≡ Some x)
there [] n h = absurd (omega (arith, h))
there (x ∷ xs) zero h = (x, refl)
there (x ∷ xs) (suc n) h = there xs n (omega (arith, h))

-- a declaration whose bodies aren't typed has a place that isn't
untyped_there : (E : Env) (blocks : List LiteralBlock) (f : Form) → (AreTypedBodies E blocks f → ⊥) → NotNone ((p : ℕ) × HasUntyped E blocks f p)
untyped_there E blocks f never = so (decided ((w : Run) × (place : ℕ) × HasBody E blocks f w × IsUntypedPlace E blocks w place)) (λ d. elim d [
  | inl k ↦ (k.1, untyped_statement k.2 k.3)
  | inr none ↦ (offset_of f, untyped_itself never (λ w place h k. none (w, place, h, k)))
])

-- ---- the first of some places

module _ (P : Place → Type 0) where
  abbrev AtFile : ℕ → Type 0
  AtFile n = (offset : ℕ) × P (record { file = n; offset = offset })

  abbrev AtOffset : ℕ → ℕ → Type 0
  AtOffset n k = P (record { file = n; offset = k })

  comes_first : (f o : ℕ) → ((k : ℕ) → k < f → AtFile k → ⊥) → ((k : ℕ) → k < o → AtOffset f k → ⊥) → (q : Place) → P q → ComesFirst (record { file = f; offset = o }) q
  comes_first f o files offsets q h = elim (less_or f q.file) [
    | inl less ↦ inl less
    | inr rest ↦ elim (less_or q.file f) [
      | inl less ↦ absurd (files q.file less (q.offset, h))
      | inr more ↦ (
          let same : q.file ≡ f = omega (arith, rest, more) in
          inr (sym same, elim (less_or q.offset o) [ inl less ↦ absurd (offsets q.offset less (subst (λ (n : ℕ). AtOffset n q.offset) same h)) | inr l ↦ l ])
          )
    ]
  ]

  pub first_place : (p : Place) → P p → NotNone ((q : Place) × P q × ((r : Place) → P r → ComesFirst q r))
  first_place p h = bind (least AtFile p.file (p.offset, h)) (λ f. so (least (AtOffset f.0) f.1.0.0 f.1.0.1) (λ o.
      (record { file = f.0; offset = o.0 }, o.1.0, comes_first f.0 o.0 f.1.1 o.1.1)))

-- ---- a client

module _ (s : Setting) (u : PackageSource) (blocks : Blocks) (apart : IsApart s u) where
  module _ (a : Entries) where
    bodies_end : NotNone (BodiesAreTyped s u blocks a ⊎ ((p : Place) × IsUntypedAt s u blocks a p))
    bodies_end = bind (decided ((p : Place) × IsUntypedAt s u blocks a p)) (λ d. elim d [
      | inl p ↦ sure (inr p)
      | inr never ↦ so (of_each (λ (d : Declaration). AreTypedBodies (environment s u a d) (blocks_in blocks d.file) d.form) (declarations u) (λ d h none.
          untyped_there (environment s u a d) (blocks_in blocks d.file) d.form none (λ k.
          never (record { file = d.file; offset = k.0 }, record { declaration = d; has = h; file = refl; untyped = k.1 })))) inl
    ])

  abbrev Ends : Type 0
  Ends = IsTypedClient s u blocks ⊎ ((p : Place) × IsUntypedClient s u blocks p)

  module _ (once : (q : Place) → IsRedeclared u q → ⊥) (found : (q : Place) → IsMissing u q → ⊥) where
    typed : (a : Entries) → IsTyping s u a → NotNone Ends
    typed a t = bind (bodies_end a) (λ k. elim k [
      | inl all ↦ sure (inl (record { once = once; found = found; entries = a; typing = t; bodies = all }))
      | inr p ↦ so (first_place (IsUntypedAt s u blocks a) p.0 p.1) (λ q. inr (q.0, untyped_body once found t (record { is = q.1; first = q.2 })))
    ])

    abbrev IsLost : ℕ → Type 0
    IsLost n = (n < length (declarations u)) × (IsSound s u n → ⊥)

    lost : (n : ℕ) → IsLost n → ((m : ℕ) → m < n → IsSound s u m) → Ends
    lost n l before =
        let d = there (declarations u) n l.0 in
        inr (place_of d.0, untyped_declaration (unsound (place_of d.0)) (once, found, (n, record { is = l.0; unsound = l.1; first = before }, (d.0, d.1, refl))) refl)

    declared : NotNone Ends
    declared = bind (least_or_none IsLost (length (declarations u))) (λ k. elim k [
      | inl m ↦ so (of_below (IsSound s u) m.0 (λ n l never. (let i = m.2.0.0 in m.2.1 n l (omega (arith, l, i), never)))) (lost m.0 m.2.0)
      | inr none ↦ bind (of_below (IsSound s u) (length (declarations u)) (λ n l never. none n l (l, never))) (λ all. let t = sound_typed s u apart all in typed t.0 t.1)
    ])

  pub client_ends : NotNone (IsTypedClient s u blocks ⊎ ((p : Place) × IsUntypedClient s u blocks p))
  client_ends = bind (decided ((q : Place) × IsRedeclared u q)) (λ d. elim d [
    | inl q ↦ sure (inr (q.0, untyped_declaration (redeclared q.0) q.1 refl))
    | inr once ↦ bind (decided ((q : Place) × IsMissing u q)) (λ e. elim e [
      | inl q ↦ sure (inr (q.0, untyped_declaration (missing_import q.0) ((λ p i. once (p, i)), q.1) refl))
      | inr found ↦ declared (λ p i. once (p, i)) (λ p i. found (p, i))
    ])
  ])

-- ---- over a world

-- no package of a world has the path of a client
absent : (w : Packages) → (Has (map path_of w.packages) client_path → ⊥) → first_with path_of w.packages client_path ≡ None
absent w never = first_none path_of w.packages client_path (λ x h. unlike x h (bytes_eq (path_of x) client_path) refl)
  where
    unlike : (x : Package) → Has w.packages x → (b : Bool) → bytes_eq (path_of x) client_path ≡ b → bytes_eq (path_of x) client_path ≡ false
    unlike x h true e = absurd (never (subst (Has (map path_of w.packages)) ((bytes_eq-Decides (path_of x) client_path).0 e) (has_map path_of w.packages x h)))
    unlike x h false e = e

pub vetted_end : (world : Packages) (bits : ℕ) (u : PackageSource) (blocks : Blocks) → IsWorld world → (Has (map path_of world.packages) client_path → ⊥) → u.path ≡ client_path → NotNone ((v : Vetted) × IsVetted world bits u blocks v)
vetted_end world bits u blocks is foreign path = bind (decided (IsProfileClient world bits u blocks)) (λ d. elim d [
  | inl p ↦ sure (vetted.InProfile, p)
  | inr never ↦ (
      let some : u.path ≢ [] = λ e. some_path (sym path ∙ e) in
      let new : first_with path_of world.packages u.path ≡ None = subst (λ (k : List ℕ). first_with path_of world.packages k ≡ None) (sym path) (absent world foreign) in
      so (client_ends (setting world bits false) u blocks (world_apart (setting world bits false) u is some new)) (λ k. elim k [
        | inl t ↦ (vetted.TypedOutsideProfile, (t, never))
        | inr p ↦ (vetted.Untyped p.0, p.1)
      ])
      )
])
  where
    some_path : client_path ≡ [] → ⊥
    some_path e = cc
