-- What is found in the scopes of a typed package is found in its environment.
use Rattle.std.proofs.Common.{◌≡◌, ℕ, Option, None, Some, sym, subst}
use Rattle.go_client_typings.specs.Bodies.{AreTypedBodies, HasUntyped}
use Rattle.go_client_typings.specs.Clients.{Blocks, ComesFirst, IsUntypedAt, blocks_in}
use Rattle.go_client_typings.proofs.SamePlaces.{bodies_f, untyped_f}
use Rattle.go_clients.proofs.OtherIota.{bodies_alike, untyped_alike, with_iota}
use Rattle.go_clients.specs.inner.Scopes.{KeepsTyping}
use Rattle.go_clients.specs.inner.Told.{At, Finds, FindsIn, FindsUnder, IsFirstAmong, turned}
use Rattle.go_package_scopes.specs.PackageScopes.{IsScopeOf, at_declaration}
use Rattle.go_rules.specs.Environments.{Env}
use Rattle.go_rules.specs.Growth.{Grows}
use Rattle.go_rules.specs.Scopes.{Scopes as Known, env_of}
use Rattle.go_soundness.specs.Settled.{AreAll}
use Rattle.go_syntax.specs.declared.name.Place.{Place}
use Rattle.go_typings.specs.Declarations.{Declaration, declarations}
use Rattle.go_typings.specs.PackageEnvironments.{Entries, environment}
use Rattle.go_typings.specs.Sources.{PackageSource, Setting}
use Rattle.go_typings.specs.Typings.{IsTyping}

-- scopes that keep the entries of all keep those of a typing
pub keeps_typing : (s : Setting) (u : PackageSource) → ((a : Entries) → IsTyping s u a → AreAll s u a) → ((a b : Entries) → AreAll s u a → AreAll s u b → (n : ℕ) → a n ≡ b n) → (b : Entries) → AreAll s u b → (c : Known) → IsScopeOf s u b c → KeepsTyping s u c
keeps_typing s u all one b k c i = λ a t. subst (λ (z : Entries). IsScopeOf s u z c) (λ j n. one b a k (all a t) n j) i

module _ (s : Setting) (u : PackageSource) (blocks : Blocks) (a : Entries) (c : Known) (i : IsScopeOf s u a c)
    (grows : (d : Declaration) → Grows (env_of (at_declaration c d)) (environment s u a d)) (back : (d : Declaration) → Grows (environment s u a d) (env_of (at_declaration c d))) where
  -- what stands round a declaration: the scopes that it stands in, and the package's environment there
  abbrev here : Declaration → Env
  here d = env_of (at_declaration c d)

  abbrev there : Declaration → Env
  there d = environment s u a d

  -- bodies are typed where `iota` has no value
  without_value : (d : Declaration) → At c blocks d ≡ with_iota (here d) None
  without_value d = λ j. with_iota (env_of (record (turned c d) { opened = sym i.opened j })) None

  typed_there : (d : Declaration) → AreTypedBodies (At c blocks d) (blocks_in blocks d.file) d.form → AreTypedBodies (there d) (blocks_in blocks d.file) d.form
  typed_there d t =
      bodies_f (here d) (there d) (blocks_in blocks d.file) (grows d) d.form
      (bodies_alike (with_iota (here d) None) (here d).iota (blocks_in blocks d.file) d.form (subst (λ (E : Env). AreTypedBodies E (blocks_in blocks d.file) d.form) (without_value d) t))

  untyped_there : (d : Declaration) (q : ℕ) → HasUntyped (At c blocks d) (blocks_in blocks d.file) d.form q → HasUntyped (there d) (blocks_in blocks d.file) d.form q
  untyped_there d q t =
      untyped_f (here d) (there d) (blocks_in blocks d.file) d.form q (grows d) (back d)
      (untyped_alike (with_iota (here d) None) (here d).iota (blocks_in blocks d.file) d.form q (subst (λ (E : Env). HasUntyped E (blocks_in blocks d.file) d.form q) (without_value d) t))

  untyped_here : (d : Declaration) (q : ℕ) → HasUntyped (there d) (blocks_in blocks d.file) d.form q → HasUntyped (At c blocks d) (blocks_in blocks d.file) d.form q
  untyped_here d q t =
      subst (λ (E : Env). HasUntyped E (blocks_in blocks d.file) d.form q) (sym (without_value d))
      (untyped_alike (here d) None (blocks_in blocks d.file) d.form q (untyped_f (there d) (here d) (blocks_in blocks d.file) d.form q (back d) (grows d) t))

  first_there : (p : Place) → IsFirstAmong c blocks (declarations u) p → (q : Place) → IsUntypedAt s u blocks a q → ComesFirst p q
  first_there p k q n =
      let d = n.declaration in
      subst (ComesFirst p) (λ j. record { file = n.file j; offset = q.offset }) (k.first d q.offset n.has (untyped_here d q.offset n.untyped))

  pub found_there : (r : Option Place) → FindsIn c blocks (declarations u) r → FindsUnder s u blocks a r
  found_there None k = λ d h. typed_there d (k d h)
  found_there (Some p) k = record {
    is = record { declaration = k.declaration; has = k.has; file = k.file; untyped = untyped_there k.declaration p.offset k.untyped };
    first = first_there p k;
  }

pub found_under : (s : Setting) (u : PackageSource) (blocks : Blocks) (c : Known)
    → ((a : Entries) (d : Declaration) → IsScopeOf s u a c → Grows (env_of (at_declaration c d)) (environment s u a d)) → ((a : Entries) (d : Declaration) → IsScopeOf s u a c → Grows (environment s u a d) (env_of (at_declaration c d)))
    → KeepsTyping s u c → (r : Option Place) → FindsIn c blocks (declarations u) r → Finds s u blocks r
found_under s u blocks c grows back keeps r k = λ a t. let i = keeps a t in found_there s u blocks a c i (λ d. grows a d i) (λ d. back a d i) r k
