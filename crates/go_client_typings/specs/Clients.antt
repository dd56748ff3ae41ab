-- When a client is typed, bodies and all, and in the profile; and the place that is told of one that isn't typed.
-- Public source: Go specification, "Packages", "Declarations and scope" and "Blocks". Own: the profile, and the order of causes: a name that is declared twice, an import that isn't found, a
-- declaration without a typing, a statement. Bodies are typed once all declarations are, in the environment of the whole package.
use Rattle.std.specs.Prelude.{◌≡◌, ◌<◌, ◌≤◌, ◌⊎◌, ℕ, Bool, true, false, List, [], get_or}
use Rattle.go_base.specs.Lists.{Has}
use Rattle.go_client_typings.specs.Bodies.{AreTypedBodies, HasUntyped}
use Rattle.go_client_typings.specs.declared.vetted.Vetted.{Vetted}
use Rattle.go_client_typings.specs.declared.vetted.Vetted.TheVariants as vetted
use Rattle.go_model.specs.worlds.Worlds.{Packages}
use Rattle.go_syntax.specs.declared.name.Place.{Place}
use Rattle.go_syntax.specs.declared.statement.LiteralBlock.{LiteralBlock}
use Rattle.go_typings.specs.Declarations.{Declaration, declarations}
use Rattle.go_typings.specs.PackageEnvironments.{Entries, environment}
use Rattle.go_typings.specs.Redeclarations.{IsRedeclared}
use Rattle.go_typings.specs.Refusals.{IsMissing, IsRefused, Refusal, redeclared, missing_import, unsound}
use Rattle.go_typings.specs.Sources.{PackageSource, Setting}
use Rattle.go_typings.specs.Typings.{IsTyping}

-- the parsed blocks of the files, by their numbers
abbrev pub Blocks : Type 0
Blocks = List (List LiteralBlock)

abbrev pub blocks_in : Blocks → ℕ → List LiteralBlock
blocks_in blocks file = get_or blocks file []

-- the first place comes before the other, or is the same
abbrev pub ComesFirst : Place → Place → Type 0
ComesFirst p q = (p.file < q.file) ⊎ ((p.file ≡ q.file) × (p.offset ≤ q.offset))

abbrev pub refused_at : Refusal → Place
refused_at (redeclared p) = p
refused_at (missing_import p) = p
refused_at (unsound p) = p

module _ (s : Setting) (u : PackageSource) (blocks : Blocks) where
  module _ (a : Entries) where
    -- the bodies in each declaration are typed
    abbrev pub BodiesAreTyped : Type 0
    BodiesAreTyped = (d : Declaration) → Has (declarations u) d → AreTypedBodies (environment s u a d) (blocks_in blocks d.file) d.form

    -- the place of a body that isn't
    pub record IsUntypedAt (p : Place) : Type 0 where
      pub declaration : Declaration
      pub has : Has (declarations u) declaration
      pub file : declaration.file ≡ p.file
      pub untyped : HasUntyped (environment s u a declaration) (blocks_in blocks declaration.file) declaration.form p.offset

    pub record IsFirstUntyped (p : Place) : Type 0 where
      pub is : IsUntypedAt p
      pub first : (q : Place) → IsUntypedAt q → ComesFirst p q

  -- the client is typed: no name is declared twice, each import is found, its declarations have a typing, and its bodies are typed under that
  pub record IsTypedClient : Type 0 where
    pub once : (q : Place) → IsRedeclared u q → ⊥
    pub found : (q : Place) → IsMissing u q → ⊥
    pub entries : Entries
    pub typing : IsTyping s u entries
    pub bodies : BodiesAreTyped entries

  -- it isn't, and this is the place: of what its declarations are refused for, else of the first body that isn't typed
  pub data IsUntypedClient : Place → Type 0 where
    untyped_declaration : {p : Place} (r : Refusal) → IsRefused s u r → refused_at r ≡ p → IsUntypedClient p
    untyped_body : {p : Place} {a : Entries} → ((q : Place) → IsRedeclared u q → ⊥) → ((q : Place) → IsMissing u q → ⊥) → IsTyping s u a → IsFirstUntyped a p → IsUntypedClient p

-- the same setting without the profile's flag
abbrev pub without_flag : Setting → Setting
without_flag s = record { world = s.world; bits = s.bits; profile = false }

-- the setting of a client over these packages, in the profile or not
abbrev pub setting : Packages → ℕ → Bool → Setting
setting world bits profile = record { world = world; bits = bits; profile = profile }

module _ (world : Packages) (bits : ℕ) (u : PackageSource) (blocks : Blocks) where
  -- the client is typed in the profile
  abbrev pub IsProfileClient : Type 0
  IsProfileClient = IsTypedClient (setting world bits true) u blocks

  -- this is told of the client
  abbrev pub IsVetted : Vetted → Type 0
  IsVetted vetted.InProfile = IsProfileClient
  IsVetted vetted.TypedOutsideProfile = IsTypedClient (setting world bits false) u blocks × (IsProfileClient → ⊥)
  IsVetted (vetted.Untyped p) = IsUntypedClient (setting world bits false) u blocks p
