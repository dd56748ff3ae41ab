-- What an environment of a client keeps of another one, where some of the client's types and names may not be had yet.
-- Own: all that the typing of a client asks of the rules.
use Rattle.std.specs.Prelude.{◌≡◌, ◌≢◌, ℕ, Bool, true, false, List, [], Some}
use Rattle.go_base.specs.Lists.{Has}
use Rattle.go_model.specs.declared.types.names.Sel.{Sel}
use Rattle.go_model.specs.declared.types.names.TypeName.{TypeName}
use Rattle.go_model.specs.declared.types.package.Defined.{Defined}
use Rattle.go_model.specs.declared.types.package.Entity.{Entity}
use Rattle.go_model.specs.declared.types.package.Entity.TheVariants as entity
use Rattle.go_model.specs.declared.types.package.MethodOf.{MethodOf}
use Rattle.go_model.specs.declared.types.term.Signature.{Signature}
use Rattle.go_model.specs.declared.types.term.Term.{Term, out-Term}
use Rattle.go_model.specs.types.Imports.{is_imported}
use Rattle.go_model.specs.types.Terms.{client_path}
use Rattle.go_model.specs.types.Underlying.{entry}
use Rattle.go_rules.specs.Environments.{Env, is_exported}
use Rattle.go_rules.specs.declared.seen.Seen.{Seen}
use Rattle.go_rules.specs.declared.seen.Seen.TheVariants as seen
use Rattle.go_type_images.specs.EntryImages.{const_to, entity_to, entry_to}
use Rattle.go_type_images.specs.Images.{Naming, image, same_sels}
use Rattle.go_type_images.specs.Parts.{function_type, parts}
use Rattle.go_type_images.specs.declared.pair.TypePair.{TypePair}
use Rattle.go_client_types.specs.Preserving.{Preserves}
use Rattle.go_client_types.specs.Reached.{ConstReached, IsClientSel, IsMade, IsReached}

-- the entry of a client's own type: what is underneath is made of types that it reaches, and so are the signatures of its methods, whose labels it writes
pub record IsOwnEntry (pairs : List TypePair) (std : TypeName → Bool) (is_open : Sel → Bool) (d : Defined) : Type 0 where
  pub made : IsMade (out-Term d.underlying)
  pub reached : (u : Term) → Has (parts (out-Term d.underlying)) u → IsReached pairs std is_open u
  pub signatures : (m : MethodOf) → Has d.methods m → IsReached pairs std is_open (function_type m.signature)
  pub labels : (m : MethodOf) → Has d.methods m → IsClientSel m.sel

-- the image of what a name means
abbrev pub seen_to : Naming → Seen → Seen
seen_to r (seen.Local t) = seen.Local (image r same_sels t)
seen_to r (seen.LocalConst c v) = seen.LocalConst (const_to r c) v
seen_to r (seen.Object x) = seen.Object (entity_to r x)
seen_to r (seen.Import path) = seen.Import path
seen_to r (seen.Universe p) = seen.Universe p

-- of types that the client reaches
abbrev pub EntityReached : List TypePair → (TypeName → Bool) → (Sel → Bool) → Entity → Type 0
EntityReached pairs std is_open (entity.Const c v) = ConstReached pairs std is_open c
EntityReached pairs std is_open (entity.Var t) = IsReached pairs std is_open t
EntityReached pairs std is_open (entity.Function g) = IsReached pairs std is_open (function_type g)
EntityReached pairs std is_open (entity.TypeOf t) = IsReached pairs std is_open t

abbrev pub SeenReached : List TypePair → (TypeName → Bool) → (Sel → Bool) → Seen → Type 0
SeenReached pairs std is_open (seen.Local t) = IsReached pairs std is_open t
SeenReached pairs std is_open (seen.LocalConst c v) = ConstReached pairs std is_open c
SeenReached pairs std is_open (seen.Object x) = EntityReached pairs std is_open x
SeenReached pairs std is_open m = Unit {0}

-- the new object of an import: the image, or a variable that a function became
pub data IsKeptEntity (r : Naming) : Entity → Entity → Type 0 where
  stays : {x : Entity} → IsKeptEntity r x (entity_to r x)
  varies : {g : Signature} → IsKeptEntity r (entity.Function g) (entity.Var (image r same_sels (function_type g)))

-- the new environment keeps what the old one tells the client
pub record Keeps (E F : Env) (r : Naming) (pairs : List TypePair) (std : TypeName → Bool) (is_open : Sel → Bool) : Type 0 where
  pub types : Preserves E.table F.table r pairs std is_open
  -- the client's own types have the images of their entries
  pub entries : (n : TypeName) → is_imported n ≡ false → entry F.table n ≡ entry_to r (entry E.table n)
  -- which are made of what the client reaches
  pub own_entries : (n : TypeName) (d : Defined) → is_imported n ≡ false → entry E.table n ≡ Some d → IsOwnEntry pairs std is_open d
  -- the same methods are missing of its own types, and none of others
  pub missing : (n : TypeName) → is_imported n ≡ false → F.missing n ≡ E.missing n
  pub none_missing : (n : TypeName) → n.path ≢ client_path → (E.missing n ≡ []) × (F.missing n ≡ [])
  -- a name means the image of what it meant
  pub meanings : (name : List ℕ) (m : Seen) → E.meaning name ≡ Some m → (F.meaning name ≡ Some (seen_to r m)) × SeenReached pairs std is_open m
  -- an exported object of an import has a new one
  pub objects : (name path object : List ℕ) (x : Entity) → E.meaning name ≡ Some (seen.Import path) → is_exported object ≡ true → E.object path object ≡ Some x → (y : Entity) × (F.object path object ≡ Some y) × IsKeptEntity r x y × EntityReached pairs std is_open x
  -- the same package, word size and `iota`, and both are of a client of the profile
  pub path : F.path ≡ E.path
  pub bits : F.bits ≡ E.bits
  pub iota : F.iota ≡ E.iota
  pub client : E.path ≡ client_path
  pub barred : E.profile ≡ true
  pub barred_too : F.profile ≡ true
