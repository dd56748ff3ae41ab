-- In the scopes of a function, and in their images on the new side, an environment keeps what it keeps around the function.
use Rattle.std.proofs.Common.{◌≡◌, ℕ, Bool, List, refl, ap, ◌∙◌, subst, Option, Some, None}
use Rattle.std.specs.Option.{option_or}
use Rattle.go_model.specs.declared.types.names.Sel.{Sel}
use Rattle.go_model.specs.declared.types.names.TypeName.{TypeName}
use Rattle.go_model.specs.declared.types.package.Entity.{Entity}
use Rattle.go_model.specs.declared.types.term.Term.{Term}
use Rattle.go_rules.specs.Environments.{Env}
use Rattle.go_rules.specs.Expressions.{IsTypeName, NamesType, seen_operand}
use Rattle.go_rules.specs.Operands.{type_name}
use Rattle.go_rules.specs.Scopes.{innermost}
use Rattle.go_rules.specs.Universe.{iota_operand, predeclared_operand}
use Rattle.go_rules.specs.declared.operand.Mode.TheVariants as mode
use Rattle.go_rules.specs.declared.operand.Operand.{Operand}
use Rattle.go_rules.specs.declared.predeclared.Predeclared.{Predeclared}
use Rattle.go_rules.specs.declared.predeclared.Predeclared.TheVariants as p
use Rattle.go_rules.specs.declared.seen.Seen.{Seen}
use Rattle.go_rules.specs.declared.seen.Seen.TheVariants as seen
use Rattle.go_rules.proofs.OneName.{none_some, one_some}
use Rattle.go_statement_rules.specs.Scopes.{Scopes, at_place, within}
use Rattle.go_syntax.specs.declared.name.Name.{Name}
use Rattle.go_syntax.specs.declared.name.QualifiedName.{QualifiedName}
use Rattle.go_type_images.specs.Images.{Naming}
use Rattle.go_type_images.specs.declared.pair.TypePair.{TypePair}
use Rattle.go_client_types.specs.Keeping.{Keeps, SeenReached, seen_to}
use Rattle.go_client_statements.specs.LocalScopes.{LocalReached, ScopesReached, scopes_to}
use Rattle.go_client_statements.proofs.ScopeImages.{OptionLocal, innermost_local, innermost_to, local_seen, option_to}

-- ---- names of types don't depend on `iota`

no_type : (t : Term) → mode.Constant ≡ mode.TypeName → ⊥
no_type t e = absurd (cc)

iota_no_type : (i : Option ℕ) (t : Term) → iota_operand i ≡ Some (type_name t) → ⊥
iota_no_type None t e = none_some e
iota_no_type (Some n) t e = no_type t (ap (λ (o : Operand). o.mode) (one_some e))

predeclared_type_name : (i j : Option ℕ) (q : Predeclared) (t : Term) → predeclared_operand i q ≡ Some (type_name t) → predeclared_operand j q ≡ Some (type_name t)
predeclared_type_name i j p.Iota t e = absurd (iota_no_type i t e)
predeclared_type_name i j q t e = e

seen_type_name : (i j : Option ℕ) (m : Seen) (t : Term) → seen_operand i m ≡ Some (type_name t) → seen_operand j m ≡ Some (type_name t)
seen_type_name i j (seen.Local u) t e = e
seen_type_name i j (seen.LocalConst c v) t e = e
seen_type_name i j (seen.Object x) t e = e
seen_type_name i j (seen.Import path) t e = e
seen_type_name i j (seen.Universe q) t e = predeclared_type_name i j q t e

module _ (E G : Env) (same_meaning : (name : List ℕ) (m : Seen) → E.meaning name ≡ Some m → G.meaning name ≡ Some m) (same_object : (path name : List ℕ) (x : Entity) → E.object path name ≡ Some x → G.object path name ≡ Some x) where
  names_by : (q : Option Name) (n : Name) (t : Term) → NamesType E q n t → NamesType G q n t
  names_by None n t d = record { names = d.names; meaning = d.meaning; means = same_meaning n.text d.meaning d.means; denotes = seen_type_name E.iota G.iota d.meaning t d.denotes }
  names_by (Some q) n t d = record { names = d.names; path = d.path; object = d.object; imported = same_meaning q.text (seen.Import d.path) d.imported; exported = d.exported; declared = same_object d.path n.text d.object d.declared; denotes = d.denotes }

  -- a name of a type stands for the same where names mean the same
  pub same_names : (q : QualifiedName) (t : Term) → IsTypeName E q t → IsTypeName G q t
  same_names q t d = names_by q.qualifier q.name t d

module _ (E F : Env) (r : Naming) (pairs : List TypePair) (std : TypeName → Bool) (is_open : Sel → Bool) (K : Keeps E F r pairs std is_open) where
  abbrev Meant : Option Seen → Seen → Type 0
  Meant x m = (x ≡ Some (seen_to r m)) × SeenReached pairs std is_open m

  meaning_by : (o q x y : Option Seen) (m : Seen) → q ≡ option_to r o → OptionLocal pairs std is_open o → ((k : Seen) → x ≡ Some k → Meant y k) → option_or o x ≡ Some m → Meant (option_or q y) m
  meaning_by None q x y m e h outer f = let k = outer m f in (ap (λ z. option_or z y) e ∙ k.0, k.1)
  meaning_by (Some k) q x y m e h outer f = (ap (λ z. option_or z y) e ∙ ap (λ z. Some (seen_to r z)) (one_some f), subst (SeenReached pairs std is_open) (one_some f) (local_seen pairs std is_open k h))

  outer_import : (o x : Option Seen) (path : List ℕ) → OptionLocal pairs std is_open o → option_or o x ≡ Some (seen.Import path) → x ≡ Some (seen.Import path)
  outer_import None x path h e = e
  outer_import (Some k) x path h e = absurd (subst (LocalReached pairs std is_open) (one_some e) h)

  pub within_kept : (s : Scopes) → ScopesReached pairs std is_open s → Keeps (within E s) (within F (scopes_to r s)) r pairs std is_open
  within_kept s h = record {
    types = K.types;
    entries = K.entries;
    own_entries = K.own_entries;
    missing = K.missing;
    none_missing = K.none_missing;
    meanings = λ name m e. meaning_by (innermost s name) (innermost (scopes_to r s) name) (E.meaning name) (F.meaning name) m (innermost_to r s name) (innermost_local pairs std is_open s name h) (K.meanings name) e;
    objects = λ name path object x e i d. K.objects name path object x (outer_import (innermost s name) (E.meaning name) path (innermost_local pairs std is_open s name h) e) i d;
    path = K.path;
    bits = K.bits;
    iota = refl;
    client = K.client;
    barred = K.barred;
    barred_too = K.barred_too;
  }

  pub place_kept : (n : ℕ) → Keeps (at_place E n) (at_place F n) r pairs std is_open
  place_kept n = record {
    types = K.types;
    entries = K.entries;
    own_entries = K.own_entries;
    missing = K.missing;
    none_missing = K.none_missing;
    meanings = K.meanings;
    objects = K.objects;
    path = K.path;
    bits = K.bits;
    iota = refl;
    client = K.client;
    barred = K.barred;
    barred_too = K.barred_too;
  }
