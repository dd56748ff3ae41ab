-- The images of scopes: what names mean in them, and what is declared in them.
use Rattle.std.proofs.Common.{◌≡◌, ℕ, Bool, true, false, cond, List, [], ◌∷◌, map, refl, ap, ◌∙◌, subst, Option, Some, None}
use Rattle.std.specs.BTreeMap.{insert_entry}
use Rattle.std.specs.Cmp.Lexicographic.{slice_cmp}
use Rattle.std.specs.Option.{option_or}
use Rattle.std.specs.Ordering.{match_ordering, nat_cmp}
use Rattle.std.specs.Str.{bytes_eq}
use Rattle.std.specs.declared.cmp.Ordering.{Ordering}
use Rattle.std.specs.declared.cmp.Ordering.TheVariants.{Less, Equal, Greater}
use Rattle.go_base.specs.Lists.{Each}
use Rattle.go_model.specs.declared.types.names.Sel.{Sel}
use Rattle.go_model.specs.declared.types.names.TypeName.{TypeName}
use Rattle.go_model.specs.declared.types.term.Term.{Term}
use Rattle.go_rules.specs.Names.{Named, value_at, with_value}
use Rattle.go_rules.specs.Scopes.{innermost}
use Rattle.go_rules.specs.declared.seen.Seen.{Seen}
use Rattle.go_rules.specs.declared.seen.Seen.TheVariants as seen
use Rattle.go_statement_rules.specs.Scopes.{Scopes, Declares, declares_blank, declares_name, declares_none, declares_nothing, locals}
use Rattle.go_syntax.specs.declared.name.Name.{Name}
use Rattle.go_type_images.specs.Images.{Naming, image, same_sels}
use Rattle.go_type_images.specs.declared.pair.TypePair.{TypePair}
use Rattle.go_client_types.specs.Keeping.{SeenReached, seen_to}
use Rattle.go_client_types.specs.Reached.{IsReached}
use Rattle.go_client_statements.specs.LocalScopes.{LocalReached, ScopeReached, ScopesReached, scope_to, scopes_to}

module _ (r : Naming) where
  abbrev pub option_to : Option Seen → Option Seen
  option_to None = None
  option_to (Some m) = Some (seen_to r m)

  -- ---- look-ups

  here_or_on : (b : Bool) (m : Seen) (x y : Option Seen) → x ≡ option_to y → cond b (Some (seen_to r m)) x ≡ option_to (cond b (Some m) y)
  here_or_on true m x y e = refl
  here_or_on false m x y e = e

  pub value_to : (scope : Named Seen) (name : List ℕ) → value_at (scope_to r scope) name ≡ option_to (value_at scope name)
  value_to [] name = refl
  value_to (x ∷ xs) name = here_or_on (bytes_eq name x.0) x.1 (value_at (scope_to r xs) name) (value_at xs name) (value_to xs name)

  inner_or_outer : (x : Option Seen) (y z : Option Seen) → y ≡ option_to z → option_or (option_to x) y ≡ option_to (option_or x z)
  inner_or_outer None y z e = e
  inner_or_outer (Some m) y z e = refl

  pub innermost_to : (s : Scopes) (name : List ℕ) → innermost (scopes_to r s) name ≡ option_to (innermost s name)
  innermost_to [] name = refl
  innermost_to (scope ∷ outer) name =
      ap (λ x. option_or x (innermost (scopes_to r outer) name)) (value_to scope name) ∙ inner_or_outer (value_at scope name) (innermost (scopes_to r outer) name) (innermost outer name) (innermost_to outer name)

  -- ---- what is declared

  placed : (o : Ordering) (x : List ℕ × Seen) (xs ys : Named Seen) (name : List ℕ) (m : Seen) → scope_to r ys ≡ insert_entry (slice_cmp nat_cmp) (scope_to r xs) name (seen_to r m)
      → scope_to r (match_ordering o ((name, m) ∷ x ∷ xs) ((x.0, m) ∷ xs) (x ∷ ys)) ≡ match_ordering o ((name, seen_to r m) ∷ scope_to r (x ∷ xs)) ((x.0, seen_to r m) ∷ scope_to r xs) ((x.0, seen_to r x.1) ∷ insert_entry (slice_cmp nat_cmp) (scope_to r xs) name (seen_to r m))
  placed Less x xs ys name m e = refl
  placed Equal x xs ys name m e = refl
  placed Greater x xs ys name m e = ap (λ zs. (x.0, seen_to r x.1) ∷ zs) e

  pub with_to : (scope : Named Seen) (name : List ℕ) (m : Seen) → scope_to r (with_value scope name m) ≡ with_value (scope_to r scope) name (seen_to r m)
  with_to [] name m = refl
  with_to (x ∷ xs) name m = placed (slice_cmp nat_cmp name x.0) x xs (with_value xs name m) name m (with_to xs name m)

  pub declares_to : {s t : Scopes} {ns : List (Option Name)} {ms : List Seen} → Declares s ns ms t → Declares (scopes_to r s) ns (map (seen_to r) ms) (scopes_to r t)
  declares_to declares_none = declares_none
  declares_to (declares_nothing d) = declares_nothing (declares_to d)
  declares_to (declares_blank b d) = declares_blank b (declares_to d)
  declares_to {t = t} (declares_name {scope = scope} {outer = outer} {n = n} {ns = ns} {m = m} {ms = ms} b e d) =
      declares_name b (value_to scope n.text ∙ ap option_to e) (subst (λ x. Declares (x ∷ scopes_to r outer) ns (map (seen_to r) ms) (scopes_to r t)) (with_to scope n.text m) (declares_to d))

  -- variables of the images
  pub locals_to : (ts : List Term) → map (seen_to r) (locals ts) ≡ locals (map (image r same_sels) ts)
  locals_to [] = refl
  locals_to (t ∷ ts) = ap (λ xs. seen.Local (image r same_sels t) ∷ xs) (locals_to ts)

module _ (pairs : List TypePair) (std : TypeName → Bool) (is_open : Sel → Bool) where
  abbrev L : Seen → Type 0
  L = LocalReached pairs std is_open

  abbrev pub OptionLocal : Option Seen → Type 0
  OptionLocal None = Unit {0}
  OptionLocal (Some m) = L m

  pub local_seen : (m : Seen) → L m → SeenReached pairs std is_open m
  local_seen (seen.Local t) h = h
  local_seen (seen.LocalConst c v) h = h
  local_seen (seen.Object x) h = h
  local_seen (seen.Import path) h = absurd h
  local_seen (seen.Universe p) h = h

  either_local : (b : Bool) (m : Seen) (x : Option Seen) → L m → OptionLocal x → OptionLocal (cond b (Some m) x)
  either_local true m x h k = h
  either_local false m x h k = k

  pub value_local : (scope : Named Seen) (name : List ℕ) → ScopeReached pairs std is_open scope → OptionLocal (value_at scope name)
  value_local [] name h = tt
  value_local (x ∷ xs) name h = either_local (bytes_eq name x.0) x.1 (value_at xs name) h.0 (value_local xs name h.1)

  inner_local : (x y : Option Seen) → OptionLocal x → OptionLocal y → OptionLocal (option_or x y)
  inner_local None y h k = k
  inner_local (Some m) y h k = h

  pub innermost_local : (s : Scopes) (name : List ℕ) → ScopesReached pairs std is_open s → OptionLocal (innermost s name)
  innermost_local [] name h = tt
  innermost_local (scope ∷ outer) name h = inner_local (value_at scope name) (innermost outer name) (value_local scope name h.0) (innermost_local outer name h.1)

  placed_local : (o : Ordering) (x : List ℕ × Seen) (xs ys : Named Seen) (name : List ℕ) (m : Seen) → L x.1 → ScopeReached pairs std is_open xs → ScopeReached pairs std is_open ys → L m
      → ScopeReached pairs std is_open (match_ordering o ((name, m) ∷ x ∷ xs) ((x.0, m) ∷ xs) (x ∷ ys))
  placed_local Less x xs ys name m h k j l = (l, (h, k))
  placed_local Equal x xs ys name m h k j l = (l, k)
  placed_local Greater x xs ys name m h k j l = (h, j)

  with_local : (scope : Named Seen) (name : List ℕ) (m : Seen) → ScopeReached pairs std is_open scope → L m → ScopeReached pairs std is_open (with_value scope name m)
  with_local [] name m h l = (l, tt)
  with_local (x ∷ xs) name m h l = placed_local (slice_cmp nat_cmp name x.0) x xs (with_value xs name m) name m h.0 h.1 (with_local xs name m h.1 l) l

  pub declares_local : {s t : Scopes} {ns : List (Option Name)} {ms : List Seen} → ScopesReached pairs std is_open s → Each L ms → Declares s ns ms t → ScopesReached pairs std is_open t
  declares_local h k declares_none = h
  declares_local h k (declares_nothing d) = declares_local h k.1 d
  declares_local h k (declares_blank b d) = declares_local h k.1 d
  declares_local h k (declares_name {scope = scope} {n = n} {m = m} b e d) = declares_local (with_local scope n.text m h.0 k.0, h.1) k.1 d

  pub locals_local : (ts : List Term) → Each (IsReached pairs std is_open) ts → Each L (locals ts)
  locals_local [] h = tt
  locals_local (t ∷ ts) h = (h.0, locals_local ts h.1)
