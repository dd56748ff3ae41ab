-- What an attempt to settle a declaration finds, where scopes keep what is had.
use Rattle.std.proofs.Common.{◌≡◌, ◌≢◌, ◌<◌, ℕ, zero, suc, Bool, true, false, List, [], ◌∷◌, length, nat_eq, get_or, replicate, Option, None, Some, refl, sym, ap, ◌∙◌, subst, arith}
use Rattle.std.specs.Prelude.{is_some, Result, Err, slice_get}
use mathlib.Core.Bool.{true≢false}
use denote.Ref.{Bor}
use Rattle.go_declarations.specs.Listings.{declaration_of, declarations_of}
use Rattle.go_declarations.specs.declared.listing.Declaration.{Declaration as Borrowed}
use Rattle.go_entries.specs.Entries.{entry_of}
use Rattle.go_entries.specs.declared.entry.Entry.{Entry as Had}
use Rattle.go_entries.specs.declared.entry.Entry.TheVariants as had
use Rattle.go_entries.specs.HadEntries.{entries_at, found_entry, given as had_given}
use Rattle.go_package_scopes.proofs.OneMoreEntry.{entry_here, entry_elsewhere, itself, same_number}
use Rattle.go_package_scopes.proofs.SameEnvironments.{given_there}
use Rattle.go_package_scopes.proofs.ScopesOf.{scope_of}
use Rattle.go_package_scopes.specs.KeptScopes.{Keeps, with_entry}
use Rattle.go_package_scopes.specs.PackageScopes.{at_declaration}
use Rattle.go_rules.specs.Environments.{Env}
use Rattle.go_rules.specs.Scopes.{Scopes, env_of}
use Rattle.go_settling.specs.Settling.{Gains, IsStuck, no_entries}
use Rattle.go_type_terms.specs.Answers.{Tells}
use Rattle.go_type_terms.specs.declared.error.ExprError.{ExprError}
use Rattle.go_type_terms.specs.declared.error.ExprError.TheVariants.{Untyped}
use Rattle.go_typings.proofs.Cells.{some_once}
use Rattle.go_typings.specs.DeclarationRules.{Gives, gives_alias, gives_constants, gives_definition, gives_function, gives_method, gives_typed_variables, gives_variables}
use Rattle.go_typings.specs.Declarations.{Form, declarations, Declaration}
use Rattle.go_typings.specs.PackageEnvironments.{Entries, Entry, objects, signed, underlying}
use Rattle.go_typings.specs.Sources.{PackageSource, Setting}
use Rattle.go_typings.specs.Typings.{given}
use Rattle.go_package_entries.specs.inner.TakenEntries.{Fits}

-- what a declaration is given is of the kind of its form
pub fits : {E : Env} {ds : List Declaration} {f : Form} {x : Entry} → Gives E ds f x → Fits f x
fits (gives_constants are long) = tt
fits (gives_typed_variables type of) = tt
fits (gives_variables none all types) = tt
fits (gives_alias of) = tt
fits (gives_definition of under name may) = tt
fits (gives_function of within) = tt
fits (gives_method of within) = tt

-- nothing is had in the beginning
abbrev absent_entry : Option Had
absent_entry = None

none_at : (n m : ℕ) → get_or (replicate n absent_entry) m absent_entry ≡ absent_entry
none_at zero m = refl
none_at (suc n) zero = refl
none_at (suc n) (suc m) = none_at n m

nothing_at : (n m : ℕ) → entries_at (replicate n None) m ≡ None
nothing_at n m = ap had_given (none_at n m)

pub nothing_had : (n : ℕ) → entries_at (replicate n None) ≡ no_entries
nothing_had n i m = nothing_at n m i

-- the declaration of a number, borrowed
borrowed_at : (xs : List Borrowed) (n : ℕ) (d : Borrowed) → n < length xs → slice_get (declarations_of xs) n ≡ Some (declaration_of (get_or xs n d))
borrowed_at [] n d h = absurd (omega arith)
borrowed_at (x ∷ xs) zero d h = refl
borrowed_at (x ∷ xs) (suc n) d h = borrowed_at xs n d (omega arith)

long : (xs : List Borrowed) → length (declarations_of xs) ≡ length xs
long [] = refl
long (x ∷ xs) = ap suc (long xs)

pub declared_at : (xs : List Borrowed) (ds : List Declaration) (n : ℕ) (d : Borrowed) → ds ≡ declarations_of xs → n < length ds → slice_get ds n ≡ Some (declaration_of (get_or xs n d))
declared_at xs ds n d e h = ap (λ (zs : List Declaration). slice_get zs n) e ∙ borrowed_at xs n d (let l = ap length e ∙ long xs in omega (arith, h, l))

-- where the answer is that it is given nothing, it is given nothing
pub given_nothing : (fact : Had → Type 0) (r : Result Had ExprError) (e : ExprError) → r ≡ Err e → e ≡ Untyped → Tells fact r → (y : Had) → fact y → ⊥
given_nothing fact r e is untyped told = subst (Tells fact) (is ∙ ap (λ (x : ExprError). Err x) untyped) told

-- where none is found, none is had
pub not_found : (o : Option (Bor Had)) (b : Bool) (x : Option Entry) → b ≡ is_some o → b ≡ false → found_entry o ≡ x → x ≡ None
not_found None b x e f g = sym g
not_found (Some y) b x e f g = absurd (true≢false (sym e ∙ f))

-- the value of the code for an entry
value_of : (x : Entry) → (y : Had) × (entry_of y ≡ x)
value_of (objects xs) = (had.Objects xs, refl)
value_of (underlying t) = (had.Underlying t, refl)
value_of (signed g) = (had.Signed g, refl)

module _ (s : Setting) (u : PackageSource) (a : Entries) (c : Scopes) (keeps : Keeps s u a c) where
  -- they keep it also where a declaration stands
  pub kept_there : (d : Declaration) → Keeps s u a (at_declaration c d)
  kept_there d = record {
    world = keeps.world;
    path = keeps.path;
    bits = keeps.bits;
    profile = keeps.profile;
    opened = keeps.opened;
    imports = keeps.imports;
    announced = keeps.announced;
    objects = keeps.objects;
    awaited = keeps.awaited;
    types = keeps.types;
  }

  module _ (pathed : u.path ≢ []) (n : ℕ) (d : Declaration) (at : slice_get (declarations u) n ≡ Some d) where
    -- a declaration that is given nothing in the scopes is stuck
    pub stuck : ((y : Had) → Gives (env_of (at_declaration c d)) (declarations u) d.form (entry_of y) → ⊥) → IsStuck s u a n
    stuck none fresh k =
        let v = value_of k.2.0 in
        none v.0 (subst (Gives (env_of (at_declaration c d)) (declarations u) d.form) (sym v.1)
        ((given_there s u a c (scope_of s u a c keeps) pathed d d.form k.2.0).1
        (subst (λ (e : Declaration). given s u a e k.2.0) (some_once k.0 d (sym k.1 ∙ at)) k.2.1)))

    -- one that had no entry and is given one gains it
    pub gains : (x : Entry) (b : Entries) → a n ≡ None → Gives (env_of (at_declaration c d)) (declarations u) d.form x → b ≡ with_entry a n x → Gains s u a n b
    gains x b fresh g is = record {
      had_none = fresh;
      gained = (d, at, (x, (ap (λ (e : Entries). e n) is ∙ entry_here a n x n (itself n)), (given_there s u a c (scope_of s u a c keeps) pathed d d.form x).0 g));
      others = λ m apart. ap (λ (e : Entries). e m) is ∙ entry_elsewhere a n x m (other m apart);
    }
      where
        other : (m : ℕ) → m ≢ n → nat_eq m n ≡ false
        other m apart = by (nat_eq m n) refl
          where
            by : (b : Bool) → nat_eq m n ≡ b → b ≡ false
            by true e = absurd (apart (same_number m n e))
            by false e = refl
