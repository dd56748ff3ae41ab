-- The examples are worlds: their lists are in order, each type has its object, and its names have entries.
use Rattle.std.proofs.Common.{◌≡◌, ◌≢◌, List, [], ◌∷◌, map, inl, inr, Some, None, refl, sym, ap, ◌∙◌, subst, codes}
use mathlib.Core.Bool.{true≢false}
use Rattle.std.specs.Str.{bytes_eq}
use Rattle.std.specs.List.Sorted.{IsStrictlySortedBy}
use Rattle.go_base.specs.Lists.{Has, Each}
use Rattle.go_base.specs.Gathered.{gather}
use Rattle.go_model.specs.types.Tables.{Table}
use Rattle.go_model.specs.types.Members.{AreOrdered, IsWellFormed}
use Rattle.go_model.specs.types.Terms.{Layer}
use Rattle.go_model.specs.types.TypeNames.{Names, names, name_step, field_names, method_names, parameter_names}
use Rattle.go_model.specs.types.Underlying.{entry}
use Rattle.go_model.specs.worlds.PackageTypes.{package_members, package_selectors}
use Rattle.go_model.specs.worlds.Worlds.{IsDefined, IsWorld, IsOwned, Resolves, SignatureResolves, declared_sel}
use Rattle.go_model.specs.declared.types.names.Sel.{Sel}
use Rattle.go_model.specs.declared.types.names.TypeName.{TypeName}
use Rattle.go_model.specs.declared.types.package.Defined.{Defined}
use Rattle.go_model.specs.declared.types.package.MethodOf.{MethodOf}
use Rattle.go_model.specs.declared.types.term.Term.{Term, Term-F, out-Term, roll-Term, out-roll-Term, fold-roll-Term}
use Rattle.go_types_tests.specs.Examples.{channels, world_of}

-- a type that is made of a level which isn't a name
unnamed : (l : Layer) → ((n : TypeName) → l ≢ Term-F.Named n) → (n : TypeName) → out-Term (roll-Term l) ≢ Term-F.Named n
unnamed l other n e = other n (sym (out-roll-Term l) ∙ e)

-- a name that has an entry resolves
named_resolves : (T : Table) (m : TypeName) → entry T m ≢ None → Resolves T (roll-Term (Term-F.Named m))
named_resolves T m some n h = elim (subst (λ (w : Names). Has w n) (fold-roll-Term Names Names Names Names name_step field_names method_names parameter_names (Term-F.Named m)) h) [
  | inl e ↦ subst (λ (k : TypeName). entry T k ≢ None) e some
  | inr k ↦ absurd k
]

-- a type without methods whose type has no names
plain_defined : (T : Table) (d : Defined) → d.methods ≡ [] → ((n : TypeName) → out-Term d.underlying ≢ Term-F.Named n) → names d.underlying ≡ [] → IsDefined T d
unfolding IsStrictlySortedBy
plain_defined T d bare structured unnamed = record {
  resolved = λ n h. absurd (subst (λ (w : Names). Has w n) unnamed h);
  signatures = subst (λ (ms : List MethodOf). Each (λ m. SignatureResolves T m.signature) ms) (sym bare) tt;
  structured = structured;
  methods = subst (λ (ms : List MethodOf). AreOrdered (map declared_sel ms)) (sym bare) (record { ordered = tt; named = tt });
  bare = λ e. bare;
  apart = λ m f h k. absurd (subst (λ (ms : List MethodOf). Has ms m) bare h);
}

-- an entry that is there isn't absent
some_entry : {A : Type 0} {x : A} → Some x ≢ None
some_entry e = cc

pub channels_world : IsWorld (world_of channels)
unfolding channels
channels_world =
    let no_members : package_members channels ≡ [] = simp fold-roll-Term in
    let no_selectors : gather package_selectors (channels ∷ []) ≡ [] = simp fold-roll-Term in
    record {
      ordered = (tt, tt);
      packaged = (
        record {
          pathed = λ e. cc;
          foreign = λ e. true≢false (ap (bytes_eq (codes "m/p")) e);
          objects = (tt, tt);
          defined = (tt, tt);
          entities = (named_resolves _ _ some_entry, tt);
          types = (plain_defined _ _ refl (unnamed _ (λ n e. cc)) (simp fold-roll-Term), tt);
          declared = (refl, tt);
          formed = subst (Each IsWellFormed) (sym no_members) tt;
        },
        tt,
      );
      owned = subst (λ (w : List Sel). Each (IsOwned (codes "m/p" ∷ [])) w) (sym no_selectors) tt;
      public_order = tt;
      public_paths = tt;
    }
