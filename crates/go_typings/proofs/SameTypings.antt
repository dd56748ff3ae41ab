-- Under settings that are the same in all that a package reaches it has the same typing and the same refusal.
use Rattle.std.proofs.Common.{◌≡◌, ℕ, Bool, true, List, refl, sym, ◌∙◌}
use Rattle.std.specs.Str.{bytes_eq}
use Rattle.go_references.specs.go_base.Lists.{Each}
use Rattle.go_rules.specs.go_model.declared.types.package.Package.{Package}
use Rattle.go_rules.specs.go_model.worlds.Worlds.{table_of}
use Rattle.go_rules.specs.Environments.{Env}
use Rattle.go_rules.specs.Regions.{IsClosed, RefersIn, Region, cut}
use Rattle.go_typings.specs.Assignments.{At}
use Rattle.go_typings.specs.DeclarationAsks.{Asks}
use Rattle.go_typings.specs.DeclarationNodes.{length_references, nodes, references, strong_references}
use Rattle.go_typings.specs.Declarations.{Form, constants, variables, alias, definition, function, method, Declaration, declarations}
use Rattle.go_typings.specs.PackageEnvironments.{Entries, environment, own_defined}
use Rattle.go_typings.specs.ReachedPackages.{HoldImports, ReachesSame}
use Rattle.go_typings.specs.References.{LeadsTo, leads_here, leads_by_name, leads_by_method, NamesDeclaration}
use Rattle.go_typings.specs.Refusals.{IsRefused, Refusal, redeclared, missing_import, unsound}
use Rattle.go_typings.specs.Sources.{PackageSource, Setting}
use Rattle.go_typings.specs.TypedPackages.{IsTypedAs}
use Rattle.go_typings.specs.Typings.{IsFirstUnsound, IsSound, Typing}
use Rattle.go_typings.proofs.Cells.{if_true}
use Rattle.go_typings.proofs.FoundImports.{are_found}
use Rattle.go_typings.proofs.HeldImports.{found_held}
use Rattle.go_typings.proofs.LocalRules.{all_refer}
use Rattle.go_typings.proofs.ReachedRegion.{EntriesIn, closed_region, own_path, region}
use Rattle.go_typings.proofs.SameImports.{cut_grows, entries_in, had_same}
use Rattle.go_typings.proofs.SameAsks.{KeepsBase, asks_same}
use Rattle.go_typings.proofs.SameReferences.{finds_method_same, refers_back}

-- the same the other way round
abbrev pub turned : (u : PackageSource) (s t : Setting) → ReachesSame u s t → ReachesSame u t s
turned u s t m = record {
  reached = m.reached;
  are = record { imports = m.are.imports; closed = λ path p i e. m.are.closed path p i (m.same path i ∙ e) };
  same = λ path i. sym (m.same path i);
  bits = sym m.bits;
  profile = sym m.profile;
}

module _ (u : PackageSource) (s t : Setting) (m : ReachesSame u s t) (found : HoldImports u m.reached) (a : Entries) (h : EntriesIn (region u m.reached) a) where
  module _ (d : Declaration) where
    abbrev E : Env
    E = environment s u a d

    abbrev F : Env
    F = environment t u a d

    abbrev R : Region
    R = region u m.reached

    abbrev C : Env
    C = cut R E

    closed : IsClosed E R
    closed = closed_region s u m.reached m.are found a h d

    every : (name : List ℕ) → R.names name ≡ true
    every name = refl

    all : (f : Form) → Each (RefersIn R) (nodes f)
    all f = all_refer R every (nodes f)

    own_same : (name : List ℕ) → E.table (record { path = u.path; name = name }) ≡ F.table (record { path = u.path; name = name })
    own_same name = if_true (bytes_eq u.path u.path) (own_defined u a name) (table_of s.world.packages (record { path = u.path; name = name })) (own_path u.path)
        ∙ sym (if_true (bytes_eq u.path u.path) (own_defined u a name) (table_of t.world.packages (record { path = u.path; name = name })) (own_path u.path))

    keeps_base : (f : Form) → KeepsBase E F u f
    keeps_base (method r f) = λ name d h e. (d, sym (own_same name) ∙ e, refl)
    keeps_base (constants c place) = tt
    keeps_base (variables c) = tt
    keeps_base (alias c) = tt
    keeps_base (definition c) = tt
    keeps_base (function f) = tt

    pub asks_kept : (n : ℕ) (f : Form) → Asks E u n f → Asks F u n f
    asks_kept n f k = asks_same E F R closed (cut_grows u s t m found a d) u n f (all f) (keeps_base f) k

    pub refers_same : (f : Form) (rs : _) (n : ℕ) → NamesDeclaration F u f rs n → NamesDeclaration E u f rs n
    refers_same f rs n k = refers_back E F R closed (cut_grows u s t m found a d) u f rs n (all f) k

-- a typing under the one setting is one under the other
module _ (u : PackageSource) (s t : Setting) (m : ReachesSame u s t) (all : HoldImports u m.reached) where
  at_of : {P Q : Declaration → Type 0} (ds : List Declaration) (n : ℕ) → ((d : Declaration) → P d → Q d) → At ds n P → At ds n Q
  at_of ds n f k = (k.0, k.1, f k.0 k.2)

  module _ (S : ℕ → Bool) (a : Entries) (T : Typing s u S a) where
    inside : EntriesIn (region u m.reached) a
    inside = entries_in u s t m all S a T.had

    -- what leads on under the second setting does under the first
    leads_back : {j k : ℕ} → LeadsTo t u a j k → LeadsTo s u a j k
    leads_back leads_here = leads_here
    leads_back (leads_by_name {k = k} n i r) = leads_by_name n (at_of (declarations u) k (λ d. refers_same u s t m all a inside d d.form (references d.form) n) i) (leads_back r)
    leads_back (leads_by_method {k = k} n i r) = leads_by_method n (at_of (declarations u) k (λ d.
        finds_method_same (environment t u a d) (environment s u a d) (region u m.reached) (closed_region t u m.reached (turned u s t m).are all a inside d) (cut_grows u t s (turned u s t m) all a d) u d.form n (all_refer (region u m.reached) (λ name. refl) (nodes d.form))) i) (leads_back r)

    pub typing_same : Typing t u S a
    typing_same = record {
      had = had_same u s t m all S a T.had;
      asks = λ n i. at_of (declarations u) n (λ d. asks_kept u s t m all a inside d n d.form) (T.asks n i);
      rank = T.rank;
      falls = λ n k i r. T.falls n k i (at_of (declarations u) n (λ d. refers_same u s t m all a inside d d.form (strong_references d.form) k) r);
      lengths = λ n k i r l. T.lengths n k i (at_of (declarations u) n (λ d. refers_same u s t m all a inside d d.form (length_references d.form) k) r) (leads_back l);
    }

  pub sound_same : (n : ℕ) → IsSound s u n → IsSound t u n
  sound_same n k = record { within = k.within; entries = k.entries; holds = k.holds; closed = k.closed; typing = typing_same k.within k.entries k.typing }

module _ (u : PackageSource) (s t : Setting) (m : ReachesSame u s t) where
  unsound_same : HoldImports u m.reached → (n : ℕ) → IsFirstUnsound s u n → IsFirstUnsound t u n
  unsound_same all n k = record { is = k.is; unsound = λ j. k.unsound (sound_same u t s (turned u s t m) all n j); first = λ j l. sound_same u s t m all j (k.first j l) }

  pub refused_same : (r : Refusal) → IsRefused s u r → IsRefused t u r
  refused_same (redeclared p) k = k
  refused_same (missing_import p) k = k
  refused_same (unsound p) k = (k.0, k.1, (k.2.0, unsound_same (found_held s.world u m.reached (are_found u k.1) m.are) k.2.0 k.2.1, k.2.2))

  pub typed_same : (p : Package) → IsTypedAs s u p → IsTypedAs t u p
  typed_same p k = record { once = k.once; found = k.found; entries = k.entries; typing = typing_same u s t m (found_held s.world u m.reached (are_found u k.found) m.are) _ k.entries k.typing; «package» = k.«package» }
