-- What is found in the specs of a declaration in a function, spec by spec.
use Rattle.std.proofs.Common.{inl, inr, ◌≡◌, ◌⊎◌, ◌≤◌, ◌<◌, ◌+◌, ℕ, zero, suc, Bool, true, false, ◌&&◌, List, [], ◌∷◌, ◌++◌, length, drop, get_or, map, Option, None, Some, refl, sym, ap, subst, arith}
use Rattle.go_declarations.specs.declared.listing.Declaration.{Declaration}
use Rattle.go_assignments.specs.go_entries.declared.entry.Entry.{Entry}
use Rattle.go_assignments.specs.go_entries.declared.entry.Entry.TheVariants as entry
use Rattle.go_flat_statements.proofs.MetTrees.{met_parts, met_whole}
use Rattle.go_judged.specs.Judging.{Judges, JudgesTo, tested, with_test}
use Rattle.go_judged.specs.declared.judged.Judged.{Judged}
use Rattle.go_judged.proofs.Joining.{no_typed}
use Rattle.go_judged.proofs.Surveyed.{survey_but}
use Rattle.go_local_scopes.specs.States.{IsAt, Reaches}
use Rattle.go_local_scopes.proofs.Standing.{formed_at, reached, unreached}
use Rattle.go_local_specs.specs.LocalForms.{AreLocal, GivesLocal, IsLocal, form_in, forms_in, objects_in}
use Rattle.go_model.specs.declared.types.package.Entity.{Entity}
use Rattle.go_operators.proofs.Answers.{found_none, found_some}
use Rattle.go_rules.specs.Environments.{Env}
use Rattle.go_rules.specs.Scopes.{Scopes as Known, env_of}
use Rattle.go_selectors.specs.Answers.{Decides}
use Rattle.go_selectors.proofs.Lists.{drop_all, drop_next}
use Rattle.go_statement_rules.specs.Bodies.{IsTypedRun}
use Rattle.go_statement_rules.specs.Functions.{Enclosing, Run}
use Rattle.go_statement_rules.specs.Scopes.{Declares, Scopes, local_of, within}
use Rattle.go_statement_rules.specs.Statements.{AreDeclared, declared_more, declared_none, fits, form_env, some_names}
use Rattle.go_statement_rules.proofs.OneScope.{declared_once}
use Rattle.go_syntax.specs.declared.statement.LiteralBlock.{LiteralBlock}
use Rattle.go_typings.specs.DeclarationNodes.{nodes}
use Rattle.go_typings.specs.Declarations.{Form, alias, constants, definition, function, method, names_of, variables}
use Rattle.go_typings.specs.PackageEnvironments.{iota_of, objects}
use Rattle.go_typings.proofs.OneEntry.{gives_once}
use Rattle.go_untyped_places.specs.LiteralRuns.{IsLiteralRun}
use Rattle.go_untyped_places.specs.Parts.{InSpecs}
use Rattle.go_usability.specs.Answers.{Gives as Found}
use Rattle.go_walks.proofs.Gathered.{literals_none}
use Rattle.go_walks.specs.Literals.{LiteralsTyped}

-- the environment of a declaration is another one for constants alone, whose values are asked no type
fits_there : (G : Env) (f : Form) → fits (form_env G f) f → fits G f
fits_there G (constants s place) h = h
fits_there G (variables s) h = h
fits_there G (alias s) h = h
fits_there G (definition s) h = h
fits_there G (function g) h = h
fits_there G (method receiver g) h = h

fits_here : (G : Env) (f : Form) → fits G f → fits (form_env G f) f
fits_here G (constants s place) h = h
fits_here G (variables s) h = h
fits_here G (alias s) h = h
fits_here G (definition s) h = h
fits_here G (function g) h = h
fits_here G (method receiver g) h = h

objects_same : {xs ys : List Entity} → objects xs ≡ objects ys → xs ≡ ys
objects_same e = cc

module _ (E : Env) (blocks : List LiteralBlock) (r : Enclosing) where
  -- ---- one spec

  module _ (s : Scopes) (f : Form) where
    abbrev F : Env
    F = form_env (within E s) f

    abbrev Own : Type 0
    Own = LiteralsTyped E blocks r s (nodes f)

    abbrev One : Scopes → Type 0
    One t = AreDeclared E blocks r s (f ∷ []) t

    abbrev Declared : List Entity → Scopes → Type 0
    Declared xs t = Declares s (some_names (names_of f)) (map local_of xs) t

    to_one : (xs : List Entity) (t : Scopes) → Own → GivesLocal F f xs → Declared xs t → One t
    to_one xs t l g d = declared_more {xs = xs} g.0 (fits_there (within E s) f g.1) (met_whole E blocks r F s (nodes f) g.2 l) d declared_none

    of_one : (t : Scopes) → One t → Own × ((xs : List Entity) × GivesLocal F f xs × Declared xs t)
    of_one t (declared_more {xs = xs} g i m d declared_none) = let parts = met_parts E blocks r F s (nodes f) m in (parts.1, (xs, (g, fits_here (within E s) f i, parts.0), d))

    module _ (j : Judged) (k : Judges E blocks Own (IsLiteralRun E blocks r s (nodes f)) j) where
      -- where it gives nothing
      pub spec_nothing : ((xs : List Entity) → GivesLocal F f xs → ⊥) → (t : Scopes) → JudgesTo E blocks One t (IsLiteralRun E blocks r s (nodes f)) (with_test j false)
      spec_nothing none t = (by_test j.typed, k.1)
        where
          untyped : (u : Scopes) → One u → ⊥
          untyped u o = let h = (of_one u o).1 in none h.0 h.1

          by_test : (a : Bool) → Reaches (a && false) One t
          by_test true = untyped
          by_test false = untyped

      pub spec_judged : (xs : List Entity) → GivesLocal F f xs → (t : Scopes) (b : Bool) → Reaches b (Declared xs) t → JudgesTo E blocks One t (IsLiteralRun E blocks r s (nodes f)) (with_test j b)
      spec_judged xs g t b d = (by_both j.typed b k.0 d, k.1)
        where
          there : (u : Scopes) → One u → Declared xs u
          there u o = let h = (of_one u o).1 in subst (λ (ys : List Entity). Declared ys u) (objects_same (gives_once F h.1.0 g.0)) h.2

          by_both : (a b : Bool) → Decides a Own → Reaches b (Declared xs) t → Reaches (a && b) One t
          by_both true true l d = to_one xs t l g d
          by_both true false l d = λ u o. d u (there u o)
          by_both false true l d = λ u o. l (of_one u o).0
          by_both false false l d = λ u o. l (of_one u o).0

  -- ---- specs one after another

  more_declared : (s t : Scopes) (f : Form) (fs : List Form) (u : Scopes) → AreDeclared E blocks r s (f ∷ []) t → AreDeclared E blocks r t fs u → AreDeclared E blocks r s (f ∷ fs) u
  more_declared s t f fs u (declared_more {xs = xs} g i m d declared_none) rest = declared_more {xs = xs} g i m d rest

  parted : (s : Scopes) (f : Form) (fs : List Form) (u : Scopes) → AreDeclared E blocks r s (f ∷ fs) u → (t : Scopes) × AreDeclared E blocks r s (f ∷ []) t × AreDeclared E blocks r t fs u
  parted s f fs u (declared_more {t = t} {xs = xs} g i m d rest) = (t, declared_more {xs = xs} g i m d declared_none, rest)

  no_form : (f : Form) (before after : List Form) → [] ≡ before ++ f ∷ after → ⊥
  no_form f [] after e = absurd (cc)
  no_form f (b ∷ before) after e = absurd (cc)

  head_form : {f g : Form} {fs gs : List Form} → f ∷ fs ≡ g ∷ gs → f ≡ g
  head_form e = cc

  tail_form : {f g : Form} {fs gs : List Form} → f ∷ fs ≡ g ∷ gs → fs ≡ gs
  tail_form e = cc

  -- what all declare is what is left declares, and the runs in those before are typed
  pub record SpecsOn (s : Scopes) (all : List Form) (t : Scopes) (rest : List Form) : Type 0 where
    pub to : (u : Scopes) → AreDeclared E blocks r t rest u → AreDeclared E blocks r s all u
    pub from : (u : Scopes) → AreDeclared E blocks r s all u → AreDeclared E blocks r t rest u
    pub runs_to : (v : Run) → InSpecs E blocks r t rest v → InSpecs E blocks r s all v
    pub runs_from : (v : Run) → InSpecs E blocks r s all v → IsTypedRun E blocks v ⊎ InSpecs E blocks r t rest v

  pub specs_begin : (s : Scopes) (all : List Form) → SpecsOn s all s all
  specs_begin s all = record { to = λ u d. d; from = λ u d. d; runs_to = λ v h. h; runs_from = λ v h. inr h }

  nothing_in : (t : Scopes) (v : Run) → InSpecs E blocks r t [] v → ⊥
  nothing_in t v h = no_form h.1 h.0 h.2 h.4

  module _ (t : Scopes) (f : Form) (fs : List Form) where
    -- a run in the first, or in those behind it
    split_runs : (v : Run) → InSpecs E blocks r t (f ∷ fs) v → IsLiteralRun E blocks r t (nodes f) v ⊎ ((w : Scopes) × AreDeclared E blocks r t (f ∷ []) w × InSpecs E blocks r w fs v)
    split_runs v (before, g, after, w, e, d, l) = by_place w before e d l
      where
        by_place : (w : Scopes) (before : List Form) → f ∷ fs ≡ before ++ g ∷ after → AreDeclared E blocks r t before w → IsLiteralRun E blocks r w (nodes g) v → IsLiteralRun E blocks r t (nodes f) v ⊎ ((w : Scopes) × AreDeclared E blocks r t (f ∷ []) w × InSpecs E blocks r w fs v)
        by_place w [] e declared_none l = inl (subst (λ (x : Form). IsLiteralRun E blocks r t (nodes x) v) (sym (head_form e)) l)
        by_place w (b ∷ before) e d l =
            let p = parted t b before w d in
            inr (p.0, subst (λ (x : Form). AreDeclared E blocks r t (x ∷ []) p.0) (sym (head_form e)) p.1, (before, g, after, w, tail_form e, p.2, l))

    first_run : (v : Run) → IsLiteralRun E blocks r t (nodes f) v → InSpecs E blocks r t (f ∷ fs) v
    first_run v l = ([], f, fs, t, refl, declared_none, l)

    later_run : (w : Scopes) → AreDeclared E blocks r t (f ∷ []) w → (v : Run) → InSpecs E blocks r w fs v → InSpecs E blocks r t (f ∷ fs) v
    later_run w d v (before, g, after, u, e, c, l) = (f ∷ before, g, after, u, ap (λ (xs : List Form). f ∷ xs) e, more_declared t w f before u d c, l)

  module _ (s : Scopes) (all : List Form) (t : Scopes) (i : ℕ) (f : Form) (h : i < length all) (e : f ≡ get_or all i f) (o : SpecsOn s all t (drop i all)) where
    abbrev Rest : List Form
    Rest = drop (i + 1) all

    here : SpecsOn s all t (f ∷ Rest)
    here = subst (SpecsOn s all t) (drop_next i all f h e) o

    -- one that is typed
    specs_next : (u : Scopes) → AreDeclared E blocks r t (f ∷ []) u → ((v : Run) → IsLiteralRun E blocks r t (nodes f) v → IsTypedRun E blocks v) → SpecsOn s all u Rest
    specs_next u d typed = record {
      to = λ w c. here.to w (more_declared t u f Rest w d c);
      from = λ w c. let p = parted t f Rest w (here.from w c) in subst (λ (z : Scopes). AreDeclared E blocks r z Rest w) (declared_once E blocks p.1 d) p.2;
      runs_to = λ v k. here.runs_to v (later_run t f Rest u d v k);
      runs_from = λ v k. elim (here.runs_from v k) [
        | inl y ↦ inl y
        | inr c ↦ elim (split_runs t f Rest v c) [ inl l ↦ inl (typed v l) | inr m ↦ inr (subst (λ (z : Scopes). InSpecs E blocks r z Rest v) (declared_once E blocks m.1 d) m.2) ]
      ];
    }

    pub specs_more : (j : Judged) → j.typed ≡ true → (u : Scopes) → JudgesTo E blocks (AreDeclared E blocks r t (f ∷ [])) u (IsLiteralRun E blocks r t (nodes f)) j → SpecsOn s all u Rest
    specs_more j g u k = let d = reached (AreDeclared E blocks r t (f ∷ [])) u j.typed g k.0 in specs_next u d (literals_none E blocks r t (nodes f) (of_one t f u d).0)

    -- one that isn't
    pub specs_not : (j : Judged) → j.typed ≡ false → (u : Scopes) → JudgesTo E blocks (AreDeclared E blocks r t (f ∷ [])) u (IsLiteralRun E blocks r t (nodes f)) j → (w : Scopes) → JudgesTo E blocks (AreDeclared E blocks r s all) w (InSpecs E blocks r s all) j
    specs_not j g u k w =
        let none = unreached (AreDeclared E blocks r t (f ∷ [])) u j.typed g k.0 in (
          by_test j.typed g (λ z d. let p = parted t f Rest z (here.from z d) in none p.0 p.1),
          survey_but E blocks (IsLiteralRun E blocks r t (nodes f)) (InSpecs E blocks r s all) j.place (λ v l. here.runs_to v (first_run t f Rest v l))
              (λ v l. elim (here.runs_from v l) [ inl y ↦ inl y | inr c ↦ elim (split_runs t f Rest v c) [ inl m ↦ inr m | inr m ↦ absurd (none m.0 m.1) ] ]) k.1,
        )
      where
        by_test : (a : Bool) → a ≡ false → ((z : Scopes) → AreDeclared E blocks r s all z → ⊥) → Reaches a (AreDeclared E blocks r s all) w
        by_test true e n = absurd (no_typed e)
        by_test false e n = n

  pub specs_done : (s : Scopes) (all : List Form) (t : Scopes) (i : ℕ) → length all ≤ i → SpecsOn s all t (drop i all) → JudgesTo E blocks (AreDeclared E blocks r s all) t (InSpecs E blocks r s all) (tested true)
  specs_done s all t i h o =
      let last = subst (SpecsOn s all t) (drop_all i all h) o in
      (last.to t declared_none, λ v k. elim (last.runs_from v k) [ inl y ↦ y | inr c ↦ absurd (nothing_in t v c) ])

-- ---- what is given, in the environment of a declaration

module _ (E : Env) (s : Scopes) (e : Known) (at : IsAt E s e) (f : Form) where
  abbrev Whole : Env → Entry → Type 0
  Whole G x = GivesLocal G f (objects_in x)

  abbrev There : Env
  There = env_of (record e { iota = iota_of f })

  pub gives_at : (x : Option Entry) (y : Entry) → x ≡ Some y → Found (Whole There) x → GivesLocal (form_env (within E s) f) f (objects_in y)
  gives_at x y i g = subst (λ (G : Env). GivesLocal G f (objects_in y)) (formed_at E s e at f) (found_some (Whole There) x y i g)

  pub gives_none_at : (x : Option Entry) → x ≡ None → Found (Whole There) x → (xs : List Entity) → GivesLocal (form_env (within E s) f) f xs → ⊥
  gives_none_at x i g xs h = found_none (Whole There) x i g (entry.Objects xs) (subst (λ (G : Env). GivesLocal G f xs) (sym (formed_at E s e at f)) h)

-- borrowed ones
pub form_at : (ds : List Declaration) (i : ℕ) (d : Declaration) → d ≡ get_or ds i d → form_in d ≡ get_or (forms_in ds) i (form_in d)
form_at [] i d e = refl
form_at (x ∷ ds) zero d e = ap form_in e
form_at (x ∷ ds) (suc i) d e = form_at ds i d e

pub forms_length : (ds : List Declaration) → length (forms_in ds) ≡ length ds
forms_length [] = refl
forms_length (d ∷ ds) = ap suc (forms_length ds)

pub local_at : (ds : List Declaration) (i : ℕ) (d : Declaration) → i < length ds → d ≡ get_or ds i d → AreLocal (forms_in ds) → IsLocal (form_in d)
local_at [] i d h e l = absurd (omega (arith, h))
local_at (x ∷ ds) zero d h e l = subst (λ (y : Declaration). IsLocal (form_in y)) (sym e) l.0
local_at (x ∷ ds) (suc i) d h e l = local_at ds i d (omega (arith, h)) e l.1
