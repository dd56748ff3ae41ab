-- A walk over all levels of a search, and the methods of a set where all on them is told.
use Rattle.std.proofs.Common.{◌≡◌, ◌≤◌, ◌<◌, ◌+◌, ℕ, zero, suc, Bool, true, false, if◌then◌else◌, inl, inr, List, [], ◌∷◌, ◌++◌, length, take, get_or, sym, ap, ◌∙◌, subst, arith, length-append}
use Rattle.std.proofs.lemmas.List.{take_more}
use Rattle.go_base.specs.Lists.{Has}
use Rattle.go_model.specs.declared.types.names.TypeName.{TypeName}
use Rattle.go_model.specs.declared.types.term.Method.{Method, out-Method}
use Rattle.go_model.specs.declared.types.term.Term.{Term}
use Rattle.go_model.specs.types.MethodSets.{InSet, Reaches}
use Rattle.go_model.specs.types.Selectors.{start}
use Rattle.go_rules.specs.Environments.{Env, Begins, HasMethod}
use Rattle.go_types.proofs.go_selectors_proofs.Lists.{gather_of, has-back}
use Rattle.go_types.specs.go_selectors.Answers.{Decides}
use Rattle.go_types.specs.go_selectors.Candidates.{AreCandidates, Candidates, HoldMethodSet}
use Rattle.go_types.proofs.Walks.{pushed_has}
use Rattle.go_types.specs.Parts.{Known, Pushes}
use Rattle.go_usability.proofs.Entering.{take_append, take_all}
use Rattle.go_usability.proofs.Finds.{in_set}
use Rattle.go_usability.proofs.Levels.{down_to}
use Rattle.go_usability.specs.inner.Levels.{further, level, PushesAll, ToldEach, ToldFor, ToldWhole}
use Rattle.go_usability.specs.inner.Methods.{HoldsEach}

module _ (E : Env) (ms : List Method) (t : Term) where
  -- what was looked at is told, and the types one field further are there
  pub record Tells (at : ℕ) (all : List Term) (met : List TypeName) : Type 0 where
    pub known : Known all met
    pub from : Has all t
    pub within : at ≤ length all
    pub told : (u : Term) → Has (take at all) u → ToldEach E ms u
    pub closed : (u : Term) → Has (take at all) u → (v : Term) → Has (further E.table u) v → Has all v

  pub first_tells : (none all : List Term) (fresh met : List TypeName) → none ≡ [] → fresh ≡ [] → Pushes none fresh all met t → Tells 0 all met
  first_tells none all fresh met e f p = record {
    known = p.0.known known_none;
    from = p.1 known_none;
    within = omega arith;
    told = λ u h. absurd h;
    closed = λ u h. absurd h;
  }
    where
      known_none : Known none fresh
      known_none n h = absurd (subst (λ (w : List TypeName). Has w n) f h)

  pub next_tells : (at : ℕ) (all new : List Term) (met newer : List TypeName) (part : Term) (answer : Bool) → Tells at all met → at < length all → part ≡ get_or all at part → answer ≡ true → Decides answer (ToldEach E ms part) → PushesAll all met new newer (further E.table part) → Tells (at + 1) new newer
  next_tells at all new met newer part answer w h e f d p = record {
    known = p.0.known w.known;
    from = pushed_has all new met newer t p.0 w.from;
    within = (let k = ap length p.0.is in let j = length-append all p.0.more in omega (arith, k, j, h));
    told = λ u j. elim (has-back (take at all) part u (subst (λ (z : List Term). Has z u) taken j)) [ inl a ↦ w.told u a | inr s ↦ subst (ToldEach E ms) s (subst (λ b. Decides b (ToldEach E ms part)) f d) ];
    closed = λ u j v i. elim (has-back (take at all) part u (subst (λ (z : List Term). Has z u) taken j)) [
      | inl a ↦ pushed_has all new met newer v p.0 (w.closed u a v i)
      | inr s ↦ p.1 w.known v (subst (λ (z : Term). Has (further E.table z) v) (sym s) i)
    ];
  }
    where
      taken : take (at + 1) new ≡ take at all ++ part ∷ []
      taken = ap (take (at + 1)) p.0.is ∙ take_append (at + 1) all p.0.more (omega arith) ∙ take_more all at part h ∙ ap (λ x. take at all ++ x ∷ []) (sym e)

  pub all_told : (at : ℕ) (all : List Term) (met : List TypeName) → Tells at all met → length all ≤ at → ToldWhole E ms t
  all_told at all met w h k u i = w.told u (whole u (reached k u i))
    where
      whole : (v : Term) → Has all v → Has (take at all) v
      whole v j = subst (λ (z : List Term). Has z v) (sym (take_all at all h)) j

      reached : (n : ℕ) (v : Term) → Has (level E.table n t) v → Has all v
      reached zero v (inl e) = subst (Has all) e w.from
      reached zero v (inr n) = absurd n
      reached (suc n) v j = let a = gather_of (further E.table) (level E.table n t) v j in w.closed a.0 (whole a.0 (reached n a.0 a.1)) v a.2

pub told_so : (E : Env) (ms : List Method) (t at : Term) (begun told : Bool) → at ≡ (start E.table t).term → begun ≡ true → Decides begun (Begins E t) → (told ≡ true → ToldWhole E ms at) → told ≡ true → ToldFor E ms t
told_so E ms t at begun told e f b d g = (subst (λ b. Decides b (Begins E t)) f b, subst (ToldWhole E ms) e (d g))

-- ---- the methods of the set

module _ (E : Env) (t : Term) (callable : Candidates) (ms : List Method) (holds : HoldMethodSet E.table t callable) where
  pub not_candidates : (answer : Bool) → answer ≡ false → Decides answer (AreCandidates callable ms) → HoldsEach E t ms → ⊥
  not_candidates answer f d each = (subst (λ b. Decides b (AreCandidates callable ms)) f d) (λ m h. (holds (out-Method m).sel (out-Method m).signature).1 (in_set E t (out-Method m).sel (out-Method m).signature (each m h)))

  pub are_held : (answer : Bool) → answer ≡ true → Decides answer (AreCandidates callable ms) → ToldFor E ms t → HoldsEach E t ms
  are_held answer f d told m h = made ((holds (out-Method m).sel (out-Method m).signature).0 ((subst (λ b. Decides b (AreCandidates callable ms)) f d) m h))
    where
      reached : (pointer through : Bool) → Reaches pointer through → Reaches pointer (if through then true else false)
      reached pointer true r = r
      reached pointer false r = r

      made : InSet E.table t (out-Method m).sel (out-Method m).signature → HasMethod E false t (out-Method m).sel (out-Method m).signature
      made i = record {
        through = i.through;
        owner = i.owner;
        pointer = i.pointer;
        found = record { depth = i.depth; only = i.only; begins = told.0; told = down_to E (out-Method m).sel i.depth (start E.table t) (λ k l u j. told.1 k u j m h) };
        counts = i.counts;
        reaches = reached i.pointer i.through i.reaches;
      }
