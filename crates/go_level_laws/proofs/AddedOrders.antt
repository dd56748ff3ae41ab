-- In whatever order they are added, packages make the same world, which holds each of them under its path.
use Rattle.std.proofs.Common.{◌≡◌, ◌⊎◌, ℕ, List, [], ◌∷◌, Option, Some, None, slice_get, refl, sym, ap, ◌∙◌, subst, inl, inr}
use Rattle.std.specs.Prelude.{nat_eq}
use Rattle.go_base.specs.Lists.{Has, Once}
use Rattle.go_model.specs.declared.types.package.Package.{Package}
use Rattle.go_model.specs.worlds.Worlds.{Packages}
use Rattle.go_rules.proofs.OneKind.{no_truth}
use Rattle.go_unit_worlds.specs.go_std_worlds.StdSources.{HaveOwnPaths}
use Rattle.go_typings.proofs.Cells.{either, maybe, none_some}
use Rattle.go_typings.specs.PackageWorlds.{Outcome, typed, no_packages, with_outcome}
use Rattle.go_typings.specs.Sources.{PackageSource}
use Rattle.go_level_laws.specs.ByLevels.{BecomeByLevels, Outcomes, added_in, with_number, with_one, with_source, world_below, world_of}
use Rattle.go_level_laws.proofs.KnownWorlds.{HavePathsOf, TypedAt, added, found_from, found_in, held_from, one_number, same_world}
use Rattle.go_level_laws.proofs.LowerWorlds.{known_source, outcome_path}
use Rattle.go_level_laws.proofs.NextOutcomes.{is_same, one_at, one_else, same_is}

pub paths_known : (bits : ℕ) (us : List PackageSource) (level : ℕ → ℕ) (a : Outcomes) → BecomeByLevels bits us level a → HavePathsOf us a
paths_known bits us level a by n u x e f = outcome_path bits (world_below us level (level n) a) u x (known_source bits us level a by n u x e f)

module _ (bits : ℕ) (us : List PackageSource) (level : ℕ → ℕ) (a : Outcomes) (own : HaveOwnPaths us) (by : BecomeByLevels bits us level a) where
  -- what of these numbers isn't added yet
  record Left (b : Outcomes) (ns : List ℕ) : Type 0 where
    pub each : (m : ℕ) → (b m ≡ a m) ⊎ ((b m ≡ None) × Has ns m)
    pub none : (m : ℕ) → Has ns m → b m ≡ None

  paths_left : (b : Outcomes) (ns : List ℕ) → Left b ns → HavePathsOf us b
  paths_left b ns l n u x e f = elim (l.each n) [
    | inl s ↦ paths_known bits us level a by n u x e (sym s ∙ f)
    | inr s ↦ none_some (b n) x s.0 f
  ]

  left_none : (b : Outcomes) (n : ℕ) (ns : List ℕ) → a n ≡ None → Left b (n ∷ ns) → Left b ns
  left_none b n ns e l = record {
    each = λ m. elim (l.each m) [
      | inl s ↦ inl s
      | inr s ↦ elim s.1 [ inl is ↦ inl (s.0 ∙ sym e ∙ ap a is) | inr h ↦ inr (s.0, h) ]
    ];
    none = λ m h. l.none m (inr h);
  }

  left_some : (b : Outcomes) (n : ℕ) (x : Outcome) (ns : List ℕ) → Once (n ∷ ns) → a n ≡ Some x → Left b (n ∷ ns) → Left (with_one n x b) ns
  left_some b n x ns once e l = record {
    each = λ m. elim (either (nat_eq m n)) [
      | inl i ↦ (let is = is_same m n i in inl (ap (with_one n x b) is ∙ one_at n x b ∙ sym e ∙ ap a (sym is)))
      | inr i ↦ elim (l.each m) [
        | inl s ↦ inl (one_else n x b m i ∙ s)
        | inr s ↦ elim s.1 [
          | inl is ↦ absurd (no_truth (sym (same_is n) ∙ ap (λ j. nat_eq j n) is ∙ i))
          | inr h ↦ inr (one_else n x b m i ∙ s.0, h)
        ]
      ]
    ];
    none = λ m h. elim (either (nat_eq m n)) [
      | inl i ↦ absurd (once.0 (subst (Has ns) (is_same m n i) h))
      | inr i ↦ one_else n x b m i ∙ l.none m (inr h)
    ];
  }

  all_added : (ns : List ℕ) (w : Packages) (b : Outcomes) → w ≡ world_of us b → Once ns → Left b ns → added_in us a w ns ≡ world_of us a
  all_added [] w b e once l = e ∙ same_world no_packages us b a (λ m. elim (l.each m) [ inl s ↦ s | inr s ↦ absurd s.1 ])
  all_added (n ∷ ns) w b e once l = elim (maybe (a n)) [
    | inl q ↦ (
        let k = by.become n q.0 q.1 in
        let more = added no_packages us b n k.0 q.0 own (paths_left b (n ∷ ns) l) k.1 (l.none n (inl refl)) (paths_known bits us level a by n k.0 q.0 k.1 q.1) in
        all_added ns (with_number us a w n) (with_one n q.0 b)
        (ap (λ c. with_source w c (a n)) k.1 ∙ ap (λ c. with_source w (Some k.0) c) q.1 ∙ ap (λ z. with_outcome z k.0 q.0) e ∙ sym more)
        once.1 (left_some b n q.0 ns once q.1 l)
        )
    | inr f ↦ all_added ns (with_number us a w n) b (ap (λ c. with_source w (slice_get us n) c) f ∙ nothing w (slice_get us n) ∙ e) once.1 (left_none b n ns f l)
  ]
    where
      nothing : (w : Packages) (c : Option PackageSource) → with_source w c None ≡ w
      nothing w None = refl
      nothing w (Some u) = refl

  empty_world : (vs : List PackageSource) → no_packages ≡ world_of vs (λ n. None)
  empty_world [] = refl
  empty_world (v ∷ vs) = empty_world vs

  pub in_any_order : (ns : List ℕ) → Once ns → ((n : ℕ) (x : Outcome) → a n ≡ Some x → Has ns n) → added_in us a no_packages ns ≡ world_of us a
  in_any_order ns once all = all_added ns no_packages (λ n. None) (empty_world us) once (record {
    each = λ m. elim (maybe (a m)) [ inl q ↦ inr (refl, all m q.0 q.1) | inr e ↦ inl (sym e) ];
    none = λ m h. refl;
  })

  -- ---- what the world holds

  pub held : (n : ℕ) (u : PackageSource) (p : Package) → slice_get us n ≡ Some u → a n ≡ Some (typed p) → found_in (world_of us a) u.path ≡ Some p
  held n u p e f = held_from no_packages us a n u p own (paths_known bits us level a by) (λ m v g. refl) e f

  pub found : (path : List ℕ) (p : Package) → found_in (world_of us a) path ≡ Some p → TypedAt us a path p
  found path p e = elim (found_from no_packages us a path p (paths_known bits us level a by) e) [ inl t ↦ t | inr f ↦ none_some (found_in no_packages path) p refl f ]

  pub absent : (n : ℕ) (u : PackageSource) → slice_get us n ≡ Some u → a n ≡ None → found_in (world_of us a) u.path ≡ None
  absent n u e f = elim (maybe (found_in (world_of us a) u.path)) [
    | inl q ↦ (let t = found u.path q.0 q.1 in none_some (a n) (typed q.0) f (ap a (sym (one_number us own t.number n t.source u t.is e t.place)) ∙ t.typed))
    | inr g ↦ g
  ]
