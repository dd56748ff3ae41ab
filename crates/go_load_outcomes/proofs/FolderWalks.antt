-- The walk over a tree comes to its end.
use Rattle.std.proofs.Common.{◌≡◌, ◌⊎◌, ◌≤◌, ℕ, zero, suc, List, [], ◌∷◌, ◌++◌, length, refl, sym, subst, inl, inr, arith}
use Rattle.go_base.proofs.Members.{each_has}
use Rattle.go_base.specs.Lists.{Ascending, Before, Has}
use Rattle.go_existence.specs.Existence.{NotNone}
use Rattle.go_existence.proofs.DoubleNegation.{decided, so, sure, bind}
use Rattle.go_existence.proofs.FiniteSets.{finite_in, has_left, without}
use Rattle.go_existence.proofs.OrderedTexts.{all_texts, text_or}
use Rattle.go_load.proofs.FolderOrder.{not_back}
use Rattle.go_load.proofs.Members.{has-last}
use Rattle.go_load.specs.Walk.{AreCandidates, Event, IsCandidate, IsFolder, IsNext, IsWhole, Walked, events_of, files_of, next, start}
use Rattle.go_load.specs.declared.kind.TreeKind.{TreeKind}
use Rattle.go_load_outcomes.proofs.ToldPaths.{all_parts, candidate_listed, folder_listed}
use Rattle.go_model.specs.declared.files.tree.TreeFile.{TreeFile}
use Rattle.go_outside.specs.Paths.{Path}
use Rattle.go_outside.specs.Stores.{Contents}

module _ (m : Contents) (tree : TreeKind) (root : Path) where
  candidates : (folder : Path) → NotNone ((names : List Path) × AreCandidates m tree root folder names)
  candidates folder = so (all_texts (IsCandidate m tree root folder) (finite_in (IsCandidate m tree root folder) (all_parts m) (candidate_listed m tree root folder))) (λ k. (
    k.0,
    record { ascending = k.2; sound = k.1.sound; complete = k.1.complete },
  ))

  module _ (listed : List Path) where
    IsLeft : Path → Type 0
    IsLeft f = IsFolder m tree root f × (Has listed f → ⊥)

    first_of : (xs : List Path) → ((x : Path) → Has xs x → IsLeft x) → ((x : Path) → IsLeft x → Has xs x) → Ascending xs → (f : Path) → IsLeft f → (g : Path) × IsNext m tree root listed g
    unfolding IsLeft
    first_of [] sound complete up f h = absurd (complete f h)
    first_of (x ∷ xs) sound complete up f h = (
      x,
      record {
        is = (sound x (inl refl)).0;
        fresh = (sound x (inl refl)).1;
        least = λ other is new before. elim (complete other (is, new)) [
          | inl e ↦ not_back x other (inl e) before
          | inr k ↦ not_back x other (inr (each_has (Before x) xs other up.0 k)) before
        ];
      },
    )

    next_folder : (f : Path) → IsLeft f → NotNone ((g : Path) × IsNext m tree root listed g)
    unfolding IsLeft
    next_folder f h = so (all_texts IsLeft (finite_in IsLeft ([] ∷ all_parts m) (λ x k. folder_listed m tree root x k.0))) (λ k. first_of k.0 k.1.sound k.1.complete k.2 f h)

  pub record Whole : Type 0 where
    pub listed : List Path
    pub files : List TreeFile
    pub events : List Event
    pub walked : Walked m tree root listed files events
    pub whole : IsWhole m tree root listed

  covers_next : (listed left rest : List Path) (g : Path) → ((f : Path) → IsFolder m tree root f → Has listed f ⊎ Has left f) → ((f : Path) → Has left f → (g ≡ f) ⊎ Has rest f) → (f : Path) → IsFolder m tree root f → Has (listed ++ g ∷ []) f ⊎ Has rest f
  covers_next listed left rest g covers parted f is = elim (covers f is) [
    | inl h ↦ inl (has_left listed (g ∷ []) f h)
    | inr h ↦ elim (parted f h) [ inl e ↦ inl (subst (Has (listed ++ g ∷ [])) e (has-last listed g)) | inr k ↦ inr k ]
  ]

  in_left : (listed left : List Path) (g : Path) → Has listed g ⊎ Has left g → (Has listed g → ⊥) → Has left g
  in_left listed left g (inl h) never = absurd (never h)
  in_left listed left g (inr h) never = h

  abbrev Covers : List Path → List Path → Type 0
  Covers listed left = (f : Path) → IsFolder m tree root f → Has listed f ⊎ Has left f

  turn : (left listed : List Path) (files : List TreeFile) (events : List Event) → Walked m tree root listed files events → Covers listed left
      → ((rest more : List Path) (fs : List TreeFile) (es : List Event) → length left ≡ suc (length rest) → Walked m tree root more fs es → Covers more rest → NotNone Whole) → NotNone Whole
  unfolding IsLeft
  turn left listed files events walked covers go = bind (decided ((f : Path) × IsLeft listed f)) (λ d. elim d [
    | inr never ↦ sure (record { listed = listed; files = files; events = events; walked = walked; whole = λ f is. elim (text_or listed f) [ inl h ↦ h | inr new ↦ absurd (never (f, (is, new))) ] })
    | inl f ↦ bind (next_folder listed f.0 f.1) (λ g. bind (candidates g.0) (λ names.
        let rest = without left g.0 (in_left listed left g.0 (covers g.0 g.1.is) g.1.fresh) in
        go rest.0 (listed ++ g.0 ∷ []) (files ++ files_of m root g.0 names.0) (events ++ events_of g.0 (files_of m root g.0 names.0)) rest.1
        (next listed files events g.0 names.0 walked g.1 names.1) (covers_next listed left rest.0 g.0 covers rest.2)))
  ])

  whole_from : (n : ℕ) (left listed : List Path) (files : List TreeFile) (events : List Event) → length left ≤ n → Walked m tree root listed files events → Covers listed left → NotNone Whole
  whole_from zero left listed files events few walked covers = turn left listed files events walked covers (λ rest more fs es e w c. absurd (omega (arith, few, e)))
  whole_from (suc n) left listed files events few walked covers = turn left listed files events walked covers (λ rest more fs es e w c. whole_from n rest more fs es (omega (arith, few, e)) w c)

  pub walk_ends : NotNone Whole
  walk_ends = whole_from (length ([] ∷ all_parts m)) ([] ∷ all_parts m) [] [] [] (omega arith) start (λ f is. inr (folder_listed m tree root f is))
