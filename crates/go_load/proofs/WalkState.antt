-- What the walk knows between two folders.
use Rattle.std.proofs.Common.{◌≡◌, Option, Some, None, List, [], ◌∷◌, ◌++◌, refl, sym, ap, ◌∙◌, subst, ◌⊎◌, inl, inr, Ok, Err, append_assoc, append-nil}
use Rattle.go_base.specs.Lists.{Has, Before}
use Rattle.go_model.specs.declared.files.tree.TreeFile.{TreeFile}
use Rattle.go_outside.specs.Paths.{Path}
use Rattle.go_outside.specs.Stores.{Contents, IsTold}
use Rattle.go_load.specs.Names.{under, folder_path}
use Rattle.go_load.specs.Walk.{IsThere, IsFolder, top, sub, IsChild, IsNext, Event, folder_event, events_of, package_events, file_events, files_of, Walked, start, next, before, within, Refusal, first_refusal, no_counts}
use Rattle.go_load.specs.Loads.{Walks}
use Rattle.go_load.specs.inner.Steps.{IsChildAt, Visits}
use Rattle.go_base.specs.Growing.{Grows}
use Rattle.go_load.specs.declared.walk.Taken.{Taken}
use Rattle.go_load.specs.declared.error.LoadError.{LoadError}
use Rattle.go_load.specs.declared.error.LoadError.TheVariants as error
use Rattle.go_load.specs.declared.kind.TreeKind.{TreeKind}
use Rattle.go_load.proofs.Members.{has-left, has-last, has-back}
use Rattle.go_load.proofs.FolderOrder.{before_trans, not_before_itself, To, to_before, to_to, not_back, walked_some, before_under, place_under}

none_some : (r : Refusal) → ◌≡◌ {A = Option Refusal} None (Some r) → ⊥
none_some r e = cc

module _ (m : Contents) (tree : TreeKind) (root : Path) where
  pub record State (pending : List Path) (taken : Taken) : Type 0 where
    done : List Path
    es : List Event
    walked : Walked m tree root done taken.files es
    goes : (rest : List Event) → first_refusal no_counts (es ++ rest) ≡ first_refusal taken.counts rest
    are : (x : Path) → Has pending x → IsFolder m tree root x
    rising : (d x : Path) → Has done d → Has pending x → Before d x
    closed : (d x : Path) → Has done d → IsChildAt m tree root d x → Has done x ⊎ Has pending x
    tops : Has done [] ⊎ Has pending []
    there : (es ≡ []) ⊎ IsThere m root

  pub state_first : (pending : List Path) (taken : Taken) (empty : Path) → empty ≡ [] → Grows (λ x. empty ≡ x) [] pending → taken.files ≡ [] → taken.counts ≡ no_counts → State pending taken
  state_first pending taken empty e g none zero = record {
    done = [];
    es = [];
    walked = subst (λ (fs : List TreeFile). Walked m tree root [] fs []) (sym none) start;
    goes = λ rest. ap (λ c. first_refusal c rest) (sym zero);
    are = λ x h. elim (g.sound x h) [ inl a ↦ absurd a | inr s ↦ subst (IsFolder m tree root) (sym e ∙ s) top ];
    rising = λ d x h k. absurd h;
    closed = λ d x h k. absurd h;
    tops = inr (g.complete [] e);
    there = inl refl;
  }

  module _ {pending : List Path} {taken : Taken} (s : State pending taken) where
    abbrev Reached : Path → Type 0
    Reached x = Has s.done x ⊎ ((q : Path) × Has pending q × To q x)

    reached_by : (x : Path) → Has s.done x ⊎ Has pending x → Reached x
    reached_by x (inl h) = inl h
    reached_by x (inr h) = inr (x, h, inl refl)

    reached_child : (folder name : Path) → IsChild m tree root folder name → Reached folder → Reached (under folder name)
    reached_child folder name c (inl h) = reached_by (under folder name) (s.closed folder (under folder name) h (name, c, refl))
    reached_child folder name c (inr h) = inr (h.0, h.1, inr (to_before h.0 folder (under folder name) h.2 (before_under folder name (walked_some name c.walked))))

    -- a folder that isn't listed stands at or after one that is found
    reached : (g : Path) → IsFolder m tree root g → Reached g
    reached g top = reached_by [] s.tops
    reached g (sub folder name f c) = reached_child folder name c (reached folder f)

  listed_by : (done : List Path) (x : Path) → (Has done x ⊎ ((q : Path) × Has [] q × To q x)) → Has done x
  listed_by done x (inl h) = h
  listed_by done x (inr h) = absurd h.1

  there_by : (done : List Path) (files : List TreeFile) (es : List Event) → Walked m tree root done files es → Has done [] → (es ≡ []) ⊎ IsThere m root → IsThere m root
  there_by done files es start h t = absurd h
  there_by done files es (next listed fs es' folder names w n c) h (inl e) = absurd (some_events es' (package_events folder (files_of m root folder names) ++ file_events (files_of m root folder names)) e)
    where
      some_events : (xs ys : List Event) → xs ++ folder_event folder ∷ ys ≡ [] → ⊥
      some_events [] ys e = cc
      some_events (x ∷ xs) ys e = cc
  there_by done files es (next listed fs es' folder names w n c) h (inr t) = t

  pub state_whole : (taken : Taken) → State [] taken → Walks m tree root (Ok taken.files)
  state_whole taken s = (
    there_by s.done taken.files s.es s.walked (listed_by s.done [] (reached s [] top)) s.there,
    (s.done, s.es, s.walked, (λ f is. listed_by s.done f (reached s f is)), ap (first_refusal no_counts) (sym (append-nil s.es)) ∙ s.goes []),
  )

  -- where a folder of the walk stands
  missing_by : (f : Path) → IsFolder m tree root f → (IsThere m (folder_path root f) → ⊥) → (IsThere m root → ⊥) × (f ≡ [])
  missing_by f top h = (h, refl)
  missing_by f (sub folder name is c) h = absurd (h (subst (IsThere m) (sym (place_under root folder name (walked_some name c.walked))) c.there))

  -- where a folder of the walk is there, so is the root
  root_from : (f : Path) → IsFolder m tree root f → IsThere m (folder_path root f) → IsThere m root
  root_from f top h = h
  root_from f (sub folder name is c) h = root_from folder is (name ++ 47 ∷ c.there.0, subst (IsTold m) (append_assoc (folder_path root folder) (47 ∷ name) (47 ∷ c.there.0)) c.there.1)

  module _ {f : Path} {rest : List Path} {taken : Taken} (s : State (f ∷ rest) taken) (above : (x : Path) → Has rest x → Before f x) where
    least_of : (q : Path) → Has (f ∷ rest) q → To f q
    least_of q (inl e) = inl e
    least_of q (inr h) = inr (above q h)

    is_next : IsNext m tree root s.done f
    is_next = record {
      is = s.are f (inl refl);
      fresh = λ h. not_before_itself f (s.rising f f h (inl refl));
      least = λ g is h. elim (reached s g is) [ inl d ↦ absurd (h d) | inr q ↦ not_back f g (to_to f q.0 g (least_of q.0 q.1) q.2) ];
    }

    new_folder : (new : List Path) → Grows (IsChildAt m tree root f) rest new → (x : Path) → Has new x → IsFolder m tree root x × Before f x
    new_folder new g x h = elim (g.sound x h) [
      | inl o ↦ (s.are x (inr o), above x o)
      | inr c ↦ (subst (IsFolder m tree root) c.2 (sub f c.0 (s.are f (inl refl)) c.1), subst (λ (w : Path). Before f w) c.2 (before_under f c.0 (walked_some c.0 c.1.walked)))
    ]

    moved : (new : List Path) → ((x : Path) → Has rest x → Has new x) → (x : Path) → (Has s.done x ⊎ Has (f ∷ rest) x) → Has (s.done ++ f ∷ []) x ⊎ Has new x
    moved new kept x (inl h) = inl (has-left s.done (f ∷ []) x h)
    moved new kept x (inr (inl e)) = inl (subst (Has (s.done ++ f ∷ [])) e (has-last s.done f))
    moved new kept x (inr (inr h)) = inr (kept x h)

    pub state_next : (new : List Path) (taken' : Taken) → Visits m tree root f rest new taken taken' (Ok tt) → State new taken'
    state_next new taken' v =
        let names = v.0 in
        let grows = v.3 in
        record {
          done = s.done ++ f ∷ [];
          es = s.es ++ events_of f (files_of m root f names);
          walked = subst (λ (fs : List TreeFile). Walked m tree root (s.done ++ f ∷ []) fs (s.es ++ events_of f (files_of m root f names))) (sym v.4) (next s.done taken.files s.es f names s.walked is_next v.2);
          goes = λ more. ap (first_refusal no_counts) (append_assoc s.es (events_of f (files_of m root f names)) more) ∙ s.goes (events_of f (files_of m root f names) ++ more) ∙ v.5 more;
          are = λ x h. (new_folder new grows x h).0;
          rising = λ d x h o. elim (has-back s.done f d h) [ inl b ↦ before_trans d f x (s.rising d f b (inl refl)) (new_folder new grows x o).1 | inr e ↦ subst (λ (w : Path). Before w x) e (new_folder new grows x o).1 ];
          closed = λ d x h c. elim (has-back s.done f d h) [ inl b ↦ moved new grows.kept x (s.closed d x b c) | inr e ↦ inr (grows.complete x (subst (λ (w : Path). IsChildAt m tree root w x) (sym e) c)) ];
          tops = moved new grows.kept [] s.tops;
          there = inr (root_from f (s.are f (inl refl)) v.1);
        }

    first_there : (r : Refusal) → first_refusal taken.counts (folder_event f ∷ []) ≡ Some r → IsThere m root
    first_there r e = elim s.there [ inl none ↦ absurd (none_some r (ap (λ (es : List Event). first_refusal no_counts (es ++ folder_event f ∷ [])) (sym none) ∙ s.goes (folder_event f ∷ []) ∙ e)) | inr t ↦ t ]

    pub state_refused : (new : List Path) (taken' : Taken) (e : LoadError) → Visits m tree root f rest new taken taken' (Err e) → Walks m tree root (Err e)
    state_refused new taken' (error.Missing p) v = let k = missing_by f (s.are f (inl refl)) v.0 in (k.0, v.1 ∙ k.1)
    state_refused new taken' error.NoModule v = v
    state_refused new taken' error.BadModule v = v
    state_refused new taken' (error.Limit l p) (inl v) =
        (first_there (l, p) v, (s.es ++ folder_event f ∷ [], before s.done taken.files s.es f s.walked is_next, s.goes (folder_event f ∷ []) ∙ v))
    state_refused new taken' (error.Limit l p) (inr v) =
        let es = events_of f (files_of m root f v.0) in (
          root_from f (s.are f (inl refl)) v.1,
          (s.es ++ es, within (s.done ++ f ∷ []) (taken.files ++ files_of m root f v.0) (s.es ++ es) (next s.done taken.files s.es f v.0 s.walked is_next v.2), s.goes es ∙ v.3),
        )
    state_refused new taken' error.ReadFault v = tt
    state_refused new taken' error.NoMemory v = tt
