-- Over a store that tells its files, a request has one list of inputs or one refusal.
use Rattle.std.proofs.Common.{◌≡◌, ℕ, Option, None, Some, List, Ok, Err, sym, ap, ◌∙◌, inl, inr}
use Rattle.std.specs.Prelude.{Result}
use Rattle.api_inputs.proofs.OneFile.{all_or_fault, one_first, one_of_all}
use Rattle.api_inputs.specs.FrozenInputs.{AreLines, IsFirstFault}
use Rattle.api_inputs.specs.Inputs.{AreInputs, IsInputRefusal, old_refused, tree_refused, std_refused, client_refused, api_refused, except_refused, MayHaveClient, MayHaveOld, MayRefuseClient, MayRefuseOld, optional}
use Rattle.api_inputs.specs.Reads.{MayHaveStd, MayLoad, MayLoadClient}
use Rattle.api_inputs.specs.declared.inputs.Inputs.{Inputs}
use Rattle.api_texts.specs.FaultLines.{frozen_line, load_line}
use Rattle.api_texts.specs.declared.lines.FrozenFault.{FrozenFault}
use Rattle.api_texts.specs.declared.lines.Side.TheVariants as side
use Rattle.api_words.specs.declared.request.Request.{Request}
use Rattle.go_load.specs.Answers.{Agree, IsFree}
use Rattle.go_load.specs.Loads.{LoadsFiles, LoadsModule}
use Rattle.go_load.specs.declared.error.LoadError.{LoadError}
use Rattle.go_load.specs.declared.kind.TreeKind.{TreeKind}
use Rattle.go_load.specs.declared.kind.TreeKind.TheVariants as kind
use Rattle.go_model.specs.declared.files.tree.Tree.{Tree}
use Rattle.go_outside.specs.Stores.{Contents}

same_tree : (t u : Tree) → ◌≡◌ {A = Result Tree LoadError} (Ok t) (Ok u) → t ≡ u
same_tree t u e = cc

same_error : (d e : LoadError) → ◌≡◌ {A = Result Tree LoadError} (Err d) (Err e) → d ≡ e
same_error d e f = cc

tree_or_error : (t : Tree) (e : LoadError) → ◌≡◌ {A = Result Tree LoadError} (Ok t) (Err e) → ⊥
tree_or_error t e f = cc

agreed : (r s : Result Tree LoadError) → Agree r s → (IsFree r → ⊥) → (IsFree s → ⊥) → r ≡ s
agreed r s (inl f) n k = absurd (n f)
agreed r s (inr (inl f)) n k = absurd (k f)
agreed r s (inr (inr e)) n k = e

module _ (module_answer : (m : Contents) (root : List ℕ) (r s : Result Tree LoadError) → LoadsModule m root r → LoadsModule m root s → Agree r s)
    (files_answer : (m : Contents) (tree : TreeKind) (root : List ℕ) (r s : Result Tree LoadError) → LoadsFiles m tree root r → LoadsFiles m tree root s → Agree r s) (m : Contents) where
  -- ---- trees

  one_load : (root : List ℕ) (r s : Result Tree LoadError) → MayLoad (Some m) root r → MayLoad (Some m) root s → (IsFree r → ⊥) → (IsFree s → ⊥) → r ≡ s
  one_load root r s a b n k = agreed r s (module_answer m root r s a.loaded b.loaded) n k

  one_std : (root : Option (List ℕ)) (r s : Result Tree LoadError) → MayHaveStd (Some m) root r → MayHaveStd (Some m) root s → (IsFree r → ⊥) → (IsFree s → ⊥) → r ≡ s
  one_std None r s a b n k = a ∙ sym b
  one_std (Some root) r s a b n k = agreed r s (files_answer m kind.Std root r s a.loaded b.loaded) n k

  same_olds : (root : Option (List ℕ)) (o p : Option Tree) → MayHaveOld (Some m) root o → MayHaveOld (Some m) root p → o ≡ p
  same_olds None o p a b = a ∙ sym b
  same_olds (Some root) o p a b = a.2 ∙ ap Some (same_tree a.0 b.0 (one_load root (Ok a.0) (Ok b.0) a.1 b.1 (λ f. f) (λ f. f))) ∙ sym b.2

  old_or_not : (root : Option (List ℕ)) (o : Option Tree) (e : LoadError) → MayHaveOld (Some m) root o → MayRefuseOld (Some m) root e → (IsFree (Err e) → ⊥) → ⊥
  old_or_not None o e a b n = b
  old_or_not (Some root) o e a b n = tree_or_error a.0 e (one_load root (Ok a.0) (Err e) a.1 b (λ f. f) n)

  same_old_errors : (root : Option (List ℕ)) (d e : LoadError) → MayRefuseOld (Some m) root d → MayRefuseOld (Some m) root e → (IsFree (Err d) → ⊥) → (IsFree (Err e) → ⊥) → d ≡ e
  same_old_errors None d e a b n k = absurd a
  same_old_errors (Some root) d e a b n k = same_error d e (one_load root (Err d) (Err e) a b n k)

  -- ---- clients

  one_folder : (root : List ℕ) (r s : Result Tree LoadError) → MayLoadClient (Some m) root r → MayLoadClient (Some m) root s → (IsFree r → ⊥) → (IsFree s → ⊥) → r ≡ s
  one_folder root r s a b n k = agreed r s (files_answer m kind.Client root r s a.loaded b.loaded) n k

  same_clients : (root : Option (List ℕ)) (c d : Option Tree) → MayHaveClient (Some m) root c → MayHaveClient (Some m) root d → c ≡ d
  same_clients None c d a b = a ∙ sym b
  same_clients (Some root) c d a b = a.2 ∙ ap Some (same_tree a.0 b.0 (one_folder root (Ok a.0) (Ok b.0) a.1 b.1 (λ f. f) (λ f. f))) ∙ sym b.2

  client_or_not : (root : Option (List ℕ)) (c : Option Tree) (e : LoadError) → MayHaveClient (Some m) root c → MayRefuseClient (Some m) root e → (IsFree (Err e) → ⊥) → ⊥
  client_or_not None c e a b n = b
  client_or_not (Some root) c e a b n = tree_or_error a.0 e (one_folder root (Ok a.0) (Err e) a.1 b (λ f. f) n)

  same_client_errors : (root : Option (List ℕ)) (d e : LoadError) → MayRefuseClient (Some m) root d → MayRefuseClient (Some m) root e → (IsFree (Err d) → ⊥) → (IsFree (Err e) → ⊥) → d ≡ e
  same_client_errors None d e a b n k = absurd a
  same_client_errors (Some root) d e a b n k = same_error d e (one_folder root (Err d) (Err e) a b n k)

  module _ (q : Request) where
    same_trees : (t u : Tree) → MayLoad (Some m) q.new (Ok t) → MayLoad (Some m) q.new (Ok u) → t ≡ u
    same_trees t u a b = same_tree t u (one_load q.new (Ok t) (Ok u) a b (λ f. f) (λ f. f))

    same_stds : (t u : Tree) → MayHaveStd (Some m) q.std (Ok t) → MayHaveStd (Some m) q.std (Ok u) → t ≡ u
    same_stds t u a b = same_tree t u (one_std q.std (Ok t) (Ok u) a b (λ f. f) (λ f. f))

    loaded_or_not : (t : Tree) (e : LoadError) → MayLoad (Some m) q.new (Ok t) → MayLoad (Some m) q.new (Err e) → (IsFree (Err e) → ⊥) → ⊥
    loaded_or_not t e a b n = tree_or_error t e (one_load q.new (Ok t) (Err e) a b (λ f. f) n)

    std_or_not : (t : Tree) (e : LoadError) → MayHaveStd (Some m) q.std (Ok t) → MayHaveStd (Some m) q.std (Err e) → (IsFree (Err e) → ⊥) → ⊥
    std_or_not t e a b n = tree_or_error t e (one_std q.std (Ok t) (Err e) a b (λ f. f) n)

    pub same_inputs : (a b : Inputs) → AreInputs (Some m) q a → AreInputs (Some m) q b → a ≡ b
    same_inputs a b h k =
        let old_tree : a.old_tree ≡ b.old_tree = same_olds q.old a.old_tree b.old_tree h.old_tree k.old_tree in
        let tree : a.tree ≡ b.tree = same_trees a.tree b.tree h.tree k.tree in
        let std_tree : a.std_tree ≡ b.std_tree = same_stds a.std_tree b.std_tree h.std_tree k.std_tree in
        let client : a.client ≡ b.client = same_clients q.client a.client b.client h.client k.client in
        let required : a.required ≡ b.required = one_of_all m h.required k.required in
        let exceptions : a.exceptions ≡ b.exceptions = one_of_all m h.exceptions k.exceptions in
        (λ i. record { old_tree = old_tree i; tree = tree i; std_tree = std_tree i; client = client i; required = required i; exceptions = exceptions i })

    same_faults : (paths : List (List ℕ)) (at bt : List ℕ) (f g : FrozenFault) → IsFirstFault (Some m) paths at f → IsFirstFault (Some m) paths bt g → frozen_line at f ≡ frozen_line bt g
    same_faults paths at bt f g a b = let k = one_first m a b in (λ i. frozen_line (k.0 i) (k.1 i))

    -- ---- refusals

    -- what is refused isn't read
    unless_old : {A : Type 0} (o : Option Tree) (e : LoadError) → MayRefuseOld (Some m) q.old e → (IsFree (Err e) → ⊥) → MayHaveOld (Some m) q.old o → A
    unless_old o e h n k = absurd (old_or_not q.old o e k h n)

    unless_tree : {A : Type 0} (t : Tree) (e : LoadError) → MayLoad (Some m) q.new (Err e) → (IsFree (Err e) → ⊥) → MayLoad (Some m) q.new (Ok t) → A
    unless_tree t e h n k = absurd (loaded_or_not t e k h n)

    unless_std : {A : Type 0} (s : Tree) (e : LoadError) → MayHaveStd (Some m) q.std (Err e) → (IsFree (Err e) → ⊥) → MayHaveStd (Some m) q.std (Ok s) → A
    unless_std s e h n k = absurd (std_or_not s e k h n)

    unless_client : {A : Type 0} (c : Option Tree) (e : LoadError) → MayRefuseClient (Some m) q.client e → (IsFree (Err e) → ⊥) → MayHaveClient (Some m) q.client c → A
    unless_client c e h n k = absurd (client_or_not q.client c e k h n)

    unless_api : {lines : List (List ℕ)} {path : List ℕ} {f : FrozenFault} {A : Type 0} → IsFirstFault (Some m) q.api path f → AreLines (Some m) q.api lines → A
    unless_api d l = absurd (all_or_fault m l d)

    pub same_refusal : (a b : List ℕ) → IsInputRefusal (Some m) q a → IsInputRefusal (Some m) q b → a ≡ b
    same_refusal a b (old_refused e h n) (old_refused e' h' n') = ap (load_line side.Old) (same_old_errors q.old e e' h h' n n')
    same_refusal a b (old_refused e h n) (tree_refused o' e' h' i' n') = unless_old o' e h n h'
    same_refusal a b (old_refused e h n) (std_refused o' t' e' h' i' j' n') = unless_old o' e h n h'
    same_refusal a b (old_refused e h n) (client_refused o' t' s' e' h' i' j' x' n') = unless_old o' e h n h'
    same_refusal a b (old_refused e h n) (api_refused o' t' s' c' z' f' h' i' j' x' n') = unless_old o' e h n h'
    same_refusal a b (old_refused e h n) (except_refused o' t' s' c' ls' z' f' h' i' j' x' y' n') = unless_old o' e h n h'
    same_refusal a b (tree_refused o e h i n) (old_refused e' h' n') = unless_old o e' h' n' h
    same_refusal a b (tree_refused o e h i n) (tree_refused o' e' h' i' n') = ap (load_line side.New) (same_error e e' (one_load q.new (Err e) (Err e') i i' n n'))
    same_refusal a b (tree_refused o e h i n) (std_refused o' t' e' h' i' j' n') = unless_tree t' e i n i'
    same_refusal a b (tree_refused o e h i n) (client_refused o' t' s' e' h' i' j' x' n') = unless_tree t' e i n i'
    same_refusal a b (tree_refused o e h i n) (api_refused o' t' s' c' z' f' h' i' j' x' n') = unless_tree t' e i n i'
    same_refusal a b (tree_refused o e h i n) (except_refused o' t' s' c' ls' z' f' h' i' j' x' y' n') = unless_tree t' e i n i'
    same_refusal a b (std_refused o t e h i j n) (old_refused e' h' n') = unless_old o e' h' n' h
    same_refusal a b (std_refused o t e h i j n) (tree_refused o' e' h' i' n') = unless_tree t e' i' n' i
    same_refusal a b (std_refused o t e h i j n) (std_refused o' t' e' h' i' j' n') = ap (load_line side.Std) (same_error e e' (one_std q.std (Err e) (Err e') j j' n n'))
    same_refusal a b (std_refused o t e h i j n) (client_refused o' t' s' e' h' i' j' x' n') = unless_std s' e j n j'
    same_refusal a b (std_refused o t e h i j n) (api_refused o' t' s' c' z' f' h' i' j' x' n') = unless_std s' e j n j'
    same_refusal a b (std_refused o t e h i j n) (except_refused o' t' s' c' ls' z' f' h' i' j' x' y' n') = unless_std s' e j n j'
    same_refusal a b (client_refused o t s e h i j x n) (old_refused e' h' n') = unless_old o e' h' n' h
    same_refusal a b (client_refused o t s e h i j x n) (tree_refused o' e' h' i' n') = unless_tree t e' i' n' i
    same_refusal a b (client_refused o t s e h i j x n) (std_refused o' t' e' h' i' j' n') = unless_std s e' j' n' j
    same_refusal a b (client_refused o t s e h i j x n) (client_refused o' t' s' e' h' i' j' x' n') = ap (load_line side.Client) (same_client_errors q.client e e' x x' n n')
    same_refusal a b (client_refused o t s e h i j x n) (api_refused o' t' s' c' z' f' h' i' j' x' n') = unless_client c' e x n x'
    same_refusal a b (client_refused o t s e h i j x n) (except_refused o' t' s' c' ls' z' f' h' i' j' x' y' n') = unless_client c' e x n x'
    same_refusal a b (api_refused o t s c z f h i j x n) (old_refused e' h' n') = unless_old o e' h' n' h
    same_refusal a b (api_refused o t s c z f h i j x n) (tree_refused o' e' h' i' n') = unless_tree t e' i' n' i
    same_refusal a b (api_refused o t s c z f h i j x n) (std_refused o' t' e' h' i' j' n') = unless_std s e' j' n' j
    same_refusal a b (api_refused o t s c z f h i j x n) (client_refused o' t' s' e' h' i' j' x' n') = unless_client c e' x' n' x
    same_refusal a b (api_refused o t s c z f h i j x n) (api_refused o' t' s' c' z' f' h' i' j' x' n') = same_faults q.api z z' f f' n n'
    same_refusal a b (api_refused o t s c z f h i j x n) (except_refused o' t' s' c' ls' z' f' h' i' j' x' y' n') = unless_api n y'
    same_refusal a b (except_refused o t s c ls z f h i j x y n) (old_refused e' h' n') = unless_old o e' h' n' h
    same_refusal a b (except_refused o t s c ls z f h i j x y n) (tree_refused o' e' h' i' n') = unless_tree t e' i' n' i
    same_refusal a b (except_refused o t s c ls z f h i j x y n) (std_refused o' t' e' h' i' j' n') = unless_std s e' j' n' j
    same_refusal a b (except_refused o t s c ls z f h i j x y n) (client_refused o' t' s' e' h' i' j' x' n') = unless_client c e' x' n' x
    same_refusal a b (except_refused o t s c ls z f h i j x y n) (api_refused o' t' s' c' z' f' h' i' j' x' n') = unless_api n' y
    same_refusal a b (except_refused o t s c ls z f h i j x y n) (except_refused o' t' s' c' ls' z' f' h' i' j' x' y' n') = same_faults (optional q.except) z z' f f' n n'

    pub inputs_or_refusal : (a : Inputs) (line : List ℕ) → AreInputs (Some m) q a → IsInputRefusal (Some m) q line → ⊥
    inputs_or_refusal a line h (old_refused e k n) = unless_old a.old_tree e k n h.old_tree
    inputs_or_refusal a line h (tree_refused o e k l n) = unless_tree a.tree e l n h.tree
    inputs_or_refusal a line h (std_refused o t e k l x n) = unless_std a.std_tree e x n h.std_tree
    inputs_or_refusal a line h (client_refused o t s e k l x y n) = unless_client a.client e y n h.client
    inputs_or_refusal a line h (api_refused o t s c p f k l x y n) = unless_api n h.required
    inputs_or_refusal a line h (except_refused o t s c ls p f k l x y r n) = all_or_fault m h.exceptions n
