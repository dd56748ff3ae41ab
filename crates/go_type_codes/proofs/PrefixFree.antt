-- No two types have the same bytes, and no bytes of one are the beginning of another's.
use Rattle.std.proofs.Common.{◌≡◌, ◌/◌, ◌%◌, ℕ, zero, suc, List, [], ◌∷◌, ◌++◌, get_or, map, refl, sym, ap, ◌∙◌, Bool, true, false, arith, append_assoc}
use Rattle.go_model.specs.declared.constants.value.Basic.{Basic}
use Rattle.go_model.specs.declared.constants.value.Basic.TheVariants as basic
use Rattle.go_model.specs.declared.types.names.TypeName.{TypeName}
use Rattle.go_model.specs.declared.types.names.Sel.{Sel}
use Rattle.go_model.specs.declared.types.term.Direction.{Direction}
use Rattle.go_model.specs.declared.types.term.Direction.TheVariants as towards
use Rattle.go_model.specs.declared.types.term.Term.{Term, Term-F, out-Term, roll-Term, roll-out-Term, fold-roll-Term}
use Rattle.go_model.specs.declared.types.term.Field.{Field, out-Field, roll-Field, roll-out-Field, fold_out-Field}
use Rattle.go_model.specs.declared.types.term.Method.{Method, out-Method, roll-Method, roll-out-Method, fold_out-Method}
use Rattle.go_model.specs.declared.types.term.Signature.{Signature, out-Signature, roll-Signature, roll-out-Signature, fold_out-Signature}
use Rattle.go_model.specs.types.Terms.{Layer}
use Rattle.go_type_codes.specs.Codes.{Code, code_of_text, code_of_list, code_of_rest, digits, code_of_number, code_of_flag, code_of_direction, code_of_basic, code_of_sel, field_code, method_code, signature_code, layer_code, code, code_of_field, code_of_method, code_of_signature, code_of_pair}
use Rattle.go_type_images.specs.declared.pair.TypePair.{TypePair}
use Rattle.go_type_images.proofs.Trees.{Tree, tree_plain, tree_named, tree_pointer, tree_slice, tree_array, tree_map, tree_chan, tree_func, tree_struct, tree_interface, SignatureTree, signature_tree, Trees, trees_none, trees_more, FieldTrees, fields_none, fields_more, MethodTrees, methods_none, methods_more, grown}

-- where the first codes stand before rests that make them equal, the fact holds and the rests are equal
abbrev Reads : Code → Code → Type 0 → Type 0
Reads x y P = (r s : Code) → x ++ r ≡ y ++ s → P × (r ≡ s)

head_of : (m n : ℕ) (x y : Code) → m ∷ x ≡ n ∷ y → m ≡ n
head_of m n x y e = cc

tail_of : (m n : ℕ) (x y : Code) → m ∷ x ≡ n ∷ y → x ≡ y
tail_of m n x y e = cc

nothing : Reads [] [] (Unit {0})
nothing r s e = (tt, e)

onto : {P Q : Type 0} (x y : Code) → (P → Q) → Reads x y P → Reads x y Q
onto x y f h r s e = let k = h r s e in (f k.0, k.1)

more : {P : Type 0} (m n : ℕ) (x y : Code) → Reads x y P → Reads (m ∷ x) (n ∷ y) ((m ≡ n) × P)
more m n x y h r s e = let k = h r s (tail_of m n (x ++ r) (y ++ s) e) in ((head_of m n (x ++ r) (y ++ s) e, k.0), k.1)

both : {P Q : Type 0} (x y z w : Code) → Reads x y P → Reads z w Q → Reads (x ++ z) (y ++ w) (P × Q)
both x y z w h i r s e =
    let k = h (z ++ r) (w ++ s) (sym (append_assoc x z r) ∙ e ∙ append_assoc y w s) in
    let j = i r s k.1 in ((k.0, j.0), j.1)

differ : {P : Type 0} (m n : ℕ) (x y : Code) → (m ≡ n → ⊥) → Reads (m ∷ x) (n ∷ y) P
differ m n x y d r s e = absurd (d (head_of m n (x ++ r) (y ++ s) e))

text_reads : (a b : List ℕ) → Reads (code_of_text a) (code_of_text b) (a ≡ b)
text_reads [] [] = onto (0 ∷ []) (0 ∷ []) (λ h. refl) (more 0 0 [] [] nothing)
text_reads [] (c ∷ cs) = differ 0 1 [] (c ∷ code_of_text cs) (λ e. omega arith)
text_reads (b ∷ bs) [] = differ 1 0 (b ∷ code_of_text bs) [] (λ e. omega arith)
text_reads (b ∷ bs) (c ∷ cs) = onto (1 ∷ b ∷ code_of_text bs) (1 ∷ c ∷ code_of_text cs) (λ h. cc (h.1.0, h.1.1)) (more 1 1 (b ∷ code_of_text bs) (c ∷ code_of_text cs) (more b c (code_of_text bs) (code_of_text cs) (text_reads bs cs)))

rest_reads : (m n : ℕ) → Reads (code_of_rest m) (code_of_rest n) (m ≡ n)
rest_reads zero zero = onto (0 ∷ []) (0 ∷ []) (λ h. refl) (more 0 0 [] [] nothing)
rest_reads zero (suc n) = differ 0 1 [] (code_of_rest n) (λ e. omega arith)
rest_reads (suc m) zero = differ 1 0 (code_of_rest m) [] (λ e. omega arith)
rest_reads (suc m) (suc n) = onto (1 ∷ code_of_rest m) (1 ∷ code_of_rest n) (λ h. ap suc h.1) (more 1 1 (code_of_rest m) (code_of_rest n) (rest_reads m n))

same_number : (m n : ℕ) → m % 256 ≡ n % 256 → m / 256 ≡ n / 256 → m ≡ n
same_number m n e f = omega arith

digits_read : (k m n : ℕ) → Reads (digits k m) (digits k n) (m ≡ n)
digits_read zero m n = rest_reads m n
digits_read (suc k) m n = onto (digits (suc k) m) (digits (suc k) n) (λ h. same_number m n h.0 h.1) (more (m % 256) (n % 256) (digits k (m / 256)) (digits k (n / 256)) (digits_read k (m / 256) (n / 256)))

flags : (a b : Bool) → code_of_flag a ≡ code_of_flag b → a ≡ b
flags true true e = refl
flags true false e = absurd (omega arith)
flags false true e = absurd (omega arith)
flags false false e = refl

directions : (a b : Direction) → code_of_direction a ≡ code_of_direction b → a ≡ b
directions towards.Both towards.Both e = refl
directions towards.SendOnly towards.SendOnly e = refl
directions towards.ReceiveOnly towards.ReceiveOnly e = refl
directions a b e = absurd (omega arith)

abbrev basics : List Basic
basics = basic.Bool ∷ basic.Int ∷ basic.Int8 ∷ basic.Int16 ∷ basic.Int32 ∷ basic.Int64 ∷ basic.Uint ∷ basic.Uint8 ∷ basic.Uint16 ∷ basic.Uint32 ∷ basic.Uint64 ∷ basic.Uintptr ∷ basic.Float32 ∷ basic.Float64 ∷ basic.Complex64 ∷ basic.Complex128 ∷ basic.Str ∷ []

basic_back : (b : Basic) → get_or basics (code_of_basic b) basic.Bool ≡ b
basic_back basic.Bool = refl
basic_back basic.Int = refl
basic_back basic.Int8 = refl
basic_back basic.Int16 = refl
basic_back basic.Int32 = refl
basic_back basic.Int64 = refl
basic_back basic.Uint = refl
basic_back basic.Uint8 = refl
basic_back basic.Uint16 = refl
basic_back basic.Uint32 = refl
basic_back basic.Uint64 = refl
basic_back basic.Uintptr = refl
basic_back basic.Float32 = refl
basic_back basic.Float64 = refl
basic_back basic.Complex64 = refl
basic_back basic.Complex128 = refl
basic_back basic.Str = refl

basics_same : (a b : Basic) → code_of_basic a ≡ code_of_basic b → a ≡ b
basics_same a b e = sym (basic_back a) ∙ ap (λ n. get_or basics n basic.Bool) e ∙ basic_back b

names_read : (m n : TypeName) → Reads (code_of_text m.path ++ code_of_text m.name) (code_of_text n.path ++ code_of_text n.name) (m ≡ n)
names_read m n = onto (code_of_text m.path ++ code_of_text m.name) (code_of_text n.path ++ code_of_text n.name) (λ h. (λ i. record { path = h.0 i; name = h.1 i })) (both (code_of_text m.path) (code_of_text n.path) (code_of_text m.name) (code_of_text n.name) (text_reads m.path n.path) (text_reads m.name n.name))

sels_read : (a b : Sel) → Reads (code_of_sel a) (code_of_sel b) (a ≡ b)
sels_read a b = onto (code_of_sel a) (code_of_sel b) (λ h. (λ i. record { name = h.0 i; «package» = h.1 i })) (both (code_of_text a.name) (code_of_text b.name) (code_of_text a.«package») (code_of_text b.«package») (text_reads a.name b.name) (text_reads a.«package» b.«package»))

-- the code of a level: a number that tells its kind, and the codes of its parts
abbrev kind : Layer → ℕ
kind (Term-F.Plain b) = 0
kind (Term-F.Named n) = 1
kind (Term-F.Pointer e) = 2
kind (Term-F.Slice e) = 3
kind (Term-F.Array n e) = 4
kind (Term-F.Map k e) = 5
kind (Term-F.Chan d e) = 6
kind (Term-F.Func g) = 7
kind (Term-F.Struct fs) = 8
kind (Term-F.Interface ms) = 9

abbrev body : Layer → Code
body (Term-F.Plain b) = code_of_basic b ∷ []
body (Term-F.Named n) = code_of_text n.path ++ code_of_text n.name
body (Term-F.Pointer e) = code e
body (Term-F.Slice e) = code e
body (Term-F.Array n e) = code_of_number n ++ code e
body (Term-F.Map k e) = code k ++ code e
body (Term-F.Chan d e) = code_of_direction d ∷ code e
body (Term-F.Func g) = code_of_signature g
body (Term-F.Struct fs) = code_of_list (map code_of_field fs)
body (Term-F.Interface ms) = code_of_list (map code_of_method ms)

rolled : (l : Layer) → code (roll-Term l) ≡ kind l ∷ body l
rolled (Term-F.Plain b) = fold-roll-Term Code Code Code Code layer_code field_code method_code signature_code _
rolled (Term-F.Named n) = fold-roll-Term Code Code Code Code layer_code field_code method_code signature_code _
rolled (Term-F.Pointer e) = fold-roll-Term Code Code Code Code layer_code field_code method_code signature_code _
rolled (Term-F.Slice e) = fold-roll-Term Code Code Code Code layer_code field_code method_code signature_code _
rolled (Term-F.Array n e) = fold-roll-Term Code Code Code Code layer_code field_code method_code signature_code _
rolled (Term-F.Map k e) = fold-roll-Term Code Code Code Code layer_code field_code method_code signature_code _
rolled (Term-F.Chan d e) = fold-roll-Term Code Code Code Code layer_code field_code method_code signature_code _
rolled (Term-F.Func g) = fold-roll-Term Code Code Code Code layer_code field_code method_code signature_code _
rolled (Term-F.Struct fs) = fold-roll-Term Code Code Code Code layer_code field_code method_code signature_code _
rolled (Term-F.Interface ms) = fold-roll-Term Code Code Code Code layer_code field_code method_code signature_code _

code_is : (t : Term) (l : Layer) → out-Term t ≡ l → code t ≡ kind l ∷ body l
code_is t l e = ap code (sym (roll-out-Term t)) ∙ rolled (out-Term t) ∙ ap (λ (k : Layer). kind k ∷ body k) e

field_is : (f : Field) → code_of_field f ≡ code_of_sel (out-Field f).sel ++ code_of_flag (out-Field f).embedded ∷ (code_of_text (out-Field f).tag ++ code (out-Field f).term)
field_is f = fold_out-Field Code Code Code Code layer_code field_code method_code signature_code f

method_is : (m : Method) → code_of_method m ≡ code_of_sel (out-Method m).sel ++ code_of_signature (out-Method m).signature
method_is m = fold_out-Method Code Code Code Code layer_code field_code method_code signature_code m

signature_is : (g : Signature) → code_of_signature g ≡ code_of_flag (out-Signature g).variadic ∷ (code_of_list (map code (out-Signature g).params) ++ code_of_list (map code (out-Signature g).results))
signature_is g = fold_out-Signature Code Code Code Code layer_code field_code method_code signature_code g

-- of a list, an item at a time
none_read : {A : Type 0} (c : A → Code) (ys : List A) → Reads (code_of_list []) (code_of_list (map c ys)) ([] ≡ ys)
none_read c [] = onto (0 ∷ []) (0 ∷ []) (λ h. refl) (more 0 0 [] [] nothing)
none_read c (y ∷ ys) = differ 0 1 [] (c y ++ code_of_list (map c ys)) (λ e. omega arith)

some_read : {A : Type 0} (c : A → Code) (x : A) (xs : List A) → ((y : A) → Reads (c x) (c y) (x ≡ y)) → ((ys : List A) → Reads (code_of_list (map c xs)) (code_of_list (map c ys)) (xs ≡ ys)) → (ys : List A) → Reads (code_of_list (map c (x ∷ xs))) (code_of_list (map c ys)) (x ∷ xs ≡ ys)
some_read c x xs h i [] = differ 1 0 (c x ++ code_of_list (map c xs)) [] (λ e. omega arith)
some_read c x xs h i (y ∷ ys) = onto (code_of_list (map c (x ∷ xs))) (code_of_list (map c (y ∷ ys))) (λ k. cc (k.1.0, k.1.1)) (more 1 1 (c x ++ code_of_list (map c xs)) (c y ++ code_of_list (map c ys)) (both (c x) (c y) (code_of_list (map c xs)) (code_of_list (map c ys)) (h y) (i ys)))

-- levels of one kind, and of two
abbrev LayersRead : Layer → Layer → Type 0
LayersRead l k = Reads (kind l ∷ body l) (kind k ∷ body k) (l ≡ k)

apart : (l k : Layer) → (kind l ≡ kind k → ⊥) → LayersRead l k
apart l k d = differ (kind l) (kind k) (body l) (body k) d

alike : (l k : Layer) {P : Type 0} → (P → l ≡ k) → Reads (body l) (body k) P → LayersRead l k
alike l k f h = onto (kind l ∷ body l) (kind k ∷ body k) (λ p. f p.1) (more (kind l) (kind k) (body l) (body k) h)

terms_read : (t u : Term) (l : Layer) → out-Term t ≡ l → LayersRead l (out-Term u) → Reads (code t) (code u) (t ≡ u)
terms_read t u l e h r s q =
    let k = h r s (ap (λ w. w ++ r) (sym (code_is t l e)) ∙ q ∙ ap (λ w. w ++ s) (code_is u (out-Term u) refl)) in
    (sym (roll-out-Term t) ∙ ap roll-Term (e ∙ k.0) ∙ roll-out-Term u, k.1)

abbrev Told : Term → Type 0
Told t = (u : Term) → Reads (code t) (code u) (t ≡ u)

abbrev ToldSignature : Signature → Type 0
ToldSignature g = (h : Signature) → Reads (code_of_signature g) (code_of_signature h) (g ≡ h)

of_plain : (b : Basic) (k : Layer) → LayersRead (Term-F.Plain b) k
of_plain b (Term-F.Plain c) = alike (Term-F.Plain b) (Term-F.Plain c) (λ h. ap Term-F.Plain (basics_same b c h.0)) (more (code_of_basic b) (code_of_basic c) [] [] nothing)
of_plain b k = apart (Term-F.Plain b) k (λ e. omega arith)

of_named : (n : TypeName) (k : Layer) → LayersRead (Term-F.Named n) k
of_named n (Term-F.Named m) = alike (Term-F.Named n) (Term-F.Named m) (λ h. ap Term-F.Named h) (names_read n m)
of_named n k = apart (Term-F.Named n) k (λ e. omega arith)

of_pointer : (e : Term) → Told e → (k : Layer) → LayersRead (Term-F.Pointer e) k
of_pointer e h (Term-F.Pointer u) = alike (Term-F.Pointer e) (Term-F.Pointer u) (λ p. ap Term-F.Pointer p) (h u)
of_pointer e h k = apart (Term-F.Pointer e) k (λ q. omega arith)

of_slice : (e : Term) → Told e → (k : Layer) → LayersRead (Term-F.Slice e) k
of_slice e h (Term-F.Slice u) = alike (Term-F.Slice e) (Term-F.Slice u) (λ p. ap Term-F.Slice p) (h u)
of_slice e h k = apart (Term-F.Slice e) k (λ q. omega arith)

of_array : (n : ℕ) (e : Term) → Told e → (k : Layer) → LayersRead (Term-F.Array n e) k
of_array n e h (Term-F.Array m u) = alike (Term-F.Array n e) (Term-F.Array m u) (λ p. cc (p.0, p.1)) (both (code_of_number n) (code_of_number m) (code e) (code u) (digits_read 8 n m) (h u))
of_array n e h k = apart (Term-F.Array n e) k (λ q. omega arith)

of_map : (j e : Term) → Told j → Told e → (k : Layer) → LayersRead (Term-F.Map j e) k
of_map j e i h (Term-F.Map v u) = alike (Term-F.Map j e) (Term-F.Map v u) (λ p. cc (p.0, p.1)) (both (code j) (code v) (code e) (code u) (i v) (h u))
of_map j e i h k = apart (Term-F.Map j e) k (λ q. omega arith)

of_chan : (d : Direction) (e : Term) → Told e → (k : Layer) → LayersRead (Term-F.Chan d e) k
of_chan d e h (Term-F.Chan c u) = alike (Term-F.Chan d e) (Term-F.Chan c u) (λ p. let q = directions d c p.0 in cc (q, p.1)) (more (code_of_direction d) (code_of_direction c) (code e) (code u) (h u))
of_chan d e h k = apart (Term-F.Chan d e) k (λ q. omega arith)

of_func : (g : Signature) → ToldSignature g → (k : Layer) → LayersRead (Term-F.Func g) k
of_func g h (Term-F.Func u) = alike (Term-F.Func g) (Term-F.Func u) (λ p. ap Term-F.Func p) (h u)
of_func g h k = apart (Term-F.Func g) k (λ q. omega arith)

of_struct : (fs : List Field) → ((gs : List Field) → Reads (code_of_list (map code_of_field fs)) (code_of_list (map code_of_field gs)) (fs ≡ gs)) → (k : Layer) → LayersRead (Term-F.Struct fs) k
of_struct fs h (Term-F.Struct gs) = alike (Term-F.Struct fs) (Term-F.Struct gs) (λ p. ap Term-F.Struct p) (h gs)
of_struct fs h k = apart (Term-F.Struct fs) k (λ q. omega arith)

of_interface : (ms : List Method) → ((ns : List Method) → Reads (code_of_list (map code_of_method ms)) (code_of_list (map code_of_method ns)) (ms ≡ ns)) → (k : Layer) → LayersRead (Term-F.Interface ms) k
of_interface ms h (Term-F.Interface ns) = alike (Term-F.Interface ms) (Term-F.Interface ns) (λ p. ap Term-F.Interface p) (h ns)
of_interface ms h k = apart (Term-F.Interface ms) k (λ q. omega arith)

signatures_read : (g h : Signature) → ((ts : List Term) → Reads (code_of_list (map code (out-Signature g).params)) (code_of_list (map code ts)) ((out-Signature g).params ≡ ts)) → ((ts : List Term) → Reads (code_of_list (map code (out-Signature g).results)) (code_of_list (map code ts)) ((out-Signature g).results ≡ ts)) → Reads (code_of_signature g) (code_of_signature h) (g ≡ h)
signatures_read g h p q r s e =
    let ps = code_of_list (map code (out-Signature g).params) in let rs = code_of_list (map code (out-Signature g).results) in
    let vs = code_of_list (map code (out-Signature h).params) in let ws = code_of_list (map code (out-Signature h).results) in
    let k = more (code_of_flag (out-Signature g).variadic) (code_of_flag (out-Signature h).variadic) (ps ++ rs) (vs ++ ws) (both ps vs rs ws (p (out-Signature h).params) (q (out-Signature h).results)) r s (ap (λ w. w ++ r) (sym (signature_is g)) ∙ e ∙ ap (λ w. w ++ s) (signature_is h)) in
    let f = flags (out-Signature g).variadic (out-Signature h).variadic k.0.0 in
    let same : out-Signature g ≡ out-Signature h = (λ i. record { params = k.0.1.0 i; variadic = f i; results = k.0.1.1 i }) in
    (sym (roll-out-Signature g) ∙ ap roll-Signature same ∙ roll-out-Signature h, k.1)

fields_read : (f g : Field) → Told (out-Field f).term → Reads (code_of_field f) (code_of_field g) (f ≡ g)
fields_read f g h r s e =
    let a = out-Field f in let b = out-Field g in
    let k = both (code_of_sel a.sel) (code_of_sel b.sel) (code_of_flag a.embedded ∷ (code_of_text a.tag ++ code a.term)) (code_of_flag b.embedded ∷ (code_of_text b.tag ++ code b.term)) (sels_read a.sel b.sel) (more (code_of_flag a.embedded) (code_of_flag b.embedded) (code_of_text a.tag ++ code a.term) (code_of_text b.tag ++ code b.term) (both (code_of_text a.tag) (code_of_text b.tag) (code a.term) (code b.term) (text_reads a.tag b.tag) (h b.term))) r s (ap (λ w. w ++ r) (sym (field_is f)) ∙ e ∙ ap (λ w. w ++ s) (field_is g)) in
    let d = flags a.embedded b.embedded k.0.1.0 in
    let same : out-Field f ≡ out-Field g = (λ i. record { sel = k.0.0 i; embedded = d i; term = k.0.1.1.1 i; tag = k.0.1.1.0 i }) in
    (sym (roll-out-Field f) ∙ ap roll-Field same ∙ roll-out-Field g, k.1)

methods_read : (m n : Method) → ToldSignature (out-Method m).signature → Reads (code_of_method m) (code_of_method n) (m ≡ n)
methods_read m n h r s e =
    let a = out-Method m in let b = out-Method n in
    let k = both (code_of_sel a.sel) (code_of_sel b.sel) (code_of_signature a.signature) (code_of_signature b.signature) (sels_read a.sel b.sel) (h b.signature) r s (ap (λ w. w ++ r) (sym (method_is m)) ∙ e ∙ ap (λ w. w ++ s) (method_is n)) in
    let same : out-Method m ≡ out-Method n = (λ i. record { sel = k.0.0 i; signature = k.0.1 i }) in
    (sym (roll-out-Method m) ∙ ap roll-Method same ∙ roll-out-Method n, k.1)

mutual
  told : {t : Term} → Tree t → Told t
  told {t} (tree_plain {b = b} e) u = terms_read t u (Term-F.Plain b) e (of_plain b (out-Term u))
  told {t} (tree_named {n = n} e) u = terms_read t u (Term-F.Named n) e (of_named n (out-Term u))
  told {t} (tree_pointer {e = v} e a) u = terms_read t u (Term-F.Pointer v) e (of_pointer v (told a) (out-Term u))
  told {t} (tree_slice {e = v} e a) u = terms_read t u (Term-F.Slice v) e (of_slice v (told a) (out-Term u))
  told {t} (tree_array {e = v} {n = n} e a) u = terms_read t u (Term-F.Array n v) e (of_array n v (told a) (out-Term u))
  told {t} (tree_map {k = k} {e = v} e b a) u = terms_read t u (Term-F.Map k v) e (of_map k v (told b) (told a) (out-Term u))
  told {t} (tree_chan {e = v} {d = d} e a) u = terms_read t u (Term-F.Chan d v) e (of_chan d v (told a) (out-Term u))
  told {t} (tree_func {g = g} e a) u = terms_read t u (Term-F.Func g) e (of_func g (told_signature a) (out-Term u))
  told {t} (tree_struct {fs = fs} e a) u = terms_read t u (Term-F.Struct fs) e (of_struct fs (told_fields a) (out-Term u))
  told {t} (tree_interface {ms = ms} e a) u = terms_read t u (Term-F.Interface ms) e (of_interface ms (told_methods a) (out-Term u))

  told_signature : {g : Signature} → SignatureTree g → ToldSignature g
  told_signature {g} (signature_tree a b) h = signatures_read g h (told_terms a) (told_terms b)

  told_terms : {ts : List Term} → Trees ts → (us : List Term) → Reads (code_of_list (map code ts)) (code_of_list (map code us)) (ts ≡ us)
  told_terms trees_none us = none_read code us
  told_terms (trees_more {t = t} {ts = ts} a b) us = some_read code t ts (told a) (told_terms b) us

  told_fields : {fs : List Field} → FieldTrees fs → (gs : List Field) → Reads (code_of_list (map code_of_field fs)) (code_of_list (map code_of_field gs)) (fs ≡ gs)
  told_fields fields_none gs = none_read code_of_field gs
  told_fields (fields_more {f = f} {fs = fs} a b) gs = some_read code_of_field f fs (λ g. fields_read f g (told a)) (told_fields b) gs

  told_methods : {ms : List Method} → MethodTrees ms → (ns : List Method) → Reads (code_of_list (map code_of_method ms)) (code_of_list (map code_of_method ns)) (ms ≡ ns)
  told_methods methods_none ns = none_read code_of_method ns
  told_methods (methods_more {m = m} {ms = ms} a b) ns = some_read code_of_method m ms (λ n. methods_read m n (told_signature a)) (told_methods b) ns

-- a type is told by its bytes
pub types_told : (t u : Term) → code t ≡ code u → t ≡ u
types_told t u e = (told (grown t) u [] [] (ap (λ w. w ++ []) e)).0

-- a pair of types is told by its bytes
pub pairs_told : (p q : TypePair) → code_of_pair p ≡ code_of_pair q → p ≡ q
pairs_told p q e =
    let k = told (grown p.old) q.old (code p.new) (code q.new) e in
    let j = told (grown p.new) q.new [] [] (ap (λ w. w ++ []) k.1) in
    (λ i. record { old = k.0 i; new = j.0 i })

-- of its bytes a type has some
pub some_code : (t : Term) → code t ≡ [] → ⊥
some_code t e = let i = code_is t (out-Term t) refl in none_coded (sym e ∙ i)
  where
    none_coded : {n : ℕ} {w : Code} → [] ≡ n ∷ w → ⊥
    none_coded i = absurd (cc)
