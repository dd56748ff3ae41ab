-- What one step of a reading has found.
use Rattle.std.proofs.Common.{◌≡◌, ℕ, zero, suc, List, [], ◌∷◌, ◌++◌, length, drop, Bool, true, false, if◌then◌else◌, Option, Some, None, refl, sym, ap, ◌∙◌, subst, append_assoc, append-nil}
use denote.Enum.Bare.{same_true}
use Rattle.go_syntax.specs.contracts.token.TokenKind.{the_type}
use Rattle.go_syntax.specs.declared.expression.Literal.{Literal}
use Rattle.go_syntax.specs.declared.expression.Literal.TheVariants as literal
use Rattle.go_syntax.specs.declared.name.Name.{Name}
use Rattle.go_syntax.specs.declared.token.TokenKind.{TokenKind}
use Rattle.go_syntax.specs.declared.token.TokenKind.TheVariants as kind
use Rattle.go_syntax.specs.grammar.Grammar.{IsNames, names as is_names, IsMoreNames, names_none, names_more, IsTypeName, type_name_alone, type_name_qualified, IsTag, tag_none, tag_some}
use Rattle.go_syntax.specs.grammar.Symbols.{Rule, Takes, takes, MayTake, takes_none, takes_one, Marks, unmarked, marked, TakesName, takes_name, TakesLiteral, takes_literal, TakesString, takes_string, Ends, ends_semicolon, ends_closing, begins, begins_selector, closes}
use Rattle.go_syntax.specs.grammar.Terminals.{Terminal, Sign, Identifier, Basic, Odd}
use Rattle.go_cursor.specs.Names.{name_item, names, type_name, tag_of, tag}
use Rattle.go_cursor.specs.LookAheads.{begins_receive}
use Rattle.go_cursor.specs.Reading.{Found, Reader, Next, Stop, Fail, More, bind, after, turn, loop, run, put, step_of, expect, close, past, goes_on, ended, name, literal_at, string_at}

-- a relation one level down, which nothing meets at the bottom
abbrev pub Below : {A : Type 0} → (ℕ → Rule A) → ℕ → Rule A
Below D zero ts a rest = ⊥
Below D (suc h) ts a rest = D h ts a rest

-- what a reader finds is in the relation
abbrev pub Sound : {A : Type 0} → Rule A → Reader A → Type 0
Sound {A} D read = (ts : List Terminal) (a : A) (rest : List Terminal) → read ts ≡ Some (a, rest) → D ts a rest

-- the same of one turn of a loop
abbrev pub SoundTurn : {A : Type 0} → Rule A → (List Terminal → Next A) → Type 0
SoundTurn {A} D item = (ts : List Terminal) (a : A) (rest : List Terminal) → item ts ≡ More a rest → D ts a rest

-- a rule of a height above that of a part
pub above : {A : Type 0} (D : ℕ → Rule A) (C : ℕ → Type 0) (n : ℕ) {ts : List Terminal} {a : A} {rest : List Terminal} → Below D n ts a rest → ((h : ℕ) → D h ts a rest → C (suc h)) → C n
above D C zero d go = absurd d
above D C (suc h) d go = go h d

-- what was found after another reading: that one found something too
pub with_bind : {A B C : Type 0} (r : Found A) (f : A → Reader B) {b : B} {rest : List Terminal} → bind r f ≡ Some (b, rest)
    → ((a : A) (u : List Terminal) → r ≡ Some (a, u) → f a u ≡ Some (b, rest) → C) → C
with_bind None f e go = absurd (cc)
with_bind (Some p) f e go = go p.0 p.1 refl e

-- either branch
-- what is known in either branch of a test
pub branch : {A C : Type 0} (c : Bool) {x y z : A} → if◌then◌else◌ {A = A} c x y ≡ z → (c ≡ true → x ≡ z → C) → (c ≡ false → y ≡ z → C) → C
branch true e then_so else_so = then_so refl e
branch false e then_so else_so = else_so refl e

-- from what was derived to what was found
pub same : {A : Type 0} (D : Rule A) (ts : List Terminal) {a b : A} {u rest : List Terminal} → D ts a u → ◌≡◌ {A = Found A} (Some (a, u)) (Some (b, rest)) → D ts b rest
same {A} D ts {a = a} {b = b} {u = u} {rest = rest} d e = let p : ◌≡◌ {A = A × List Terminal} (a, u) (b, rest) = cc in subst (λ (q : A × List Terminal). D ts q.0 q.1) p d

-- the keyword or the operator that is next
pub taken : (k : TokenKind) (ts : List Terminal) → begins k ts ≡ true → Takes k ts (drop 1 ts)
taken k [] e = absurd (cc)
taken k (Sign j at ∷ ts) e = subst (λ i. Takes k (Sign i at ∷ ts) ts) (sym (same_true the_type tt j k e)) (takes at)
taken k (Identifier n ∷ ts) e = absurd (cc)
taken k (Basic l place ∷ ts) e = absurd (cc)
taken k (Odd ∷ ts) e = absurd (cc)

-- the one that was asked for
pub expected : (k : TokenKind) (ts : List Terminal) {u : Unit {0}} {rest : List Terminal} → expect k ts ≡ Some (u, rest) → Takes k ts rest
unfolding expect
expected k ts {u = u} {rest = rest} e = branch (begins k ts) e (λ c s. same (λ w (_ : Unit {0}) v. Takes k w v) ts (taken k ts c) s) (λ c s. absurd (cc))

-- a tree before a bracket
pub closed : {A : Type 0} (D : Rule A) (k : TokenKind) (ts w : List Terminal) {a b : A} {rest : List Terminal} → ((v : List Terminal) → Takes k w v → D ts a v) → close k a w ≡ Some (b, rest) → D ts b rest
unfolding close
closed D k ts w d e = branch (begins k w) e (λ c s. same D ts (d (drop 1 w) (taken k w c)) s) (λ c s. absurd (cc))

pasts_by : (k : TokenKind) (ts : List Terminal) (c : Bool) → begins k ts ≡ c → MayTake k ts (if c then drop 1 ts else ts)
pasts_by k ts true e = takes_one (taken k ts e)
pasts_by k ts false e = takes_none

-- past one that may be missing
pub pasts : (k : TokenKind) (ts : List Terminal) → MayTake k ts (past k ts)
pasts k ts = pasts_by k ts (begins k ts) refl

-- the name that is next
pub named_by : (ts : List Terminal) {n : Name} {rest : List Terminal} → name ts ≡ Some (n, rest) → TakesName n ts rest
named_by [] e = absurd (cc)
named_by (Identifier m ∷ ts) e = same (λ w n v. TakesName n w v) (Identifier m ∷ ts) takes_name e
named_by (Sign j at ∷ ts) e = absurd (cc)
named_by (Basic l place ∷ ts) e = absurd (cc)
named_by (Odd ∷ ts) e = absurd (cc)

-- `.` before a name
pub selects : (ts : List Terminal) → begins_selector ts ≡ true → Takes kind.Period ts (drop 1 ts)
selects [] e = absurd (cc)
selects (Sign kind.Period at ∷ ts) e = takes at
selects (Sign _ at ∷ ts) e = absurd (cc)
selects (Identifier m ∷ ts) e = absurd (cc)
selects (Basic l place ∷ ts) e = absurd (cc)
selects (Odd ∷ ts) e = absurd (cc)

-- the name of a type
pub type_name_sound : Sound IsTypeName type_name
unfolding type_name
type_name_sound ts q rest e = with_bind (name ts) _ e (λ n u en ek. branch (begins_selector u) ek
    (λ c ex. with_bind (name (drop 1 u)) _ ex (λ m v em s. same IsTypeName ts (type_name_qualified (named_by ts en) (selects u c) (named_by (drop 1 u) em)) s))
    (λ c s. same IsTypeName ts (type_name_alone (named_by ts en) c) s))

string_pair : {s t : List ℕ × ℕ} → ◌≡◌ {A = Option (List ℕ × ℕ)} (Some s) (Some t) → s ≡ t
string_pair e = cc

-- the string literal that is next
pub string_taken : (ts : List Terminal) (s : List ℕ × ℕ) → string_at ts ≡ Some s → TakesString s.0 s.1 ts (drop 1 ts)
string_taken [] s e = absurd (cc)
string_taken (Basic (literal.Str text) place ∷ ts) s e = subst (λ (s : List ℕ × ℕ). TakesString s.0 s.1 (Basic (literal.Str text) place ∷ ts) ts) (string_pair e) takes_string
string_taken (Basic _ place ∷ ts) s e = absurd (cc)
string_taken (Identifier m ∷ ts) s e = absurd (cc)
string_taken (Sign j at ∷ ts) s e = absurd (cc)
string_taken (Odd ∷ ts) s e = absurd (cc)

tag_by : (ts : List Terminal) (s : Option (List ℕ × ℕ)) → string_at ts ≡ s → (a : Option (List ℕ)) (rest : List Terminal) → tag_of s ts ≡ Some (a, rest) → IsTag ts a rest
tag_by ts None is a rest e = same IsTag ts tag_none e
tag_by ts (Some s) is a rest e = same IsTag ts (tag_some s.1 (string_taken ts s is)) e

-- a tag that may be missing
pub tag_sound : Sound IsTag tag
unfolding tag
tag_sound ts a rest e = tag_by ts (string_at ts) refl a rest e

-- Loops

-- an item that a reading found
pub after_more : {A : Type 0} (r : Found A) {a : A} {rest : List Terminal} → after r ≡ More a rest → r ≡ Some (a, rest)
after_more None e = absurd (cc)
after_more (Some (b, w)) e = cc

put_more : {A : Type 0} (acc : List A) (next : Next A) {b : List A} {rest : List Terminal} → put acc next ≡ More b rest → (a : A) × (next ≡ More a rest) × (acc ++ a ∷ [] ≡ b)
put_more acc Stop e = absurd (cc)
put_more acc Fail e = absurd (cc)
put_more acc (More a ts) e = (a, (cc), (cc))

-- what follows the first items: more of them
abbrev pub Adds : {A : Type 0} → Rule (List A) → List A → Rule (List A)
Adds {A} Chain acc ts all rest = (xs : List A) × (all ≡ acc ++ xs) × Chain ts xs rest

module _ {A : Type 0} (D : Rule A) (Chain : Rule (List A)) (none : (ts : List Terminal) → Chain ts [] ts)
    (more : (ts u rest : List Terminal) (x : A) (xs : List A) → D ts x u → Chain u xs rest → Chain ts (x ∷ xs) rest) (item : List Terminal → Next A) (sound : SoundTurn D item) where
  turn_sound : (go : List A → Reader (List A)) → ((acc : List A) → Sound (Adds Chain acc) (go acc)) → (acc : List A) (ts : List Terminal) (next : Next (List A)) → step_of item acc ts ≡ next
      → (all : List A) (rest : List Terminal) → turn go acc ts next ≡ Some (all, rest) → Adds Chain acc ts all rest
  turn_sound go ih acc ts Stop is all rest e = same (Adds Chain acc) ts ([], sym (append-nil acc), none ts) e
  turn_sound go ih acc ts Fail is all rest e = absurd (cc)
  turn_sound go ih acc ts (More more_items u) is all rest e =
      let p = put_more acc (item ts) is in
      let i = ih more_items u all rest e in
      (p.0 ∷ i.0, i.1 ∙ ap (λ w. w ++ i.0) (sym p.2) ∙ append_assoc acc (p.0 ∷ []) i.0, more ts u rest p.0 i.0 (sound ts p.0 u p.1) i.2)

  loop_sound : (n : ℕ) (acc : List A) → Sound (Adds Chain acc) (loop (step_of item) n acc)
  unfolding loop
  loop_sound zero acc ts all rest e = same (Adds Chain acc) ts ([], sym (append-nil acc), none ts) e
  loop_sound (suc n) acc ts all rest e = turn_sound (loop (step_of item) n) (loop_sound n) acc ts (step_of item acc ts) refl all rest e

  -- turns until one stops
  pub run_sound : (acc : List A) → Sound (Adds Chain acc) (run (step_of item) acc)
  unfolding run
  run_sound acc ts all rest e = loop_sound (length ts) acc ts all rest e

-- a first item, and more of them
pub first_sound : {A : Type 0} (Chain Whole : Rule (List A)) (ts u : List Terminal) (x : A) → ((xs : List A) (rest : List Terminal) → Chain u xs rest → Whole ts (x ∷ xs) rest)
    → (all : List A) (rest : List Terminal) → Adds Chain (x ∷ []) u all rest → Whole ts all rest
first_sound Chain Whole ts u x made all rest (xs, is, c) = subst (λ w. Whole ts w rest) (sym is) (made xs rest c)

-- no first item
pub from_none : {A : Type 0} (Chain : Rule (List A)) (ts : List Terminal) (all : List A) (rest : List Terminal) → Adds Chain [] ts all rest → Chain ts all rest
from_none Chain ts all rest (xs, is, c) = subst (λ w. Chain ts w rest) (sym is) c

-- an item that is missing where the loop stops
pub item_if : {A C : Type 0} (c : Bool) (next : Next A) {a : A} {rest : List Terminal} → ◌≡◌ {A = Next A} (if c then next else Stop) (More a rest) → (c ≡ true → next ≡ More a rest → C) → C
item_if true next e go = go refl e
item_if false next e go = absurd (cc)

-- the same, where the test is turned round
pub item_unless : {A C : Type 0} (c : Bool) (next : Next A) {a : A} {rest : List Terminal} → ◌≡◌ {A = Next A} (if c then Stop else next) (More a rest) → (c ≡ false → next ≡ More a rest → C) → C
item_unless true next e go = absurd (cc)
item_unless false next e go = go refl e

-- a comma that another item follows
pub comma_taken : (ts : List Terminal) → goes_on ts ≡ true → Takes kind.Comma ts (drop 1 ts)
comma_taken ts e = branch (begins kind.Comma ts) e (λ c _. taken kind.Comma ts c) (λ c n. absurd (cc))

name_item_sound : (ts : List Terminal) (n : Name) (rest : List Terminal) → name_item ts ≡ More n rest → Takes kind.Comma ts (drop 1 ts) × TakesName n (drop 1 ts) rest
name_item_sound ts n rest e = item_if (begins kind.Comma ts) _ e (λ c m. (taken kind.Comma ts c, named_by (drop 1 ts) (after_more (name (drop 1 ts)) m)))

-- names with commas between them
pub names_sound : Sound IsNames names
unfolding names
names_sound ts ns rest e = with_bind (name ts) _ e (λ n u en er. first_sound IsMoreNames IsNames ts u n (λ xs w c. is_names (named_by ts en) c) ns rest
    (run_sound (λ w m v. Takes kind.Comma w (drop 1 w) × TakesName m (drop 1 w) v) IsMoreNames (λ w. names_none) (λ w v y m ms d c. names_more d.0 d.1 c) name_item name_item_sound (n ∷ []) u ns rest er))

-- the end of an item in brackets
pub ended_sound : {A : Type 0} (a : A) (ts : List Terminal) {b : A} {rest : List Terminal} → ended a ts ≡ Some (b, rest) → Ends ts rest × (a ≡ b)
unfolding ended
ended_sound a ts e = branch (begins kind.Semicolon ts) e
    (λ c s. same (λ w b v. Ends w v × (a ≡ b)) ts (ends_semicolon (taken kind.Semicolon ts c), refl) s)
    (λ c ec. branch (closes ts) ec (λ c s. same (λ w b v. Ends w v × (a ≡ b)) ts (ends_closing c, refl) s) (λ c s. absurd (cc)))

-- a comma, and an item after it
abbrev pub AfterComma : {A : Type 0} → Rule A → Rule A
AfterComma D ts a rest = Takes kind.Comma ts (drop 1 ts) × D (drop 1 ts) a rest

-- a turn of a list with commas
pub comma_item_sound : {A : Type 0} (D : Rule A) (read : Reader A) → Sound D read → SoundTurn (AfterComma D) (λ ts. if goes_on ts then after (read (drop 1 ts)) else Stop)
comma_item_sound D read sound ts a rest e = item_if (goes_on ts) _ e (λ c m. (comma_taken ts c, sound (drop 1 ts) a rest (after_more (read (drop 1 ts)) m)))

-- an item, and its end
abbrev pub Ending : {A : Type 0} → Rule A → Rule A
Ending D ts a rest = (u : List Terminal) × D ts a u × Ends u rest

-- a turn of a list in which each item has its end
pub ending_item_sound : {A : Type 0} (D : Rule A) (read : Reader A) → Sound D read → SoundTurn (Ending D) (λ ts. if closes ts then Stop else after (bind (read ts) ended))
ending_item_sound D read sound ts a rest e = item_unless (closes ts) _ e (λ c m. with_bind (read ts) _ (after_more (bind (read ts) ended) m) (λ b u eb ee.
    let d = ended_sound b u ee in
    (u, subst (λ x. D ts x u) d.1 (sound ts b u eb), d.0)))

marks_by : (k : TokenKind) (ts : List Terminal) (c : Bool) → begins k ts ≡ c → Marks k ts c (if c then drop 1 ts else ts)
marks_by k ts true e = marked (taken k ts e)
marks_by k ts false e = unmarked

-- the same, and whether it stands there
pub marks : (k : TokenKind) (ts : List Terminal) → Marks k ts (begins k ts) (past k ts)
marks k ts = marks_by k ts (begins k ts) refl

-- `<-` and `chan`
receive_after : (t : Terminal) (ts : List Terminal) → begins_receive (t ∷ ts) ≡ true → Takes kind.Arrow (t ∷ ts) ts × Takes kind.ChanWord ts (drop 1 ts)
receive_after t ts e = branch (begins kind.Arrow (t ∷ ts)) e (λ c d. (taken kind.Arrow (t ∷ ts) c, taken kind.ChanWord ts d)) (λ c d. absurd (cc))

pub receive_taken : (ts : List Terminal) → begins_receive ts ≡ true → Takes kind.Arrow ts (drop 1 ts) × Takes kind.ChanWord (drop 1 ts) (drop 2 ts)
receive_taken [] e = absurd (cc)
receive_taken (t ∷ ts) e = receive_after t ts e

-- the literal that is next
pub literal_taken : (ts : List Terminal) (x : Literal) → literal_at ts ≡ Some x → TakesLiteral x ts (drop 1 ts)
literal_taken [] x e = absurd (cc)
literal_taken (Basic l place ∷ ts) x e = let p : l ≡ x = cc in subst (λ m. TakesLiteral m (Basic l place ∷ ts) ts) p (takes_literal place)
literal_taken (Identifier m ∷ ts) x e = absurd (cc)
literal_taken (Sign j at ∷ ts) x e = absurd (cc)
literal_taken (Odd ∷ ts) x e = absurd (cc)
