-- How the bodies of a tree are put together from those of its parts.
use Rattle.std.proofs.Common.{◌≡◌, ◌∙◌, ◌≤◌, ℕ, suc, List, [], ◌∷◌, ◌++◌, map, Bool, Option, refl, sym, ap, append_assoc, append-nil, arith}
use Rattle.go_base.specs.Lists.{Each}
use Rattle.go_function_literals.specs.declared.place.LiteralPlace.{LiteralPlace}
use Rattle.go_function_literals.specs.Places.{literal}
use Rattle.go_function_literals.specs.Sites.{Bodied, Collected, IsEnd, Site, Stands, place_of, range_of}
use Rattle.go_syntax.specs.declared.body.BodyRange.{BodyRange}
use Rattle.go_syntax.specs.declared.expression.Literal.{Literal}
use Rattle.go_syntax.specs.declared.expression.Literal.TheVariants as literal_kind
use Rattle.go_syntax.specs.declared.name.Name.{Name}
use Rattle.go_syntax.specs.declared.name.QualifiedName.{QualifiedName}
use Rattle.go_syntax.specs.declared.token.TokenKind.{TokenKind}
use Rattle.go_syntax.specs.grammar.Grammar.{IsMoreNames, IsNames, IsTag, IsTypeName, names, names_more, names_none, tag_none, tag_some, type_name_alone, type_name_qualified}
use Rattle.go_syntax.specs.grammar.Statements.{IsBinding, IsLabel, binding_none, binding_some, label_none, label_some}
use Rattle.go_syntax.specs.grammar.Symbols.{Ends, Marks, MayTake, Rule, Takes, TakesLiteral, TakesName, TakesString, ends_closing, ends_semicolon, marked, takes, takes_literal, takes_name, takes_none, takes_one, takes_string, unmarked}
use Rattle.go_syntax.specs.grammar.Terminals.{Basic, Identifier, Sign, Terminal}

-- Ends

pub end_none : {ts : List Terminal} → IsEnd ts ts
end_none = record { before = []; parts = refl }

pub end_one : (t : Terminal) (ts : List Terminal) → IsEnd ts (t ∷ ts)
end_one t ts = record { before = t ∷ []; parts = refl }

pub end_and : {ts u v : List Terminal} → IsEnd u ts → IsEnd v u → IsEnd v ts
end_and {v = v} e f = record { before = e.before ++ f.before; parts = e.parts ∙ ap (λ w. e.before ++ w) f.parts ∙ sym (append_assoc e.before f.before v) }

pub takes_end : {k : TokenKind} {ts rest : List Terminal} → Takes k ts rest → IsEnd rest ts
takes_end {k = k} {rest = rest} (takes at) = end_one (Sign k at) rest

pub may_end : {k : TokenKind} {ts rest : List Terminal} → MayTake k ts rest → IsEnd rest ts
may_end takes_none = end_none
may_end (takes_one t) = takes_end t

pub marks_end : {k : TokenKind} {b : Bool} {ts rest : List Terminal} → Marks k ts b rest → IsEnd rest ts
marks_end unmarked = end_none
marks_end (marked t) = takes_end t

pub name_end : {n : Name} {ts rest : List Terminal} → TakesName n ts rest → IsEnd rest ts
name_end {n = n} {rest = rest} takes_name = end_one (Identifier n) rest

pub literal_end : {l : Literal} {ts rest : List Terminal} → TakesLiteral l ts rest → IsEnd rest ts
literal_end {l = l} {rest = rest} (takes_literal place) = end_one (Basic l place) rest

pub string_end : {text : List ℕ} {place : ℕ} {ts rest : List Terminal} → TakesString text place ts rest → IsEnd rest ts
string_end {text = text} {place = place} {rest = rest} takes_string = end_one (Basic (literal_kind.Str text) place) rest

pub ends_end : {ts rest : List Terminal} → Ends ts rest → IsEnd rest ts
ends_end (ends_semicolon t) = takes_end t
ends_end (ends_closing c) = end_none

pub more_names_end : {ts rest : List Terminal} {ns : List Name} → IsMoreNames ts ns rest → IsEnd rest ts
more_names_end names_none = end_none
more_names_end (names_more a b c) = end_and (takes_end a) (end_and (name_end b) (more_names_end c))

pub names_end : {ts rest : List Terminal} {ns : List Name} → IsNames ts ns rest → IsEnd rest ts
names_end (names a b) = end_and (name_end a) (more_names_end b)

pub type_name_end : {ts rest : List Terminal} {q : QualifiedName} → IsTypeName ts q rest → IsEnd rest ts
type_name_end (type_name_alone a b) = name_end a
type_name_end (type_name_qualified a b c) = end_and (name_end a) (end_and (takes_end b) (name_end c))

pub tag_end : {ts rest : List Terminal} {tag : Option (List ℕ)} → IsTag ts tag rest → IsEnd rest ts
tag_end tag_none = end_none
tag_end (tag_some place a) = string_end a

pub label_end : {ts rest : List Terminal} {n : Option Name} → IsLabel ts n rest → IsEnd rest ts
label_end label_none = end_none
label_end (label_some a) = name_end a

pub binding_end : {ts rest : List Terminal} {n : Option Name} → IsBinding ts n rest → IsEnd rest ts
binding_end binding_none = end_none
binding_end (binding_some a b) = end_and (name_end a) (takes_end b)

-- Lists of bodies

pub each_both : {A : Type 0} (P : A → Type 0) (xs ys : List A) → Each P xs → Each P ys → Each P (xs ++ ys)
each_both P [] ys h k = k
each_both P (x ∷ xs) ys h k = (h.0, each_both P xs ys h.1 k)

pub each_left : {A : Type 0} (P : A → Type 0) (xs ys : List A) → Each P (xs ++ ys) → Each P xs
each_left P [] ys h = tt
each_left P (x ∷ xs) ys h = (h.0, each_left P xs ys h.1)

pub each_right : {A : Type 0} (P : A → Type 0) (xs ys : List A) → Each P (xs ++ ys) → Each P ys
each_right P [] ys h = h
each_right P (x ∷ xs) ys h = each_right P xs ys h.1

pub map_both : {A B : Type 0} (f : A → B) (xs ys : List A) → map f (xs ++ ys) ≡ map f xs ++ map f ys
map_both f [] ys = refl
map_both f (x ∷ xs) ys = ap (λ l. f x ∷ l) (map_both f xs ys)

-- Bodies of parts

-- what stands below a height and within terminals stands below a greater one, and within those that these end
pub stand_within : (Body : ℕ → Rule BodyRange) (m n : ℕ) (us ts : List Terminal) (sites : List Site) → IsEnd us ts → m ≤ n → Each (Stands Body m us) sites → Each (Stands Body n ts) sites
stand_within Body m n us ts [] e l h = tt
stand_within Body m n us ts (x ∷ xs) e l h = (record { holds = h.0.holds; within = end_and e h.0.within; lower = omega (arith, h.0.lower, l) }, stand_within Body m n us ts xs e l h.1)

module _ {Body Other : ℕ → Rule BodyRange} where
  -- no body
  pub nothing : {h : ℕ} {ts rest : List Terminal} {G : Type 0} → IsEnd rest ts → G → Collected Body Other h ts rest [] [] G
  nothing e g = record { sites = []; stand = tt; ends = e; placed = refl; ranged = refl; derives = λ _. g }

  -- a body
  pub here : {h : ℕ} {ts rest : List Terminal} {b : BodyRange} → IsEnd rest ts → Body h ts b rest → Collected Body Other (suc h) ts rest (literal b h) (b ∷ []) (Other h ts b rest)
  here {h} {ts} {rest} {b} e d = record {
    sites = record { height = h; begins = ts; body = b; rest = rest } ∷ [];
    stand = (record { holds = d; within = end_none; lower = omega arith }, tt);
    ends = e;
    placed = refl;
    ranged = refl;
    derives = λ k. k.0;
  }

  -- the same behind other terminals
  pub behind : {h : ℕ} {ts u rest : List Terminal} {ps : List LiteralPlace} {rs : List BodyRange} {G : Type 0} → IsEnd u ts → Collected Body Other h u rest ps rs G → Collected Body Other h ts rest ps rs G
  behind {h = h} {ts = ts} {u = u} e c = record { sites = c.sites; stand = stand_within Body h h u ts c.sites e (omega arith) c.stand; ends = end_and e c.ends; placed = c.placed; ranged = c.ranged; derives = c.derives }

  -- and before others
  pub until : {h : ℕ} {ts u rest : List Terminal} {ps : List LiteralPlace} {rs : List BodyRange} {G : Type 0} → IsEnd rest u → Collected Body Other h ts u ps rs G → Collected Body Other h ts rest ps rs G
  until e c = record { sites = c.sites; stand = c.stand; ends = end_and c.ends e; placed = c.placed; ranged = c.ranged; derives = c.derives }

  -- one part after another
  pub both : {h : ℕ} {ts u rest : List Terminal} {ps qs : List LiteralPlace} {rs ss : List BodyRange} {G H K : Type 0} → Collected Body Other h ts u ps rs G → Collected Body Other h u rest qs ss H → (G → H → K)
      → Collected Body Other h ts rest (ps ++ qs) (rs ++ ss) K
  both {h = h} {ts = ts} {u = u} {ps = ps} {ss = ss} c d f = record {
    sites = c.sites ++ d.sites;
    stand = each_both (Stands Body h ts) c.sites d.sites c.stand (stand_within Body h h u ts d.sites c.ends (omega arith) d.stand);
    ends = end_and c.ends d.ends;
    placed = map_both place_of c.sites d.sites ∙ ap (λ l. l ++ map place_of d.sites) c.placed ∙ ap (λ l. ps ++ l) d.placed;
    ranged = map_both range_of c.sites d.sites ∙ ap (λ l. map range_of c.sites ++ l) d.ranged ∙ ap (λ l. l ++ ss) c.ranged;
    derives = λ k. f (c.derives (each_left (Bodied Other) c.sites d.sites k)) (d.derives (each_right (Bodied Other) c.sites d.sites k));
  }

  -- a tree of one level more
  pub deeper : {h : ℕ} {ts rest : List Terminal} {ps : List LiteralPlace} {rs : List BodyRange} {G : Type 0} → Collected Body Other h ts rest ps rs G → Collected Body Other (suc h) ts rest ps rs G
  deeper {h = h} {ts = ts} c = record { sites = c.sites; stand = stand_within Body h (suc h) ts ts c.sites end_none (omega arith) c.stand; ends = c.ends; placed = c.placed; ranged = c.ranged; derives = c.derives }

  -- what follows from a derivation
  pub into : {h : ℕ} {ts rest : List Terminal} {ps : List LiteralPlace} {rs : List BodyRange} {G H : Type 0} → (G → H) → Collected Body Other h ts rest ps rs G → Collected Body Other h ts rest ps rs H
  into f c = record { sites = c.sites; stand = c.stand; ends = c.ends; placed = c.placed; ranged = c.ranged; derives = λ k. f (c.derives k) }

  -- equal places and ranges
  pub equally : {h : ℕ} {ts rest : List Terminal} {ps qs : List LiteralPlace} {rs ss : List BodyRange} {G : Type 0} → ps ≡ qs → rs ≡ ss → Collected Body Other h ts rest ps rs G → Collected Body Other h ts rest qs ss G
  equally e f c = record { sites = c.sites; stand = c.stand; ends = c.ends; placed = c.placed ∙ e; ranged = c.ranged ∙ f; derives = c.derives }

  -- before no others
  pub alone : {h : ℕ} {ts rest : List Terminal} {ps : List LiteralPlace} {rs : List BodyRange} {G : Type 0} → Collected Body Other h ts rest ps rs G → Collected Body Other h ts rest (ps ++ []) (rs ++ []) G
  alone {ps = ps} {rs = rs} c = equally (sym (append-nil ps)) (sym (append-nil rs)) c
