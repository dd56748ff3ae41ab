-- The longest lexeme at the start of some bytes, by their class.
use Rattle.std.proofs.Common.{◌≡◌, inl, inr, ℕ, ◌<◌, ◌≤◌, Bool, true, false, ◌||◌, ◌==◌, List, [], ◌∷◌, ◌++◌, length, take, drop, refl, sym, ap, ◌∙◌, subst, arith, Option, Some, None}
use Rattle.std.specs.Prelude.{codes, if◌then◌else◌}
use Rattle.std.specs.List.{list_any}
use Rattle.std.proofs.lemmas.List.{take-append-drop}
use Rattle.go_syntax.specs.declared.token.TokenKind.{TokenKind}
use Rattle.go_syntax.specs.declared.token.TokenKind.TheVariants as token
use Rattle.go_syntax.specs.declared.token.TokenValue.{TokenValue}
use Rattle.go_syntax.specs.declared.token.TokenValue.TheVariants as value
use Rattle.go_syntax.specs.declared.token.LexemeKind.{LexemeKind}
use Rattle.go_syntax.specs.declared.token.LexemeKind.TheVariants as lexeme
use Rattle.go_base.specs.Comments.{starts_with, comment_len}
use Rattle.go_syntax.specs.lexical.Quotes.{meaning_number, raw_bytes}
use Rattle.go_syntax.specs.lexical.Words.{kind_in, operators, name_kind}
use Rattle.go_syntax.specs.lexical.Lexemes.{plain_value, opens_comment, comment_kind, IsLexeme, blank, newline, name, operator, integer, float, imaginary, rune, string, raw_string, Lexeme, Begins, BeginsNone}
use Rattle.go_base.proofs.Lists.{length_take}
use Rattle.go_lex.specs.declared.longest.Start.{Start}
use Rattle.go_lex.specs.declared.longest.Start.TheVariants.{Blank, Newline, Comment, Number, Rune, Quoted, Raw, Name, Sign}
use Rattle.go_lex.specs.declared.longest.LongestLexeme.{LongestLexeme}
use Rattle.go_lex.specs.declared.operator.Operator.{Operator}
use Rattle.go_lex.specs.inner.Starts.{start_of, begins_number}
use Rattle.go_lex.specs.inner.NumberLengths.{number_at, IsNumber, int_number, float_number, imaginary_number}
use Rattle.go_lex.specs.inner.NamePrefixes.{IsName, IsLongestName, HasNoName}
use Rattle.go_lex.specs.inner.LongestOperators.{operator_at}
use Rattle.go_lex.specs.inner.OnlyTexts.{IsOnly, HasNone, IsRune, IsString, IsRaw}
use Rattle.go_lex.specs.inner.LongestLexemes.{Says, IsLongestAt, IsCommentAt}
use Rattle.go_lex.proofs.Numbers.{number_claim}
use Rattle.go_lex.proofs.NumberStands.{number_stands}
use Rattle.go_lex.proofs.OperatorRows.{operator_claim, operator_stands}
use Rattle.go_lex.proofs.LexemeClasses.{Class, classed, byte_tells, not_open, open_from, is_byte}

-- a comment opens where there is one
pub comment_opens : (bytes : List ℕ) (n : ℕ) → comment_len bytes ≡ Some n → opens_comment bytes ≡ true
unfolding comment_len
comment_opens bytes n e =
    elim (starts_with (codes "//") bytes) as (λ t. starts_with (codes "//") bytes ≡ t → (t || starts_with (codes "/*") bytes) ≡ true) [
      | true ↦ (λ h. refl)
      | false ↦ (λ h. elim (starts_with (codes "/*") bytes) as (λ t. starts_with (codes "/*") bytes ≡ t → t ≡ true) [
        | true ↦ (λ g. refl)
        | false ↦ (λ g. absurd (let none : ◌≡◌ {A = Option ℕ} None (Some n) = rw (h, g) at e in cc))
      ] refl)
    ]
    refl

-- a lexeme at the start, where no comment opens
lexeme_there : (bytes : List ℕ) (x : Lexeme) (more : List ℕ) → opens_comment bytes ≡ false → Begins bytes x more → IsLexeme x.kind x.value x.text
lexeme_there bytes x more closed b = elim b.stands [ inl c ↦ absurd (let opened : opens_comment bytes ≡ true = comment_opens bytes (length x.text) c.len in cc) | inr p ↦ p.1 ]

class_there : (bytes : List ℕ) (s : Start) (x : Lexeme) (more : List ℕ) → start_of bytes ≡ s → (s ≡ Comment → ⊥) → Begins bytes x more → Class s bytes x.kind x.value x.text
class_there bytes s x more e other b =
    let closed = not_open bytes s e other in
    let is = lexeme_there bytes x more closed b in
    let joined = b.joined in
    let here : Class (start_of bytes) bytes x.kind x.value x.text =
    subst (λ (xs : List ℕ). Class (start_of xs) xs x.kind x.value x.text) (sym joined)
    (classed x.kind x.value x.text more is (subst (λ (xs : List ℕ). opens_comment xs ≡ false) joined closed)) in
    subst (λ (t : Start). Class t bytes x.kind x.value x.text) e here

-- the prefix of a class that is no comment
front_by : (bytes : List ℕ) (s : Start) (kind : LexemeKind) (len : ℕ) → start_of bytes ≡ s → (s ≡ Comment → ⊥) → 0 < len → len ≤ length bytes
    → ((said : TokenValue) × Says kind (take len bytes) said) → ((said : TokenValue) → Says kind (take len bytes) said → IsLexeme kind said (take len bytes))
    → ((k : LexemeKind) (v : TokenValue) (text more : List ℕ) → Class s bytes k v text → bytes ≡ text ++ more → length text ≤ len) → IsLongestAt bytes kind len
front_by bytes s kind len e other some within said is bound = record {
  some = some;
  within = within;
  says = said;
  longest = λ v says. record {
    begins = record { joined = sym (take-append-drop len bytes); stands = inr (not_open bytes s e other, is v says) };
    longest = λ x more b. omega (arith, bound x.kind x.value x.text more (class_there bytes s x more e other b) b.joined, length_take len bytes within);
  };
}

none_by : (bytes : List ℕ) (s : Start) → start_of bytes ≡ s → (s ≡ Comment → ⊥) → ((k : LexemeKind) (v : TokenValue) (text more : List ℕ) → Class s bytes k v text → bytes ≡ text ++ more → ⊥) → BeginsNone bytes
none_by bytes s e other none x more b = none x.kind x.value x.text more (class_there bytes s x more e other b) b.joined

-- white space
pub blank_front : (bytes : List ℕ) → 0 < length bytes → start_of bytes ≡ Blank → IsLongestAt bytes lexeme.Blank 1
blank_front [] some e = absurd (omega arith)
blank_front (b ∷ bs) some e =
    front_by (b ∷ bs) Blank lexeme.Blank 1 e (λ no'. absurd (cc)) (omega arith) (omega arith) (value.Nothing, refl)
    (λ v says. subst (λ (u : TokenValue). IsLexeme lexeme.Blank u (b ∷ [])) (sym says) (blank (byte_tells b bs Blank e))) (λ k v text more c joined. omega (arith, c.0))

pub newline_front : (bytes : List ℕ) → 0 < length bytes → start_of bytes ≡ Newline → IsLongestAt bytes lexeme.Newline 1
newline_front [] some e = absurd (omega arith)
newline_front (b ∷ bs) some e =
    let is = is_byte b 10 (byte_tells b bs Newline e) in
    front_by (b ∷ bs) Newline lexeme.Newline 1 e (λ no'. absurd (cc)) (omega arith) (omega arith) (value.Nothing, refl)
    (λ v says. subst (λ (p : TokenValue × ℕ). IsLexeme lexeme.Newline p.0 (p.1 ∷ [])) (λ i. (sym says i, sym is i)) newline) (λ k v text more c joined. omega (arith, c.0))

-- comments
kind_by : (test : Bool) (k : TokenKind) → lexeme.Token k ≡ (if test then lexeme.Newline else lexeme.Blank) → ⊥
kind_by true k e = absurd (cc)
kind_by false k e = absurd (cc)

token_no_comment : (k : TokenKind) (text : List ℕ) → lexeme.Token k ≡ comment_kind text → ⊥
token_no_comment k text e = kind_by (starts_with (codes "//") text || list_any (λ b. b == 10) text) k e

comment_says : (kind : LexemeKind) (text : List ℕ) (v : TokenValue) → kind ≡ comment_kind text → Says kind text v → v ≡ value.Nothing
comment_says lexeme.Blank text v e s = s
comment_says lexeme.Newline text v e s = s
comment_says (lexeme.Token k) text v e s = absurd (token_no_comment k text e)

said_nothing : (kind : LexemeKind) (text : List ℕ) → kind ≡ comment_kind text → Says kind text value.Nothing
said_nothing lexeme.Blank text e = refl
said_nothing lexeme.Newline text e = refl
said_nothing (lexeme.Token k) text e = absurd (token_no_comment k text e)

same_some : (m n : ℕ) → ◌≡◌ {A = Option ℕ} (Some m) (Some n) → m ≡ n
same_some m n e = cc

-- where a comment opens, only a comment stands
comment_there : (bytes : List ℕ) (x : Lexeme) (more : List ℕ) → opens_comment bytes ≡ true → Begins bytes x more → comment_len bytes ≡ Some (length x.text)
comment_there bytes x more opened b = elim b.stands [ inl c ↦ c.len | inr p ↦ absurd (let closed = p.0 in cc) ]

pub comment_lexeme : (bytes : List ℕ) (f : LongestLexeme) → IsCommentAt bytes f → IsLongestAt bytes f.kind f.len
comment_lexeme bytes f c =
    let size = length_take f.len bytes c.within in
    let opened = comment_opens bytes f.len c.len_is in
    record {
      some = c.some;
      within = c.within;
      says = (value.Nothing, said_nothing f.kind (take f.len bytes) c.kind_is);
      longest = λ v says. record {
        begins = record {
          joined = sym (take-append-drop f.len bytes);
          stands = inl (record { len = c.len_is ∙ ap Some (sym size); kind_is = c.kind_is; silent = comment_says f.kind (take f.len bytes) v c.kind_is says });
        };
        longest = λ x more b. omega (arith, size, same_some (length x.text) f.len (sym (comment_there bytes x more opened b) ∙ c.len_is));
      };
    }

pub no_comment : (bytes : List ℕ) → 0 < length bytes → start_of bytes ≡ Comment → comment_len bytes ≡ None → BeginsNone bytes
no_comment [] some e none x more b = absurd (omega arith)
no_comment (c ∷ cs) some e none x more b = absurd (let there = comment_there (c ∷ cs) x more (open_from c cs e) b in cc)

-- numbers
number_lexeme : (kind : TokenKind) (text : List ℕ) → IsNumber kind text → IsLexeme (lexeme.Token kind) (plain_value kind text) text
number_lexeme kind text (int_number i) = integer i
number_lexeme kind text (float_number f) = float f
number_lexeme kind text (imaginary_number m) = imaginary m

begins_at : (bytes : List ℕ) → 0 < length bytes → start_of bytes ≡ Number → begins_number bytes ≡ true
begins_at [] some e = absurd (omega arith)
begins_at (b ∷ bs) some e = byte_tells b bs Number e

number_bound : (bytes text more : List ℕ) (kind : TokenKind) → IsNumber kind text → bytes ≡ text ++ more → length text ≤ (number_at bytes).len
number_bound bytes text more kind is e = subst (λ (xs : List ℕ). length text ≤ (number_at xs).len) (sym e) ((number_claim kind text more is).bound)

pub number_front : (bytes : List ℕ) → 0 < length bytes → start_of bytes ≡ Number → IsLongestAt bytes (lexeme.Token (number_at bytes).kind) (number_at bytes).len
number_front bytes some e =
    let n = number_at bytes in
    let at = number_stands bytes (begins_at bytes some e) in
    front_by bytes Number (lexeme.Token n.kind) n.len e (λ no'. absurd (cc)) at.some at.within (plain_value n.kind (take n.len bytes), number_lexeme n.kind (take n.len bytes) at.stands)
    (λ v says. says)
    (λ k v text more c joined. elim c [ inl p ↦ number_bound bytes text more p.0 p.1 joined | inr p ↦ omega (arith, ap length p.0, at.some) ])

-- literals in quotes
first_is : (q : ℕ) (bytes : List ℕ) → ((b : ℕ) (bs : List ℕ) → bytes ≡ b ∷ bs → (b == q) ≡ true) → 0 < length bytes → bytes ≡ q ∷ drop 1 bytes
first_is q [] f some = absurd (omega arith)
first_is q (b ∷ bs) f some = ap (λ (x : ℕ). x ∷ bs) (is_byte b q (f b bs refl))

pub rune_first : (bytes : List ℕ) → 0 < length bytes → start_of bytes ≡ Rune → bytes ≡ 39 ∷ drop 1 bytes
rune_first bytes some e = first_is 39 bytes (λ b bs is. byte_tells b bs Rune (ap start_of (sym is) ∙ e)) some

pub quoted_first : (bytes : List ℕ) → 0 < length bytes → start_of bytes ≡ Quoted → bytes ≡ 34 ∷ drop 1 bytes
quoted_first bytes some e = first_is 34 bytes (λ b bs is. byte_tells b bs Quoted (ap start_of (sym is) ∙ e)) some

pub raw_first : (bytes : List ℕ) → 0 < length bytes → start_of bytes ≡ Raw → bytes ≡ 96 ∷ drop 1 bytes
raw_first bytes some e = first_is 96 bytes (λ b bs is. byte_tells b bs Raw (ap start_of (sym is) ∙ e)) some

rune_lexeme : (text : List ℕ) → IsRune text → (said : TokenValue) × IsLexeme (lexeme.Token token.RuneLit) said text
rune_lexeme text r = (value.Rune (meaning_number r.1), subst (IsLexeme (lexeme.Token token.RuneLit) (value.Rune (meaning_number r.1))) (sym r.3) (rune r.2))

string_lexeme : (text : List ℕ) → IsString text → (said : TokenValue) × IsLexeme (lexeme.Token token.StrLit) said text
string_lexeme text s = (value.Str s.1, subst (IsLexeme (lexeme.Token token.StrLit) (value.Str s.1)) (sym s.3) (string s.2))

raw_lexeme : (text : List ℕ) → IsRaw text → (said : TokenValue) × IsLexeme (lexeme.Token token.StrLit) said text
raw_lexeme text s = (value.Str (raw_bytes s.0), subst (IsLexeme (lexeme.Token token.StrLit) (value.Str (raw_bytes s.0))) (sym s.3) (raw_string s.0 s.1 s.2))

only_as : (P : List ℕ → Type 0) (bytes other : List ℕ) (n : ℕ) → bytes ≡ other → IsOnly P other n → IsOnly P bytes n
only_as P bytes other n e o = subst (λ (xs : List ℕ). IsOnly P xs n) (sym e) o

none_as : (P : List ℕ → Type 0) (bytes other : List ℕ) → bytes ≡ other → HasNone P other → HasNone P bytes
none_as P bytes other e o = subst (HasNone P) (sym e) o

pub rune_front : (bytes behind : List ℕ) (n : ℕ) → 0 < length bytes → start_of bytes ≡ Rune → behind ≡ drop 1 bytes → IsOnly IsRune (39 ∷ behind) n → IsLongestAt bytes (lexeme.Token token.RuneLit) n
rune_front bytes behind n some e is only =
    let o = only_as IsRune bytes (39 ∷ behind) n (rune_first bytes some e ∙ ap (λ (xs : List ℕ). 39 ∷ xs) (sym is)) only in
    front_by bytes Rune (lexeme.Token token.RuneLit) n e (λ no'. absurd (cc)) o.some o.within (rune_lexeme (take n bytes) o.stands) (λ v says. says)
    (λ k v text more c joined. omega (arith, o.only text more (c.0, c.1, c.2, c.3) joined))

pub no_rune : (bytes behind : List ℕ) → 0 < length bytes → start_of bytes ≡ Rune → behind ≡ drop 1 bytes → HasNone IsRune (39 ∷ behind) → BeginsNone bytes
no_rune bytes behind some e is none =
    let o = none_as IsRune bytes (39 ∷ behind) (rune_first bytes some e ∙ ap (λ (xs : List ℕ). 39 ∷ xs) (sym is)) none in
    none_by bytes Rune e (λ no'. absurd (cc)) (λ k v text more c joined. o text more (c.0, c.1, c.2, c.3) joined)

pub string_front : (bytes behind : List ℕ) (n : ℕ) → 0 < length bytes → start_of bytes ≡ Quoted → behind ≡ drop 1 bytes → IsOnly IsString (34 ∷ behind) n → IsLongestAt bytes (lexeme.Token token.StrLit) n
string_front bytes behind n some e is only =
    let o = only_as IsString bytes (34 ∷ behind) n (quoted_first bytes some e ∙ ap (λ (xs : List ℕ). 34 ∷ xs) (sym is)) only in
    front_by bytes Quoted (lexeme.Token token.StrLit) n e (λ no'. absurd (cc)) o.some o.within (string_lexeme (take n bytes) o.stands) (λ v says. says)
    (λ k v text more c joined. omega (arith, o.only text more (c.0, c.1, c.2, c.3) joined))

pub no_string : (bytes behind : List ℕ) → 0 < length bytes → start_of bytes ≡ Quoted → behind ≡ drop 1 bytes → HasNone IsString (34 ∷ behind) → BeginsNone bytes
no_string bytes behind some e is none =
    let o = none_as IsString bytes (34 ∷ behind) (quoted_first bytes some e ∙ ap (λ (xs : List ℕ). 34 ∷ xs) (sym is)) none in
    none_by bytes Quoted e (λ no'. absurd (cc)) (λ k v text more c joined. o text more (c.0, c.1, c.2, c.3) joined)

pub raw_front : (bytes behind : List ℕ) (n : ℕ) → 0 < length bytes → start_of bytes ≡ Raw → behind ≡ drop 1 bytes → IsOnly IsRaw (96 ∷ behind) n → IsLongestAt bytes (lexeme.Token token.StrLit) n
raw_front bytes behind n some e is only =
    let o = only_as IsRaw bytes (96 ∷ behind) n (raw_first bytes some e ∙ ap (λ (xs : List ℕ). 96 ∷ xs) (sym is)) only in
    front_by bytes Raw (lexeme.Token token.StrLit) n e (λ no'. absurd (cc)) o.some o.within (raw_lexeme (take n bytes) o.stands) (λ v says. says)
    (λ k v text more c joined. omega (arith, o.only text more (c.0, c.1, c.2, c.3) joined))

pub no_raw : (bytes behind : List ℕ) → 0 < length bytes → start_of bytes ≡ Raw → behind ≡ drop 1 bytes → HasNone IsRaw (96 ∷ behind) → BeginsNone bytes
no_raw bytes behind some e is none =
    let o = none_as IsRaw bytes (96 ∷ behind) (raw_first bytes some e ∙ ap (λ (xs : List ℕ). 96 ∷ xs) (sym is)) none in
    none_by bytes Raw e (λ no'. absurd (cc)) (λ k v text more c joined. o text more (c.0, c.1, c.2, c.3) joined)

-- names
name_lexeme : (text : List ℕ) → IsName text → IsLexeme (lexeme.Token (name_kind text)) (plain_value (name_kind text) text) text
name_lexeme text n = name n.0 n.1 n.2 n.3 n.4 n.5

pub name_front : (bytes : List ℕ) (kind : TokenKind) (n : ℕ) → start_of bytes ≡ Name → IsLongestName bytes n → kind ≡ name_kind (take n bytes) → IsLongestAt bytes (lexeme.Token kind) n
name_front bytes kind n e l is =
    subst (λ (k : TokenKind). IsLongestAt bytes (lexeme.Token k) n) (sym is)
    (front_by bytes Name (lexeme.Token (name_kind (take n bytes))) n e (λ no'. absurd (cc)) l.some l.within (plain_value (name_kind (take n bytes)) (take n bytes), name_lexeme (take n bytes) l.stands) (λ v says. says)
    (λ k v text more c joined. l.longest text more c.0 joined))

pub no_name : (bytes : List ℕ) → start_of bytes ≡ Name → HasNoName bytes → BeginsNone bytes
no_name bytes e none = none_by bytes Name e (λ no'. absurd (cc)) (λ k v text more c joined. none text more c.0 joined)

-- operators
same_operator : (o p : Operator) → ◌≡◌ {A = Option Operator} (Some o) (Some p) → o ≡ p
same_operator o p e = cc

operator_bound : (bytes text more : List ℕ) (kind : TokenKind) (o : Operator) → kind_in operators text ≡ Some kind → bytes ≡ text ++ more → operator_at bytes ≡ Some o → length text ≤ o.len
operator_bound bytes text more kind o row joined found =
    let c = operator_claim text more kind row in
    let same : c.0 ≡ o = same_operator c.0 o (sym c.1 ∙ ap operator_at (sym joined) ∙ found) in
    subst (λ (p : Operator). length text ≤ p.len) same c.2.bound

pub operator_front : (bytes : List ℕ) (o : Operator) → start_of bytes ≡ Sign → operator_at bytes ≡ Some o → IsLongestAt bytes (lexeme.Token o.kind) o.len
operator_front bytes o e found =
    let s = operator_stands bytes o found in
    front_by bytes Sign (lexeme.Token o.kind) o.len e (λ no'. absurd (cc)) s.some s.within (plain_value o.kind (take o.len bytes), operator s.stands) (λ v says. says)
    (λ k v text more c joined. operator_bound bytes text more c.0 o c.1 joined found)

pub no_operator : (bytes : List ℕ) → start_of bytes ≡ Sign → operator_at bytes ≡ None → BeginsNone bytes
no_operator bytes e none =
    none_by bytes Sign e (λ no'. absurd (cc))
    (λ k v text more c joined. let claim = operator_claim text more c.0 c.1 in absurd (let here : ◌≡◌ {A = Option Operator} (Some claim.0) None = sym claim.1 ∙ ap operator_at (sym joined) ∙ none in cc))

-- a prefix that a function has made
pub front_as : (bytes : List ℕ) (f g : LongestLexeme) → f ≡ g → IsLongestAt bytes g.kind g.len → IsLongestAt bytes f.kind f.len
front_as bytes f g e h = subst (λ (x : LongestLexeme). IsLongestAt bytes x.kind x.len) (sym e) h
