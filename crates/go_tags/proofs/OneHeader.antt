-- A file has one header or one cause, and not both.
use Rattle.std.proofs.Common.{◌≡◌, ℕ, ◌≤◌, Bool, true, List, [], ◌∷◌, length, Option, None, Some, refl, sym, ap, ◌∙◌, subst, arith}
use Rattle.go_model.specs.declared.files.build.ConstraintPart.{ConstraintPart}
use Rattle.go_model.specs.declared.files.build.Constraint.{Constraint}
use Rattle.go_model.specs.declared.files.build.Header.{Header}
use Rattle.go_model.specs.files.BuildConstraints.{IsOr, IsExpression}
use Rattle.go_base.specs.Comments.{without_mark}
use Rattle.go_model.specs.files.Headers.{HasHeader, IsConstraint, IsClause, IsHeader, opening_comments, build_texts, has_plus_line, HasTwoBuildLines, HasBadExpression, HasPlusAlone}
use Rattle.go_tags.specs.declared.error.TagError.{TagError}
use Rattle.go_tags.specs.declared.error.TagError.TheVariants.{BadExpression, Twice, PlusBuild, NoMemory}
use Rattle.go_tags.specs.HeaderCauses.{HasCause, IsOwnCause}
use Rattle.go_tags.proofs.CompleteExpressions.{expression_once}
use Rattle.go_tags.proofs.OneCut.{parts_once}
use Rattle.go_base.proofs.Fronts.{front_once}
use Rattle.go_tags.proofs.OneClause.{clause_once}

pub text_once : (text : List ℕ) (x y : Constraint) → IsExpression text x → IsExpression text y → x ≡ y
text_once text x y d e = expression_once 256 e.0 x y (subst (λ (parts : List ConstraintPart). IsOr 256 parts x) (parts_once d.1 e.0 e.1) d.2) e.2

same_header : (bytes : List ℕ) (one two : List (List ℕ)) (r s : List ℕ) → HasHeader bytes one r → HasHeader bytes two s → (one ≡ two) × (r ≡ s)
same_header bytes one two r s a b =
    let f = front_once a.front b.pieces s (without_mark bytes) refl b.front in
    (a.opening ∙ ap (opening_comments true) f.0 ∙ sym b.opening, f.1)

constraint_once : (texts : List (List ℕ)) (plus : Bool) (one two : Option Constraint) → IsConstraint texts plus one → IsConstraint texts plus two → one ≡ two
constraint_once [] plus None None a b = refl
constraint_once [] plus None (Some y) a b = absurd b
constraint_once [] plus (Some x) two a b = absurd a
constraint_once (text ∷ []) plus None two a b = absurd a
constraint_once (text ∷ []) plus (Some x) None a b = absurd b
constraint_once (text ∷ []) plus (Some x) (Some y) a b = ap Some (text_once text x y a b)
constraint_once (text ∷ more ∷ texts) plus one two a b = absurd a

clause_same : (bytes : List ℕ) (one two : Option (List ℕ)) → IsClause bytes one → IsClause bytes two → one ≡ two
clause_same bytes None None a b = refl
clause_same bytes None (Some y) a b = absurd (a y b)
clause_same bytes (Some x) None a b = absurd (b x a)
clause_same bytes (Some x) (Some y) a b = ap Some (clause_once bytes x y a b)

pub header_once : (bytes : List ℕ) (one two : Header) → IsHeader bytes one → IsHeader bytes two → one ≡ two
header_once bytes one two (comments, rest, has, constraint, clause) (comments2, rest2, has2, constraint2, clause2) =
    let same = same_header bytes comments comments2 rest rest2 has has2 in
    let left = subst (λ (cs : List (List ℕ)). IsConstraint (build_texts cs) (has_plus_line cs) one.constraint) same.0 constraint in
    let c = constraint_once (build_texts comments2) (has_plus_line comments2) one.constraint two.constraint left constraint2 in
    let n = clause_same rest2 one.clause two.clause (subst (λ (r : List ℕ). IsClause r one.clause) same.1 clause) clause2 in
    (λ i. record { constraint = c i; clause = n i })

-- the causes exclude each other, and the header
bad_or_two : (bytes : List ℕ) → HasBadExpression bytes → HasTwoBuildLines bytes → ⊥
bad_or_two bytes (one, r, has, text, e, none) (two, s, has2, many) =
    let same = (same_header bytes one two r s has has2).0 in
    absurd (omega (arith, many, ap length (sym (ap build_texts same) ∙ e)))

bad_or_plus : (bytes : List ℕ) → HasBadExpression bytes → HasPlusAlone bytes → ⊥
bad_or_plus bytes (one, r, has, text, e, none) (two, s, has2, empty, plus) =
    let same = (same_header bytes one two r s has has2).0 in
    let lone : text ∷ [] ≡ [] = sym e ∙ ap build_texts same ∙ empty in
    absurd (cc)

two_or_plus : (bytes : List ℕ) → HasTwoBuildLines bytes → HasPlusAlone bytes → ⊥
two_or_plus bytes (one, r, has, many) (two, s, has2, empty, plus) =
    let same = (same_header bytes one two r s has has2).0 in
    absurd (omega (arith, many, ap length (ap build_texts same ∙ empty)))

pub cause_once : (bytes : List ℕ) (one two : TagError) → IsOwnCause one → IsOwnCause two → HasCause bytes one → HasCause bytes two → one ≡ two
cause_once bytes NoMemory two own own2 a b = absurd (own refl)
cause_once bytes BadExpression BadExpression own own2 a b = refl
cause_once bytes BadExpression Twice own own2 a b = absurd (bad_or_two bytes a b)
cause_once bytes BadExpression PlusBuild own own2 a b = absurd (bad_or_plus bytes a b)
cause_once bytes BadExpression NoMemory own own2 a b = absurd (own2 refl)
cause_once bytes Twice BadExpression own own2 a b = absurd (bad_or_two bytes b a)
cause_once bytes Twice Twice own own2 a b = refl
cause_once bytes Twice PlusBuild own own2 a b = absurd (two_or_plus bytes a b)
cause_once bytes Twice NoMemory own own2 a b = absurd (own2 refl)
cause_once bytes PlusBuild BadExpression own own2 a b = absurd (bad_or_plus bytes b a)
cause_once bytes PlusBuild Twice own own2 a b = absurd (two_or_plus bytes b a)
cause_once bytes PlusBuild PlusBuild own own2 a b = refl
cause_once bytes PlusBuild NoMemory own own2 a b = absurd (own2 refl)

no_bad : (text : List ℕ) (plus : Bool) (o : Option Constraint) → ((x : Constraint) → IsExpression text x → ⊥) → IsConstraint (text ∷ []) plus o → ⊥
no_bad text plus None none a = a
no_bad text plus (Some x) none a = none x a

no_two : (texts : List (List ℕ)) (plus : Bool) (o : Option Constraint) → 2 ≤ length texts → IsConstraint texts plus o → ⊥
no_two [] plus o many a = absurd (omega arith)
no_two (text ∷ []) plus o many a = absurd (omega arith)
no_two (text ∷ more ∷ texts) plus o many a = a

no_plus : (plus : Bool) (o : Option Constraint) → plus ≡ true → IsConstraint [] plus o → ⊥
no_plus plus None e a = absurd (cc)
no_plus plus (Some x) e a = a

pub cause_or_header : (bytes : List ℕ) (header : Header) (error : TagError) → IsOwnCause error → HasCause bytes error → IsHeader bytes header → ⊥
cause_or_header bytes header NoMemory own a b = own refl
cause_or_header bytes header BadExpression own (one, r, has, text, e, none) (two, s, has2, constraint, clause) =
    let same = (same_header bytes one two r s has has2).0 in
    no_bad text (has_plus_line two) header.constraint none (subst (λ (ts : List (List ℕ)). IsConstraint ts (has_plus_line two) header.constraint) (sym (ap build_texts same) ∙ e) constraint)
cause_or_header bytes header Twice own (one, r, has, many) (two, s, has2, constraint, clause) =
    let same = (same_header bytes one two r s has has2).0 in
    no_two (build_texts two) (has_plus_line two) header.constraint (subst (λ (cs : List (List ℕ)). 2 ≤ length (build_texts cs)) same many) constraint
cause_or_header bytes header PlusBuild own (one, r, has, empty, plus) (two, s, has2, constraint, clause) =
    let same = (same_header bytes one two r s has has2).0 in
    no_plus (has_plus_line two) header.constraint (sym (ap has_plus_line same) ∙ plus)
    (subst (λ (ts : List (List ℕ)). IsConstraint ts (has_plus_line two) header.constraint) (sym (ap build_texts same) ∙ empty) constraint)
