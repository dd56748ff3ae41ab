-- What constants and variables of a function are given, from the answers of the calls that ask for it.
use Rattle.std.proofs.Common.{◌≡◌, Bool, true, false, [], Result, Err, subst}
use Rattle.std.specs.Result.{IsErrAnd}
use Rattle.go_base.specs.Lists.{Each}
use Rattle.go_declaration_asks.specs.go_entries.Entries.{TellsQualified, entry_of}
use Rattle.go_declaration_asks.specs.go_entries.declared.entry.Entry.{Entry}
use Rattle.go_declaration_asks.specs.go_entries.declared.entry.Entry.TheVariants as entry
use Rattle.go_local_specs.specs.LocalForms.{GivesLocal, IsLocal, is_objects, objects_in}
use Rattle.go_rules.specs.Asks.{Meets}
use Rattle.go_rules.specs.Environments.{Env}
use Rattle.go_selectors.specs.Answers.{Decides}
use Rattle.go_statement_rules.specs.Statements.{fits}
use Rattle.go_type_terms.specs.Answers.{Tells}
use Rattle.go_type_terms.specs.declared.error.ExprError.{ExprError}
use Rattle.go_type_terms.proofs.Handed.{told_told}
use Rattle.go_typings.specs.DeclarationNodes.{nodes}
use Rattle.go_typings.specs.DeclarationRules.{Gives}
use Rattle.go_typings.specs.Declarations.{Form, constants, variables, alias, definition, function, method}
use Rattle.go_typings.specs.PackageEnvironments.{objects}

no_objects : false ≡ true → ⊥
no_objects e = absurd (cc)

module _ (E : Env) (f : Form) where
  pub local_told : IsLocal f → TellsQualified E [] f false
  local_told = by_form f
    where
      by_form : (f : Form) → IsLocal f → TellsQualified E [] f false
      by_form (constants s place) h = tt
      by_form (variables s) h = tt
      by_form (alias s) h = absurd h
      by_form (definition s) h = absurd h
      by_form (function g) h = absurd h
      by_form (method receiver g) h = absurd h

  abbrev pub Whole : Entry → Type 0
  Whole x = GivesLocal E f (objects_in x)

  -- nothing is given
  pub local_none : (e : ExprError) (r : Result Entry ExprError) → IsErrAnd r (λ x. x ≡ e) → Tells {A = Entry} (λ x. Gives E [] f (entry_of x)) (Err e) → Tells {A = Entry} Whole r
  local_none e r i t = told_told (λ (x : Entry). Gives E [] f (entry_of x)) Whole e r i t (λ x g. (entry.Objects (objects_in x), g.0))

  pub local_unfit : (b : Bool) → b ≡ false → Decides b (fits E f) → (x : Entry) → Whole x → ⊥
  local_unfit b e d x g = (let none : fits E f → ⊥ = subst (λ (c : Bool). Decides c (fits E f)) e d in none) g.1

  pub local_unmet : (b : Bool) → b ≡ false → Decides b (Each (Meets E) (nodes f)) → (x : Entry) → Whole x → ⊥
  local_unmet b e d x g = (let none : Each (Meets E) (nodes f) → ⊥ = subst (λ (c : Bool). Decides c (Each (Meets E) (nodes f))) e d in none) g.2

  given_objects : (x : Entry) → is_objects x ≡ true → Gives E [] f (entry_of x) → Gives E [] f (objects (objects_in x))
  given_objects (entry.Objects xs) e g = g
  given_objects x e g = absurd (no_objects e)

  pub local_given : (x : Entry) → is_objects x ≡ true → Gives E [] f (entry_of x) → (a b : Bool) → a ≡ true → b ≡ true → Decides a (fits E f) → Decides b (Each (Meets E) (nodes f)) → Whole x
  local_given x o g a b i j c d = (given_objects x o g, subst (λ (z : Bool). Decides z (fits E f)) i c, subst (λ (z : Bool). Decides z (Each (Meets E) (nodes f))) j d)
