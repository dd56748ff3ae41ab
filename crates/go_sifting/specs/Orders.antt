-- What mostly tells by itself that no declaration of a package is lost: which declarations come before which, and where the names
-- in lengths lead.
-- Own: graphs as lists.
use Rattle.std.specs.Prelude.{◌≡◌, ◌<◌, ◌↔◌, ℕ, Bool, true, List, length}
use Rattle.go_base.specs.Lists.{Has}
use Rattle.go_graphs.specs.Flags.{is_flagged}
use Rattle.go_graphs.specs.Ranks.{HasRank}
use Rattle.go_graphs.specs.Walks.{LeadsBack, row_of}
use Rattle.go_typings.specs.Declarations.{declarations}
use Rattle.go_typings.specs.PackageEnvironments.{Entries}
use Rattle.go_typings.specs.References.{LeadsTo}
use Rattle.go_typings.specs.Sources.{PackageSource, Setting}
use Rattle.go_soundness.specs.LostDeclarations.{HasInLength}
use Rattle.go_soundness.specs.Ranks.{ComesAfter}
use Rattle.go_sifting.specs.Graphs.{AreRows, Leads}
use Rattle.go_sifting.specs.declared.order.DeclarationOrder.{DeclarationOrder}

module _ (s : Setting) (u : PackageSource) (a : Entries) where
  -- there is a row for each declaration, and those that are flagged have exactly the numbers to which their declarations stand so
  pub record AreRowsAmong (flags : List Bool) (Stands : ℕ → ℕ → Type 0) (rows : List (List ℕ)) : Type 0 where
    pub size : length rows ≡ length (declarations u)
    pub exact : (m n : ℕ) → is_flagged flags m ≡ true → Has (row_of rows m) n ↔ Stands m n

  pub record IsOrderOf (o : DeclarationOrder) : Type 0 where
    pub after : AreRows s u a (ComesAfter s u a) o.after
    pub lengths : AreRows s u a (HasInLength s u a) o.lengths
    pub leads : AreRowsAmong o.reached.items (Leads s u a) o.leads.items

  -- a name in the length of an array denotes the declaration, or one from which steps lead to it
  abbrev pub IsReached : ℕ → Type 0
  IsReached n = (k : ℕ) × (m : ℕ) × HasInLength s u a k m × LeadsTo s u a m n

-- each number in the rows is flagged
abbrev pub AreAmong : List Bool → List (List ℕ) → Type 0
AreAmong flags rows = (n m : ℕ) → Has (row_of rows n) m → is_flagged flags m ≡ true

-- all are flagged
abbrev pub AllFlagged : List Bool → Type 0
AllFlagged flags = (n : ℕ) → n < length flags → is_flagged flags n ≡ true

-- where lengths lead is told, and none leads back
pub record AreStraight (o : DeclarationOrder) : Type 0 where
  pub starts : AreAmong o.reached.items o.lengths
  pub closed : AreAmong o.reached.items o.leads.items
  pub straight : (n : ℕ) → n < length o.leads.items → LeadsBack o.leads.items o.lengths n → ⊥

-- all stand and have a rank, and no length leads back
pub record IsSettled (o : DeclarationOrder) (standing : List Bool) : Type 0 where
  pub stand : AllFlagged standing
  pub ranked : (n : ℕ) → n < length o.after → HasRank o.after n
  pub lengths : AreStraight o
