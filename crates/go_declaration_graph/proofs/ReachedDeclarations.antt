-- The numbers that are reached along the rows of a package's order are those of the declarations that are reached.
use Rattle.std.proofs.Common.{◌≡◌, ℕ, ◌<◌, true, length, subst, inl, inr}
use Rattle.std.proofs.lemmas.Option.{slice_get_within}
use Rattle.go_graphs.specs.Flags.{AreFlagsOf, is_flagged}
use Rattle.go_sifting.specs.Graphs.{Leads}
use Rattle.go_sifting.specs.Orders.{IsOrderOf, IsReached}
use Rattle.go_sifting.specs.declared.order.DeclarationOrder.{DeclarationOrder}
use Rattle.go_typings.specs.Declarations.{declarations}
use Rattle.go_typings.specs.PackageEnvironments.{Entries}
use Rattle.go_typings.specs.References.{LeadsTo, leads_here, leads_by_name, leads_by_method}
use Rattle.go_typings.specs.Sources.{PackageSource, Setting}
use Rattle.go_declaration_graph.specs.inner.Reaching.{AreReached, IsReachedBy, named, led}

module _ (s : Setting) (u : PackageSource) (a : Entries) where
  abbrev count : ℕ
  count = length (declarations u)

  onward : {m n : ℕ} (k : ℕ) → LeadsTo s u a m n → Leads s u a n k → LeadsTo s u a m k
  onward k leads_here l = elim l [ inl p ↦ leads_by_name k p leads_here | inr p ↦ leads_by_method k p leads_here ]
  onward k (leads_by_name j p r) l = leads_by_name j p (onward k r l)
  onward k (leads_by_method j p r) l = leads_by_method j p (onward k r l)

  -- steps lead from declarations alone
  begins : {m n : ℕ} → LeadsTo s u a m n → n < count → m < count
  begins leads_here l = l
  begins {m = m} (leads_by_name j p r) l = slice_get_within (declarations u) m p.0 p.1
  begins {m = m} (leads_by_method j p r) l = slice_get_within (declarations u) m p.0 p.1

  module _ (o : DeclarationOrder) (order : IsOrderOf s u a o) (are : AreReached o.lengths count o.reached.items o.leads.items) where
    sound : {n : ℕ} → IsReachedBy o.lengths o.reached.items o.leads.items n → IsReached s u a n
    sound {n = n} (named k h) = (k, n, (order.lengths.exact k n).0 h, leads_here)
    sound {n = n} (led k q f h) = let r = sound q in (r.0, r.1, r.2, onward n r.3 ((order.leads.exact k n f).0 h))

    along : {m n : ℕ} → n < count → is_flagged o.reached.items m ≡ true → LeadsTo s u a m n → is_flagged o.reached.items n ≡ true
    along l f leads_here = f
    along {m = m} l f (leads_by_name j p r) = along l (are.next m j f ((order.leads.exact m j f).1 (inl p)) (begins r l)) r
    along {m = m} l f (leads_by_method j p r) = along l (are.next m j f ((order.leads.exact m j f).1 (inr p)) (begins r l)) r

    reached : AreFlagsOf count (IsReached s u a) o.reached.items
    reached = record {
      size = are.size;
      sound = λ n f. sound (are.sound n f);
      complete = λ n l r. along l (are.first r.0 r.1 ((order.lengths.exact r.0 r.1).1 r.2) (begins r.3 l)) r.3;
    }

  -- the same by how many borrowed declarations there are
  pub reached_from : (o : DeclarationOrder) (many : ℕ) → many ≡ length (declarations u) → IsOrderOf s u a o → AreReached o.lengths many o.reached.items o.leads.items → AreFlagsOf (length (declarations u)) (IsReached s u a) o.reached.items
  reached_from o many e order are = reached o order (subst (λ (n : ℕ). AreReached o.lengths n o.reached.items o.leads.items) e are)
