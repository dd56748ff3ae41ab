-- Tables that share types preserve them.
use Rattle.std.proofs.Common.{◌≡◌, ◌⊎◌, inl, inr, Bool, true, false, List, [], refl, sym, ap, ◌∙◌, subst}
use Rattle.go_model.specs.declared.types.names.Sel.{Sel}
use Rattle.go_model.specs.declared.types.names.TypeName.{TypeName}
use Rattle.go_model.specs.declared.types.term.Term.{Term}
use Rattle.go_model.specs.types.Imports.{is_imported}
use Rattle.go_model.specs.types.Tables.{Table}
use Rattle.go_type_images.specs.Images.{Naming}
use Rattle.go_client_types.specs.Preserving.{Preserves}
use Rattle.go_client_types.specs.Reached.{IsGiven}
use Rattle.go_shared_types.specs.Sharing.{IsShared}
use Rattle.go_shared_types.proofs.Alike as A

same_name : Naming
same_name n = n

module _ (T U : Table) (std : TypeName → Bool) (is_open : Sel → Bool) (S : IsShared T U std is_open) where
  fixes : (n : TypeName) → std n ≡ true → n ≡ n
  fixes n p = refl

  alike : (t : Term) → IsGiven [] std is_open t → A.IsAlike T U (λ n. n) std is_open S fixes t
  alike t (inl p) = absurd (p.1)
  alike t (inr g) = g

  closed_bool : (b : Bool) → b ≡ true → b ≡ false → ⊥
  closed_bool true e f = absurd (cc)
  closed_bool false e f = absurd (cc)

  pub preserves : Preserves T U (λ n. n) [] std is_open
  preserves = record {
    exported_open = S.exported;
    parts_given = λ t u g k. inr (A.inside T U (λ n. n) std is_open S fixes t u (alike t g) k);
    own = λ n i. refl;
    imported = λ t n g e i. i;
    has_entry = λ t g. A.has_entry T U (λ n. n) std is_open S fixes t (alike t g);
    beneath = λ t g. A.beneath T U (λ n. n) std is_open S fixes (IsGiven [] std is_open) (λ u h. inr h) t (alike t g);
    fields = λ t f g k x. let h = A.fields T U (λ n. n) std is_open S fixes t f (alike t g) k in (h.0, h.1, h.2, h.3, inr h.4);
    found_field = λ t s b q d v g x blank o. let h = A.found_field T U (λ n. n) std is_open S fixes t s b q d v (alike t g) o in (d, q, h.0, (λ e. e), inr h.1);
    found_method = λ t s b q a d o h g x i. let f = A.found_method T U (λ n. n) std is_open S fixes t s b q a d o h (alike t g) i in (d, q, a, o, f.0, (λ e. e), inr f.1, f.2);
    strange = λ t s k b g e. A.strange T U (λ n. n) std is_open S fixes t s k b (alike t g) e;
    on_way = λ t b x g w. A.on_way T U (λ n. n) std is_open S fixes t b x (alike t g) w;
    unsealed = λ i ms g e h n k. A.unsealed T U (λ n. n) std is_open S fixes i ms (alike i g) e n k;
    sealed = λ v i ms m g h e k x w. absurd (closed_bool (is_open _) (A.opened T U (λ n. n) std is_open S fixes i ms m (alike i h) e k) x);
    sealed_pointer = λ v i ms m g h e k x w. absurd (closed_bool (is_open _) (A.opened T U (λ n. n) std is_open S fixes i ms m (alike i h) e k) x);
    compares = λ t g c. A.compares T U (λ n. n) std is_open S fixes t (alike t g) c;
    leads = λ t u g l. A.leads T U (λ n. n) std is_open S fixes t u (alike t g) l;
    interfaces = λ t n ms g e u. A.interfaces T U (λ n. n) std is_open S fixes t n ms (alike t g) e u;
    apart = λ s t m n g h e f q. q;
  }
