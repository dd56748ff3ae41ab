-- Sets of claims grow by one claim at a time.
use Rattle.std.proofs.Common.{◌≡◌, Bool, true, false, List, [], ◌∷◌, ◌++◌, refl, sym, ap, ◌∙◌, subst, inl, append-nil}
use mathlib.Core.Bool.{true≢false}
use Rattle.std.specs.Prelude.{if◌then◌else◌, nat_eq, ◌&&◌}
use Rattle.std.specs.List.{list_any}
use Rattle.std.specs.Cmp.{first_so, second_so, unsigned_Decides}
use Rattle.indexmap.specs.IndexSet.{insert_key}
use Rattle.go_base.specs.Lists.{Has, Once}
use Rattle.go_base.specs.Growing.{Grows}
use Rattle.go_base.proofs.Members.{found_has, has_found}
use Rattle.api_forced.specs.declared.claims.Claim.{Claim}
use Rattle.api_forced.specs.contracts.claims.ClaimPartialEq.TheImpl as ClaimEquality
use Rattle.api_forced.specs.inner.Claims.{AddsClaims}
use Rattle.api_correspond.proofs.Growing.{grows_one}
use Rattle.api_correspond.proofs.Places.{once_more}

abbrev same : Claim → Claim → Bool
same = ClaimEquality.eq-value.it

claim_same : (a b : Claim) → same a b ≡ true → a ≡ b
claim_same a b e =
    let f : a.owner ≡ b.owner = (unsigned_Decides a.owner b.owner).0 (first_so _ _ e) in
    let g : a.pair ≡ b.pair = (unsigned_Decides a.pair b.pair).0 (second_so _ _ e) in
    (λ i. record { owner = f i; pair = g i })

claim_self : (a : Claim) → same a a ≡ true
claim_self a = ap (λ b. b && nat_eq a.pair a.pair) ((unsigned_Decides a.owner a.owner).1 refl) ∙ (unsigned_Decides a.pair a.pair).1 refl

added : (ks new : List Claim) (c : Claim) (known : Bool) → list_any (same c) ks ≡ known → new ≡ (if known then ks else ks ++ c ∷ []) → AddsClaims (λ d. c ≡ d) ks new
added ks new c true e f = record {
  more = [];
  grown = f ∙ sym (append-nil ks);
  grows = subst (Grows (λ d. c ≡ d) ks) (sym f) (record { sound = λ d h. inl h; kept = λ d h. h; complete = λ d s. subst (Has ks) s (found_has same claim_same ks c e) });
  once = λ o. subst Once (sym f) o;
}
added ks new c false e f = record {
  more = c ∷ [];
  grown = f;
  grows = grows_one ks new c f refl (λ d s. s);
  once = λ o. subst Once (sym f) (once_more ks c o (λ m. true≢false (sym (has_found same claim_self ks c m) ∙ e)));
}

pub claim_added : (ks new : List Claim) (c : Claim) → new ≡ insert_key same ks c → AddsClaims (λ d. c ≡ d) ks new
claim_added ks new c e = added ks new c (list_any (same c) ks) refl e
