-- What comes of platforms that are looked at apart from each other.
use Rattle.std.proofs.Common.{◌≡◌, ◌+◌, ◌<◌, ◌≤◌, ℕ, zero, suc, true, false, List, [], ◌∷◌, ◌++◌, length, get_or, drop, take, Result, Ok, Err, IfOk, refl, sym, ap, ◌∙◌, subst, append_assoc, append-nil, arith, inl, inr}
use Rattle.std.proofs.lemmas.List.{drop_more}
use Rattle.api_clients.proofs.PlatformAnswers.{Counts, TakenTo, counts_then, many_taken, skip_all}
use Rattle.api_clients.specs.ClientChecks.{CountsAtMost, count_more, count_none}
use Rattle.api_clients.specs.declared.outcomes.Outcome.{Outcome}
use Rattle.api_clients.specs.declared.outcomes.Outcome.TheVariants as outcome
use Rattle.api_clients.specs.inner.Outcomes.{AreAppended, AreOutcomes, IsOutcome, has_ended}
use Rattle.api_reports.specs.declared.clients.ClientAnswer.{ClientAnswer}
use Rattle.go_base.proofs.Lists.{drop_past, length_take}
use Rattle.go_base.specs.declared.memory.NoMemory.{NoMemory}
use Rattle.go_imports.proofs.Members.{below_or}
use Rattle.go_model.specs.declared.files.platform.Platform.{Platform}
use Rattle.go_model.specs.declared.files.tree.Tree.{Tree}

-- both lists, where they are there
pub appended_is : (r ours theirs : Result (List Outcome) NoMemory) (os us : List Outcome) → ours ≡ Ok os → theirs ≡ Ok us → IfOk r (λ all. all ≡ os ++ us) → AreAppended r ours theirs
appended_is (Err e) ours theirs os us a b h = tt
appended_is (Ok all) ours theirs os us a b h =
    subst (λ r. AreAppended (Ok all) r theirs) (sym a) (subst (AreAppended (Ok all) (Ok os)) (sym b) h)

whole_of : {A : Type 0} (n : ℕ) (xs : List A) → take n xs ++ drop n xs ≡ xs
whole_of zero xs = refl
whole_of (suc n) [] = refl
whole_of (suc n) (x ∷ xs) = ap (λ w. x ∷ w) (whole_of n xs)

module _ (barred : List (List ℕ)) (tree std_tree client : Tree) where
  -- ---- one more

  pub then_outcomes : (first number : ℕ) (p : Platform) (o : Outcome) (ns : List ℕ) (ps : List Platform) (os : List Outcome) → IsOutcome barred tree std_tree client first number p o → AreOutcomes barred tree std_tree client (number + 1) ns ps os
      → AreOutcomes barred tree std_tree client number (first ∷ ns) (p ∷ ps) (o ∷ os)
  then_outcomes first number p outcome.Alike ns ps os h a = (h, a)
  then_outcomes first number p (outcome.Answered x) ns ps os h a = (h, a)
  then_outcomes first number p (outcome.Ended e) ns ps os h a = h

  pub last_outcome : (first number : ℕ) (p : Platform) (o : Outcome) (ns : List ℕ) (ps : List Platform) (os : List Outcome) → has_ended o ≡ true → IsOutcome barred tree std_tree client first number p o
      → AreOutcomes barred tree std_tree client number (first ∷ ns) (p ∷ ps) (o ∷ os)
  last_outcome first number p outcome.Alike ns ps os e h = absurd (cc)
  last_outcome first number p (outcome.Answered x) ns ps os e h = absurd (cc)
  last_outcome first number p (outcome.Ended e) ns ps os t h = h

  -- ---- both lists

  pub both_outcomes : (number : ℕ) (ns ms : List ℕ) (ps qs : List Platform) (os us : List Outcome) → AreOutcomes barred tree std_tree client number ns ps os → AreOutcomes barred tree std_tree client (number + length ps) ms qs us
      → AreOutcomes barred tree std_tree client number (ns ++ ms) (ps ++ qs) (os ++ us)
  both_outcomes number [] ms [] qs os us a b =
      let here : number + 0 ≡ number = omega arith in
      subst (λ (w : List Outcome). AreOutcomes barred tree std_tree client number ms qs (w ++ us)) (sym a) (subst (λ (n : ℕ). AreOutcomes barred tree std_tree client n ms qs us) here b)
  both_outcomes number [] ms (p ∷ ps) qs os us a b = absurd a
  both_outcomes number (n ∷ ns) ms [] qs os us a b = absurd a
  both_outcomes number (n ∷ ns) ms (p ∷ ps) qs [] us a b = absurd a
  both_outcomes number (n ∷ ns) ms (p ∷ ps) qs (outcome.Ended e ∷ os) us a b = a
  both_outcomes number (n ∷ ns) ms (p ∷ ps) qs (outcome.Alike ∷ os) us a b =
      let on : number + suc (length ps) ≡ number + 1 + length ps = omega arith in
      (a.0, both_outcomes (number + 1) ns ms ps qs os us a.1 (subst (λ (k : ℕ). AreOutcomes barred tree std_tree client k ms qs us) on b))
  both_outcomes number (n ∷ ns) ms (p ∷ ps) qs (outcome.Answered x ∷ os) us a b =
      let on : number + suc (length ps) ≡ number + 1 + length ps = omega arith in
      (a.0, both_outcomes (number + 1) ns ms ps qs os us a.1 (subst (λ (k : ℕ). AreOutcomes barred tree std_tree client k ms qs us) on b))

  pub all_outcomes : (number : ℕ) (ns ms : List ℕ) (ps qs : List Platform) (r ours theirs : Result (List Outcome) NoMemory) → AreAppended r ours theirs → IfOk ours (AreOutcomes barred tree std_tree client number ns ps)
      → IfOk theirs (AreOutcomes barred tree std_tree client (number + length ps) ms qs) → IfOk r (AreOutcomes barred tree std_tree client number (ns ++ ms) (ps ++ qs))
  all_outcomes number ns ms ps qs (Err e) ours theirs a b c = tt
  all_outcomes number ns ms ps qs (Ok all) (Ok os) (Ok us) a b c = subst (AreOutcomes barred tree std_tree client number (ns ++ ms) (ps ++ qs)) (sym a) (both_outcomes number ns ms ps qs os us b c)
  all_outcomes number ns ms ps qs (Ok all) (Ok os) (Err e) a b c = absurd a
  all_outcomes number ns ms ps qs (Ok all) (Err e) theirs a b c = absurd a

  -- ---- how many packages

  abbrev Packages : List Platform → ℕ → Type 0
  Packages ps n = Counts barred tree std_tree client ps n

  counts_both : (ps qs : List Platform) (n m : ℕ) → Packages ps n → Packages qs m → Packages (ps ++ qs) (n + m)
  counts_both [] qs n m count_none d = let e : m ≡ 0 + m = omega arith in subst (Packages qs) e d
  counts_both (p ∷ ps) qs n m (count_more here {rest = rest} i c) d =
      let e : here + (rest + m) ≡ here + rest + m = omega arith in
      subst (Packages (p ∷ (ps ++ qs))) e (count_more here i (counts_both ps qs rest m c d))

  pub all_counted : (ps qs : List Platform) (k l total : ℕ) → CountsAtMost barred tree std_tree client ps 0 k → CountsAtMost barred tree std_tree client qs 0 l → total ≤ k + l → CountsAtMost barred tree std_tree client (ps ++ qs) 0 total
  all_counted ps qs k l total a b h = (a.0 + b.0, counts_both ps qs a.0 b.0 a.1 b.1, omega (arith, a.2, b.2, h))

  pub merged_count : (ps : List Platform) (k before now : ℕ) → CountsAtMost barred tree std_tree client ps 0 k → now ≤ before + k → CountsAtMost barred tree std_tree client ps before now
  merged_count ps k before now a h = (a.0, a.1, omega (arith, a.2, h))

  -- ---- where platforms are parted

  module _ (start n : ℕ) (ns ms gs : List ℕ) (ps qs rs : List Platform) (front : qs ≡ take n ps) (back : rs ≡ drop n ps) (first_front : ms ≡ take n ns) (first_back : gs ≡ drop n ns) (within : n ≤ length ps) where
    both : qs ++ rs ≡ ps
    both = (λ i. front i ++ back i) ∙ whole_of n ps

    firsts_both : ms ++ gs ≡ ns
    firsts_both = (λ i. first_front i ++ first_back i) ∙ whole_of n ns

    pub split_outcomes : (r ours theirs : Result (List Outcome) NoMemory) → AreAppended r ours theirs → IfOk ours (AreOutcomes barred tree std_tree client start ms qs) → IfOk theirs (AreOutcomes barred tree std_tree client (start + n) gs rs)
        → IfOk r (AreOutcomes barred tree std_tree client start ns ps)
    split_outcomes r ours theirs a b c =
        let many : length qs ≡ n = ap length front ∙ length_take n ps within in
        subst (λ (w : List ℕ). IfOk r (AreOutcomes barred tree std_tree client start w ps)) firsts_both
        (subst (λ (w : List Platform). IfOk r (AreOutcomes barred tree std_tree client start (ms ++ gs) w)) both
        (all_outcomes start ms gs qs rs r ours theirs a b (subst (λ (k : ℕ). IfOk theirs (AreOutcomes barred tree std_tree client (start + k) gs rs)) (sym many) c)))

    pub split_count : (k l total : ℕ) → CountsAtMost barred tree std_tree client qs 0 k → CountsAtMost barred tree std_tree client rs 0 l → total ≤ k + l → CountsAtMost barred tree std_tree client ps 0 total
    split_count k l total a b h = subst (λ (w : List Platform). CountsAtMost barred tree std_tree client w 0 total) both (all_counted qs rs k l total a b h)

  -- ---- what has come so far, of the first platforms

  pub record AnsweredTo (start : ℕ) (ns : List ℕ) (ps : List Platform) (i : ℕ) (os : List Outcome) (before now : ℕ) : Type 0 where
    pub outcomes : (us : List Outcome) → AreOutcomes barred tree std_tree client (start + i) (drop i ns) (drop i ps) us → AreOutcomes barred tree std_tree client start ns ps (os ++ us)
    pub count : ℕ
    pub counted : now ≤ before + count
    pub counts : (m : ℕ) → Packages (drop i ps) m → Packages ps (count + m)

  pub answered_none : (start : ℕ) (ns : List ℕ) (ps : List Platform) (os : List Outcome) (before : ℕ) → os ≡ [] → AnsweredTo start ns ps 0 os before before
  answered_none start ns ps os before e =
      let here : start + 0 ≡ start = omega arith in
      record {
        outcomes = λ us h. subst (λ (w : List Outcome). AreOutcomes barred tree std_tree client start ns ps (w ++ us)) (sym e) (subst (λ (n : ℕ). AreOutcomes barred tree std_tree client n ns ps us) here h);
        count = 0;
        counted = omega arith;
        counts = λ m h. let z : m ≡ 0 + m = omega arith in subst (Packages ps) z h;
      }

  module _ (start : ℕ) (ns : List ℕ) (ps : List Platform) (same : length ns ≡ length ps) (i : ℕ) (d : Platform) (os : List Outcome) (before mid now : ℕ) (within : i < length ps)
      (t : AnsweredTo start ns ps i os before mid) (k : CountsAtMost barred tree std_tree client (get_or ps i d ∷ []) mid now) where
    here : drop i ps ≡ get_or ps i d ∷ drop (i + 1) ps
    here = drop_more ps i d within

    first_here : drop i ns ≡ get_or ns i 0 ∷ drop (i + 1) ns
    first_here = drop_more ns i 0 (omega (arith, within, same))

    placed : (us : List Outcome) → AreOutcomes barred tree std_tree client (start + i) (get_or ns i 0 ∷ drop (i + 1) ns) (get_or ps i d ∷ drop (i + 1) ps) us → AreOutcomes barred tree std_tree client start ns ps (os ++ us)
    placed us h = t.outcomes us (subst (λ (ms : List ℕ). AreOutcomes barred tree std_tree client (start + i) ms (drop i ps) us) (sym first_here) (subst (λ (qs : List Platform). AreOutcomes barred tree std_tree client (start + i) (get_or ns i 0 ∷ drop (i + 1) ns) qs us) (sym here) h))

    pub count_answered : CountsAtMost barred tree std_tree client ps before now
    count_answered = (
      t.count + k.0,
      subst (Packages ps) (omega arith) (t.counts (k.0 + 0) (subst (λ (w : List Platform). Packages w (k.0 + 0)) (sym here) (counts_then barred tree std_tree client (get_or ps i d) (drop (i + 1) ps) k.0 0 k.1 (skip_all barred tree std_tree client (drop (i + 1) ps))))),
      omega (arith, t.counted, k.2),
    )

    module _ (o : Outcome) (is : IsOutcome barred tree std_tree client (get_or ns i 0) (start + i) (get_or ps i d) o) (all : List Outcome) (e : all ≡ os ++ o ∷ []) where
      pub answered_more : AnsweredTo start ns ps (i + 1) all before now
      answered_more =
          let on : start + (i + 1) ≡ start + i + 1 = omega arith in
          record {
            outcomes = λ us h.
                subst (λ (w : List Outcome). AreOutcomes barred tree std_tree client start ns ps (w ++ us)) (sym e)
                (subst (AreOutcomes barred tree std_tree client start ns ps) (sym (append_assoc os (o ∷ []) us))
                (placed (o ∷ us) (then_outcomes (get_or ns i 0) (start + i) (get_or ps i d) o (drop (i + 1) ns) (drop (i + 1) ps) us is (subst (λ (n : ℕ). AreOutcomes barred tree std_tree client n (drop (i + 1) ns) (drop (i + 1) ps) us) on h))));
            count = t.count + k.0;
            counted = omega (arith, t.counted, k.2);
            counts = λ m h. subst (Packages ps) (omega arith) (t.counts (k.0 + m) (subst (λ (w : List Platform). Packages w (k.0 + m)) (sym here) (counts_then barred tree std_tree client (get_or ps i d) (drop (i + 1) ps) k.0 m k.1 h)));
          }

      pub answered_last : has_ended o ≡ true → AreOutcomes barred tree std_tree client start ns ps all
      answered_last f = subst (AreOutcomes barred tree std_tree client start ns ps) (sym e) (placed (o ∷ []) (last_outcome (get_or ns i 0) (start + i) (get_or ps i d) o (drop (i + 1) ns) (drop (i + 1) ps) [] f is))

  module _ (start : ℕ) (ns : List ℕ) (ps : List Platform) (same : length ns ≡ length ps) (i : ℕ) (os : List Outcome) (before now : ℕ) (h : length ps ≤ i) (t : AnsweredTo start ns ps i os before now) where
    pub answered_all : AreOutcomes barred tree std_tree client start ns ps os
    answered_all =
        subst (AreOutcomes barred tree std_tree client start ns ps) (append-nil os)
        (t.outcomes [] (subst (λ (ms : List ℕ). AreOutcomes barred tree std_tree client (start + i) ms (drop i ps) []) (sym (drop_past i ns (omega (arith, h, same)))) (subst (λ (qs : List Platform). AreOutcomes barred tree std_tree client (start + i) [] qs []) (sym (drop_past i ps h)) refl)))

    pub count_all_answered : CountsAtMost barred tree std_tree client ps before now
    count_all_answered = (t.count, subst (Packages ps) (omega arith) (t.counts 0 (subst (λ (w : List Platform). Packages w 0) (sym (drop_past i ps h)) count_none)), t.counted)

  -- ---- what is left of the outcomes

  abbrev pub Left : ℕ → List ℕ → List Platform → List Outcome → ℕ → Type 0
  Left number ns ps os i = AreOutcomes barred tree std_tree client number (drop i ns) (drop i ps) os

  no_platform : (number : ℕ) (ns : List ℕ) (o : Outcome) (os : List Outcome) → AreOutcomes barred tree std_tree client number ns [] (o ∷ os) → ⊥
  no_platform number [] o os h = absurd (cc)
  no_platform number (n ∷ ns) o os h = h

  pub some_left : (number : ℕ) (ns : List ℕ) (ps : List Platform) (o : Outcome) (os : List Outcome) (i : ℕ) → Left number ns ps (o ∷ os) i → i < length ps
  some_left number ns ps o os i h = elim (below_or i (length ps)) [
    | inl within ↦ within
    | inr past ↦ absurd (no_platform number (drop i ns) o os (subst (λ (qs : List Platform). AreOutcomes barred tree std_tree client number (drop i ns) qs (o ∷ os)) (drop_past i ps past) h))
  ]

  head_of : (first number : ℕ) (p : Platform) (ns : List ℕ) (ps : List Platform) (o : Outcome) (os : List Outcome) → AreOutcomes barred tree std_tree client number (first ∷ ns) (p ∷ ps) (o ∷ os) → IsOutcome barred tree std_tree client first number p o
  head_of first number p ns ps outcome.Alike os h = h.0
  head_of first number p ns ps (outcome.Answered x) os h = h.0
  head_of first number p ns ps (outcome.Ended e) os h = h

  tail_of : (first number : ℕ) (p : Platform) (ns : List ℕ) (ps : List Platform) (o : Outcome) (os : List Outcome) → has_ended o ≡ false → AreOutcomes barred tree std_tree client number (first ∷ ns) (p ∷ ps) (o ∷ os)
      → AreOutcomes barred tree std_tree client (number + 1) ns ps os
  tail_of first number p ns ps outcome.Alike os e h = h.1
  tail_of first number p ns ps (outcome.Answered x) os e h = h.1
  tail_of first number p ns ps (outcome.Ended f) os e h = absurd (cc)

  module _ (number : ℕ) (ns : List ℕ) (ps : List Platform) (same : length ns ≡ length ps) (o : Outcome) (os : List Outcome) (i : ℕ) (d : Platform) (h : Left number ns ps (o ∷ os) i) where
    unfolded : AreOutcomes barred tree std_tree client number (get_or ns i 0 ∷ drop (i + 1) ns) (get_or ps i d ∷ drop (i + 1) ps) (o ∷ os)
    unfolded =
        let within = some_left number ns ps o os i h in
        subst (λ (qs : List Platform). AreOutcomes barred tree std_tree client number (get_or ns i 0 ∷ drop (i + 1) ns) qs (o ∷ os)) (drop_more ps i d within)
        (subst (λ (ms : List ℕ). AreOutcomes barred tree std_tree client number ms (drop i ps) (o ∷ os)) (drop_more ns i 0 (omega (arith, within, same))) h)

    pub next_outcome : IsOutcome barred tree std_tree client (get_or ns i 0) number (get_or ps i d) o
    next_outcome = head_of (get_or ns i 0) number (get_or ps i d) (drop (i + 1) ns) (drop (i + 1) ps) o os unfolded

    pub next_left : has_ended o ≡ false → Left (number + 1) ns ps os (i + 1)
    next_left e = tail_of (get_or ns i 0) number (get_or ps i d) (drop (i + 1) ns) (drop (i + 1) ps) o os e unfolded

  pub first_left : (ns : List ℕ) (ps : List Platform) (os us : List Outcome) → us ≡ os → AreOutcomes barred tree std_tree client 0 ns ps os → Left 0 ns ps us 0
  first_left ns ps os us e h = subst (AreOutcomes barred tree std_tree client 0 ns ps) (sym e) h

  -- ---- of one platform

  -- what comes of a platform comes of it as the one behind those on which something is told
  pub outcome_there : (ps : List Platform) (i : ℕ) (given : List ClientAnswer) (before now : ℕ) → i < length ps → TakenTo barred tree std_tree client ps i given before now
      → (first : ℕ) (p : Platform) (o : Outcome) → IsOutcome barred tree std_tree client first i p o → IsOutcome barred tree std_tree client first (length given) p o
  outcome_there ps i given before now within t first p o h = subst (λ (n : ℕ). IsOutcome barred tree std_tree client first n p o) (sym (many_taken barred tree std_tree client ps i given before now within t)) h

  pub alike_is : (first number : ℕ) (p : Platform) (o : Outcome) → o ≡ outcome.Alike → IsOutcome barred tree std_tree client first number p o → first < number
  alike_is first number p o e h = subst (IsOutcome barred tree std_tree client first number p) e h
