-- Blocks by their offsets: that they rise, and which one is found.
use Rattle.std.proofs.Common.{◌≡◌, ◌<◌, ◌≤◌, ◌+◌, ℕ, zero, suc, List, [], ◌∷◌, ◌++◌, Some, length, take, drop, get_or, refl, sym, ap, ◌∙◌, subst, arith}
use Rattle.go_base.specs.Lists.{Each}
use Rattle.go_literal_blocks.specs.Blocks.{FindsBlock, Rising}
use Rattle.go_rules.proofs.LocalParts.{each_both}
use Rattle.go_selectors.proofs.Lists.{drop_all, drop_next, taken_next}
use Rattle.go_statement_rules.specs.Functions.{IsBlockAt, block_here, block_later}
use Rattle.go_syntax.specs.declared.statement.LiteralBlock.{LiteralBlock}
use Rattle.go_syntax.specs.declared.statement.Stmt.{Stmt}

abbrev Below : ℕ → LiteralBlock → Type 0
Below n l = l.start < n

abbrev Above : ℕ → LiteralBlock → Type 0
Above n l = n < l.start

each_so : (P Q : LiteralBlock → Type 0) (xs : List LiteralBlock) → ((x : LiteralBlock) → P x → Q x) → Each P xs → Each Q xs
each_so P Q [] f h = tt
each_so P Q (x ∷ xs) f h = (f x h.0, each_so P Q xs f h.1)

same_at : (xs : List LiteralBlock) (i : ℕ) (x y : LiteralBlock) → i < length xs → get_or xs i x ≡ get_or xs i y
same_at [] i x y h = absurd (omega arith)
same_at (z ∷ xs) zero x y h = refl
same_at (z ∷ xs) (suc i) x y h = same_at xs i x y (omega arith)

pub once_at : (xs : List LiteralBlock) (i : ℕ) (x y : LiteralBlock) → i < length xs → x ≡ get_or xs i x → y ≡ get_or xs i y → x ≡ y
once_at xs i x y h e f = e ∙ same_at xs i x y h ∙ sym f

-- ---- that they rise

-- each begins behind those before it, block by block
abbrev Rises : List LiteralBlock → Type 0
Rises [] = Unit {0}
Rises (x ∷ xs) = Each (Above x.start) xs × Rises xs

at_first : (n : ℕ) (b : LiteralBlock) (ys : List LiteralBlock) (j : ℕ) → Each (Above n) ys → j < length ys → b ≡ get_or ys j b → n < b.start
at_first n b [] j f h e = absurd (omega arith)
at_first n b (y ∷ ys) zero f h e = subst (Above n) (sym e) f.0
at_first n b (y ∷ ys) (suc j) f h e = at_first n b ys j f.1 (omega arith) e

each_above : (n : ℕ) (ys : List LiteralBlock) → ((j : ℕ) (y : LiteralBlock) → j < length ys → y ≡ get_or ys j y → n < y.start) → Each (Above n) ys
each_above n [] f = tt
each_above n (y ∷ ys) f = (f 0 y (omega arith) refl, each_above n ys (λ j z h e. f (suc j) z (omega (arith, h)) e))

rises_of : (xs : List LiteralBlock) → Rising xs → Rises xs
rises_of [] r = tt
rises_of (x ∷ xs) r = (each_above x.start xs (λ j y h e. r 0 (suc j) x y (omega arith) (omega (arith, h)) refl e), rises_of xs (λ i j y z k h e f. r (suc i) (suc j) y z (omega (arith, k)) (omega (arith, h)) e f))

rising_of : (xs : List LiteralBlock) → Rises xs → Rising xs
rising_of [] r i j x y k h e f = absurd (omega (arith, h))
rising_of (b ∷ bs) r i zero x y k h e f = absurd (omega (arith, k))
rising_of (b ∷ bs) r zero (suc j) x y k h e f = subst (λ (z : LiteralBlock). z.start < y.start) (sym e) (at_first b.start y bs j r.0 (omega (arith, h)) f)
rising_of (b ∷ bs) r (suc i) (suc j) x y k h e f = rising_of bs r.1 i j x y (omega (arith, k)) (omega (arith, h)) e f

rising_last : (xs : List LiteralBlock) (y : LiteralBlock) → Rises xs → Each (Below y.start) xs → Rises (xs ++ y ∷ [])
rising_last [] y r h = (tt, tt)
rising_last (x ∷ xs) y r h = (each_both (λ (z : LiteralBlock). x.start < z.start) xs (y ∷ []) r.0 (h.0, tt), rising_last xs y r.1 h.1)

-- the first ones rise, and begin below this offset
pub record RisesTo (xs : List LiteralBlock) (i first : ℕ) : Type 0 where
  pub rising : Rises (take i xs)
  pub below : Each (Below first) (take i xs)

pub rises_begin : (xs : List LiteralBlock) → RisesTo xs 0 0
rises_begin xs = record { rising = tt; below = tt }

pub rises_next : (xs : List LiteralBlock) (i first next : ℕ) (x : LiteralBlock) → i < length xs → x ≡ get_or xs i x → first ≤ x.start → next ≡ x.start + 1 → RisesTo xs i first → RisesTo xs (i + 1) next
rises_next xs i first next x h e above n r =
    let low = each_so (Below first) (Below x.start) (take i xs) (λ y k. omega (arith, above, k)) r.below in
    let high = each_so (Below first) (Below next) (take i xs) (λ y k. omega (arith, above, k, n)) r.below in
    record {
      rising = subst Rises (sym (taken_next xs i x h e)) (rising_last (take i xs) x r.rising low);
      below = subst (Each (Below next)) (sym (taken_next xs i x h e)) (each_both (Below next) (take i xs) (x ∷ []) high (omega (arith, n), tt));
    }

pub rises_all : (xs : List LiteralBlock) (i first : ℕ) → take i xs ≡ xs → RisesTo xs i first → Rising xs
rises_all xs i first e r = rising_of xs (subst Rises e r.rising)

-- ---- a scan

-- what is found in the rest is found in all
pub record ScansOn (xs rest : List LiteralBlock) (q : ℕ) : Type 0 where
  pub to : (ss : List Stmt) → IsBlockAt rest q ss → IsBlockAt xs q ss
  pub from : (ss : List Stmt) → IsBlockAt xs q ss → IsBlockAt rest q ss

pub scans_begin : (xs : List LiteralBlock) (q : ℕ) → ScansOn xs xs q
scans_begin xs q = record { to = λ ss h. h; from = λ ss h. h }

first_block : {xs : List LiteralBlock} {x : LiteralBlock} {q : ℕ} {ss : List Stmt} → (x.start ≡ q → ⊥) → IsBlockAt (x ∷ xs) q ss → IsBlockAt xs q ss
first_block n (block_here e) = absurd (n e)
first_block n (block_later m h) = h

no_block : {q : ℕ} {ss : List Stmt} → IsBlockAt [] q ss → ⊥
no_block h = elim h [ ]

module _ (xs : List LiteralBlock) (i q : ℕ) (x : LiteralBlock) (h : i < length xs) (e : x ≡ get_or xs i x) (s : ScansOn xs (drop i xs) q) where
  here : ScansOn xs (x ∷ drop (i + 1) xs) q
  here = subst (λ (ys : List LiteralBlock). ScansOn xs ys q) (drop_next i xs x h e) s

  pub scans_found : x.start ≡ q → FindsBlock xs q (Some i)
  scans_found k = (x, h, e, here.to x.block (block_here k))

  pub scans_next : (x.start ≡ q → ⊥) → ScansOn xs (drop (i + 1) xs) q
  scans_next n = record { to = λ ss k. here.to ss (block_later n k); from = λ ss k. first_block n (here.from ss k) }

pub scans_none : (xs : List LiteralBlock) (i q : ℕ) → length xs ≤ i → ScansOn xs (drop i xs) q → (ss : List Stmt) → IsBlockAt xs q ss → ⊥
scans_none xs i q h s ss k = no_block (subst (λ (ys : List LiteralBlock). IsBlockAt ys q ss) (drop_all i xs h) (s.from ss k))

-- ---- a bisection

pub record Narrowed (xs : List LiteralBlock) (q low high : ℕ) : Type 0 where
  pub before : Each (Below q) (take low xs)
  pub behind : Each (Above q) (drop high xs)
  pub within : high ≤ length xs

pub narrowed_begin : (xs : List LiteralBlock) (q high : ℕ) → high ≡ length xs → Narrowed xs q 0 high
narrowed_begin xs q high e = record { before = tt; behind = subst (Each (Above q)) (sym (drop_all high xs (omega (arith, e)))) tt; within = omega (arith, e) }

-- those before one that begins below an offset do so too, and those behind one that begins above it
taken_below : (xs : List LiteralBlock) (i q : ℕ) (x : LiteralBlock) → Rises xs → i < length xs → x ≡ get_or xs i x → x.start < q → Each (Below q) (take (i + 1) xs)
taken_below xs i q x r h e b = subst (Each (Below q)) (sym (taken_next xs i x h e)) (each_both (Below q) (take i xs) (x ∷ []) (each_so (Below x.start) (Below q) (take i xs) (λ y k. omega (arith, b, k)) (lower xs i x r h e)) (b, tt))
  where
    lower : (xs : List LiteralBlock) (i : ℕ) (x : LiteralBlock) → Rises xs → i < length xs → x ≡ get_or xs i x → Each (Below x.start) (take i xs)
    lower [] i x r h e = absurd (omega arith)
    lower (y ∷ xs) zero x r h e = tt
    lower (y ∷ xs) (suc i) x r h e = (at_first y.start x xs i r.0 (omega arith) e, lower xs i x r.1 (omega arith) e)

dropped_above : (xs : List LiteralBlock) (i q : ℕ) (x : LiteralBlock) → Rises xs → i < length xs → x ≡ get_or xs i x → q < x.start → Each (Above q) (drop i xs)
dropped_above [] i q x r h e b = absurd (omega arith)
dropped_above (y ∷ xs) zero q x r h e b =
    let c : q < y.start = subst (λ (z : LiteralBlock). q < z.start) e b in
    (c, each_so (λ (z : LiteralBlock). y.start < z.start) (Above q) xs (λ z k. omega (arith, c, k)) r.0)
dropped_above (y ∷ xs) (suc i) q x r h e b = dropped_above xs i q x r.1 (omega arith) e b

module _ (xs : List LiteralBlock) (q low high middle : ℕ) (x : LiteralBlock) (rising : Rising xs) (n : Narrowed xs q low high) (h : middle < length xs) (e : x ≡ get_or xs middle x) where
  pub narrowed_below : x.start < q → Narrowed xs q (middle + 1) high
  narrowed_below b = record { before = taken_below xs middle q x (rises_of xs rising) h e b; behind = n.behind; within = n.within }

  pub narrowed_above : q < x.start → Narrowed xs q low middle
  narrowed_above b = record { before = n.before; behind = dropped_above xs middle q x (rises_of xs rising) h e b; within = omega (arith, h) }

-- one of which those before it begin elsewhere
found_at : (xs : List LiteralBlock) (i q : ℕ) (x : LiteralBlock) → Rises xs → i < length xs → x ≡ get_or xs i x → x.start ≡ q → IsBlockAt xs q x.block
found_at [] i q x r h e s = absurd (omega arith)
found_at (y ∷ xs) zero q x r h e s = subst (λ (z : LiteralBlock). IsBlockAt (y ∷ xs) q z.block) (sym e) (block_here (ap (λ (z : LiteralBlock). z.start) (sym e) ∙ s))
found_at (y ∷ xs) (suc i) q x r h e s = block_later (λ (k : y.start ≡ q). let b : y.start < x.start = at_first y.start x xs i r.0 (omega arith) e in omega (arith, b, k, s)) (found_at xs i q x r.1 (omega arith) e s)

pub rising_found : (xs : List LiteralBlock) (i q : ℕ) (x : LiteralBlock) → Rising xs → i < length xs → x ≡ get_or xs i x → x.start ≡ q → FindsBlock xs q (Some i)
rising_found xs i q x r h e s = (x, h, e, found_at xs i q x (rises_of xs r) h e s)

nowhere : (xs : List LiteralBlock) (low high q : ℕ) → high ≤ low → Each (Below q) (take low xs) → Each (Above q) (drop high xs) → (ss : List Stmt) → IsBlockAt xs q ss → ⊥
nowhere [] low high q h b a ss k = no_block k
nowhere (x ∷ xs) zero zero q h b a ss (block_here e) = let c = a.0 in omega (arith, c, e)
nowhere (x ∷ xs) zero zero q h b a ss (block_later n k) = nowhere xs zero zero q h tt a.1 ss k
nowhere (x ∷ xs) zero (suc high) q h b a ss k = absurd (omega arith)
nowhere (x ∷ xs) (suc low) zero q h b a ss (block_here e) = let c = b.0 in omega (arith, c, e)
nowhere (x ∷ xs) (suc low) zero q h b a ss (block_later n k) = nowhere xs low zero q (omega arith) b.1 a.1 ss k
nowhere (x ∷ xs) (suc low) (suc high) q h b a ss (block_here e) = let c = b.0 in omega (arith, c, e)
nowhere (x ∷ xs) (suc low) (suc high) q h b a ss (block_later n k) = nowhere xs low high q (omega arith) b.1 a ss k

pub narrowed_none : (xs : List LiteralBlock) (q low high : ℕ) → high ≤ low → Narrowed xs q low high → (ss : List Stmt) → IsBlockAt xs q ss → ⊥
narrowed_none xs q low high h n ss k = nowhere xs low high q h n.before n.behind ss k
