-- What declarations are given, one by one, and assignments that are had from below, whatever the rules are.
-- Own: that a package's types and values are had in an order in which each is given by those before it alone.
use Rattle.std.specs.Option.{option_or}
use Rattle.std.specs.Prelude.{◌≡◌, ℕ, Bool, true, false, if◌then◌else◌, nat_lt, List, length, Option, Some, None, slice_get}

-- an entry for a declaration, by its number
abbrev pub Assignment : Type 0 → Type 0
Assignment Entry = ℕ → Option Entry

-- the declaration of this number is as said
abbrev pub At : {Declaration : Type 0} → List Declaration → ℕ → (Declaration → Type 0) → Type 0
At {Declaration = Declaration} ds n P = (d : Declaration) × (slice_get ds n ≡ Some d) × P d

-- the entries whose order is below this one
abbrev pub before : {Entry : Type 0} → (ℕ → ℕ) → ℕ → Assignment Entry → Assignment Entry
before order k a n = if nat_lt (order n) k then a n else None

-- an order in which the entry of each declaration of a set is given under those before it alone
pub record Below {Declaration Entry : Type 0} (gives : Assignment Entry → Declaration → Entry → Type 0) (ds : List Declaration) (within : ℕ → Bool) (a : Assignment Entry) : Type 0 where
  pub only : (n : ℕ) → within n ≡ false → a n ≡ None
  pub order : ℕ → ℕ
  pub below : (n : ℕ) → within n ≡ true → At ds n (λ d. (x : Entry) × (a n ≡ Some x) × gives (before order (order n) a) d x)

-- all that are declared
abbrev pub all_of : {Declaration : Type 0} → List Declaration → ℕ → Bool
all_of ds n = nat_lt n (length ds)

-- the second has each entry of the first
abbrev pub Within : {Entry : Type 0} → Assignment Entry → Assignment Entry → Type 0
Within {Entry = Entry} a b = (n : ℕ) (x : Entry) → a n ≡ Some x → b n ≡ Some x

-- the first assignment, and where it has nothing the second
abbrev pub joined : {Entry : Type 0} → Assignment Entry → Assignment Entry → Assignment Entry
joined a b n = option_or (a n) (b n)
