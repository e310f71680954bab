-- Laws of a segment's rate matching by d: how many come out, which copies, where they stand, maps, and the undoing.
use mathlib.Core.Path.{◌≡◌, refl, sym, ap, ◌∙◌, subst}
use mathlib.Core.Logic.{◌↔◌}
use mathlib.Core.Bool.{Bool, true, false, false≢true}
use mathlib.Core.List.{List, [], ◌∷◌, map}
use Prim.Native.Nat.{ℕ, zero, suc, ◌+◌, ◌*◌, ◌≤◌, ◌<◌}
use native.Mathlib.Omega.{arith}
use borrow.Author.Tests.{ltb-true, ltb-false}
use lib.Dec.{ltb}
use lib.IntN.{ℤ, pos, negsuc, nat_abs, sub_ℕ, ◌-ℤ◌}
use lib.ListN.{length, get_or, take, drop}
use Rattle.laws.specs.Sums.{sum_to}
use Rattle.laws.specs.Tables.{table}
use Rattle.pattern.specs.Pattern.{again, grown, after, walked, copies_from, negative, matched, copies_of, shared, Stands, Rates}
use Rattle.pattern.specs.Closed.{changed, sent_before, Dropped}
use Rattle.pattern.proofs.CountLaws.{count-zero, count-all, count-up, count_most, copies-more, copies-less}
use Rattle.pattern.proofs.WalkLaws.{length-walked, walked_at, shared-walked, walked-map, walked_of, length-shared-from, shared-from-at}

-- ---- d = V - N, said of natural numbers

abbrev pub Differs : ℤ → ℕ → ℕ → Type 0
Differs (pos a) N W = W ≡ N + a
Differs (negsuc a) N W = N ≡ W + suc a

differ : (W N : ℕ) → Differs (pos W -ℤ pos N) N W
differ W zero = omega arith
differ W (suc n) = go (ltb W (suc n)) refl
  where
    go : (b : Bool) → ltb W (suc n) ≡ b → Differs (sub_ℕ W (suc n)) (suc n) W
    go true e = rw e (omega (arith, ltb-true W (suc n) e))
    go false e = rw e (omega (arith, ltb-false W (suc n) e))

pub differs : (d : ℤ) (N W e : ℕ) → Rates d N W e → Differs d N W
differs d N W e r = subst (λ (x : ℤ). Differs x N W) (sym r.change) (differ W N)

some_bits : (d : ℤ) (N W : ℕ) → Differs d N W → (N ≡ 0 → W ≡ 0) → 0 < nat_abs d → 0 < N
some_bits (pos a) zero W h z k = absurd (omega (arith, z refl))
some_bits (negsuc a) zero W h z k = absurd (omega arith)
some_bits d (suc N) W h z k = omega arith

-- where d is not 0 there is a bit, and e stands between 1 and 2N
pub started : (d : ℤ) (N W e : ℕ) → Rates d N W e → 0 < nat_abs d → (0 < N) × (0 < e) × (e ≤ 2 * N)
started d N W e r k =
    let n = some_bits d N W (differs d N W e r) r.empty k in
    let s = r.start n k in
    (n, s.0, s.1)

stands-more : (a N W e : ℕ) → Rates (pos (suc a)) N W e → Stands false (2 * N) (2 * suc a) e
stands-more a N W e r =
    let s = started (pos (suc a)) N W e r (omega arith) in
    record { above = s.1; top = s.2; most = λ x. absurd (false≢true x) }

stands-less : (a N W e : ℕ) → Rates (negsuc a) N W e → Stands true (2 * N) (2 * suc a) e
stands-less a N W e r =
    let s = started (negsuc a) N W e r (omega arith) in
    let d : N ≡ W + suc a = differs (negsuc a) N W e r in
    record { above = s.1; top = s.2; most = λ x. omega arith }

-- ---- the counts

-- c(0) = 0
pub changed-none : (d : ℤ) (N W e : ℕ) → Rates d N W e → changed d N e 0 ≡ 0
unfolding changed
changed-none (pos zero) N W e r = refl
changed-none (pos (suc a)) N W e r = let s = stands-more a N W e r in count-zero (2 * N) (2 * suc a) e s.above s.top
changed-none (negsuc a) N W e r = let s = stands-less a N W e r in count-zero (2 * N) (2 * suc a) e s.above s.top

-- c(N) = |d|
pub changed-all : (d : ℤ) (N W e : ℕ) → Rates d N W e → changed d N e N ≡ nat_abs d
unfolding changed
changed-all (pos zero) N W e r = refl
changed-all (pos (suc a)) N W e r = let s = stands-more a N W e r in count-all N (suc a) e s.above s.top
changed-all (negsuc a) N W e r = let s = stands-less a N W e r in count-all N (suc a) e s.above s.top

-- c rises; by one at most where bits are dropped
pub changed-up : (d : ℤ) (N W e m : ℕ) → Rates d N W e → changed d N e m ≤ changed d N e (suc m)
unfolding changed
changed-up (pos zero) N W e m r = omega arith
changed-up (pos (suc a)) N W e m r =
    let s = started (pos (suc a)) N W e r (omega arith) in count-up (2 * N) (2 * suc a) e m (omega (arith, s.0))
changed-up (negsuc a) N W e m r =
    let s = started (negsuc a) N W e r (omega arith) in count-up (2 * N) (2 * suc a) e m (omega (arith, s.0))

one_each : (P e m : ℕ) → copies_from false P 0 e m ≡ 1
unfolding copies_from grown again
one_each P e zero = refl
one_each P e (suc m) = one_each P (after false P 0 e) m

-- the copies of bit m: one, and those that c adds, or less those that c drops
pub copies_added : (a N W e m : ℕ) → Rates (pos a) N W e → copies_of (pos a) N e m + changed (pos a) N e m ≡ 1 + changed (pos a) N e (suc m)
unfolding copies_of changed
copies_added zero N W e m r = omega (arith, one_each (2 * N) e m)
copies_added (suc a) N W e m r = copies-more (2 * N) (2 * suc a) e m (stands-more a N W e r)

pub copies-dropped : (a N W e m : ℕ) → Rates (negsuc a) N W e
    → copies_of (negsuc a) N e m + changed (negsuc a) N e (suc m) ≡ 1 + changed (negsuc a) N e m
unfolding copies_of changed
copies-dropped a N W e m r = copies-less (2 * N) (2 * suc a) e m (stands-less a N W e r)

-- no copy is sent exactly of the bits at which c goes up
pub none_sent : (d : ℤ) (N W e m : ℕ) → Rates d N W e → (copies_of d N e m ≡ 0) ↔ Dropped d N e m
none_sent (pos a) N W e m r =
    (λ z. omega (arith, copies_added a N W e m r, changed-up (pos a) N W e m r), λ x. absurd x)
none_sent (negsuc a) N W e m r =
    let s = copies-dropped a N W e m r in
    let u = changed-up (negsuc a) N W e m r in
    (λ z. omega arith, λ x. omega arith)

-- ---- how many are sent of the first m bits

pub sent_none : (d : ℤ) (N W e : ℕ) → Rates d N W e → sent_before d N e 0 ≡ 0
unfolding sent_before
sent_none (pos a) N W e r = omega (arith, changed-none (pos a) N W e r)
sent_none (negsuc a) N W e r = omega arith

pub sent_all : (d : ℤ) (N W e : ℕ) → Rates d N W e → sent_before d N e N ≡ W
unfolding sent_before
sent_all (pos a) N W e r = omega (arith, changed-all (pos a) N W e r, differs (pos a) N W e r)
sent_all (negsuc a) N W e r = omega (arith, changed-all (negsuc a) N W e r, differs (negsuc a) N W e r)

few-dropped : (a N W e m : ℕ) → Rates (negsuc a) N W e → changed (negsuc a) N e m ≤ m
unfolding changed
few-dropped a N W e m r = count_most (2 * N) (2 * suc a) e m (stands-less a N W e r)

pub sent_more : (d : ℤ) (N W e m : ℕ) → Rates d N W e → sent_before d N e (suc m) ≡ sent_before d N e m + copies_of d N e m
unfolding sent_before
sent_more (pos a) N W e m r = omega (arith, copies_added a N W e m r)
sent_more (negsuc a) N W e m r = omega (arith, copies-dropped a N W e m r, few-dropped a N W e m r, few-dropped a N W e (suc m) r)

pub sent_sum : (d : ℤ) (N W e m : ℕ) → Rates d N W e → sum_to (copies_of d N e) m ≡ sent_before d N e m
unfolding sum_to
sent_sum d N W e zero r = sym (sent_none d N W e r)
sent_sum d N W e (suc m) r = ap (λ (n : ℕ). n + copies_of d N e m) (sent_sum d N W e m r) ∙ sym (sent_more d N W e m r)

-- ---- what comes out

module _ {A B : Type 0} (f : A → ℕ → B) where
  -- N + d = V bits
  pub length-matched : (d : ℤ) (W e : ℕ) (xs : List A) → Rates d (length xs) W e → length (matched f d (length xs) e xs) ≡ W
  unfolding matched copies_of
  length-matched d W e xs r =
      length-walked f (negative d) (2 * length xs) (2 * nat_abs d) e xs
      ∙ sent_sum d (length xs) W e (length xs) r
      ∙ sent_all d (length xs) W e r

  -- copy j of bit m
  pub matched-copy : (d : ℤ) (W e m j : ℕ) (xs : List A) (b : B) (z : A) → Rates d (length xs) W e → m < length xs
      → j < copies_of d (length xs) e m → get_or (matched f d (length xs) e xs) (sent_before d (length xs) e m + j) b ≡ f (get_or xs m z) j
  unfolding matched copies_of
  matched-copy d W e m j xs b z r h k =
      ap (λ (n : ℕ). get_or (walked f (negative d) (2 * length xs) (2 * nat_abs d) e xs) (n + j) b) (sym (sent_sum d (length xs) W e m r))
      ∙ walked_at f (negative d) (2 * length xs) (2 * nat_abs d) e xs m j b z h k

  -- the undoing: bit m gets f x 0, f x 1, .. of its own x, as many as were sent
  pub shared-matched : (d : ℤ) (e m : ℕ) (xs : List A) (z : A) → m < length xs
      → get_or (shared d (length xs) e (matched f d (length xs) e xs)) m [] ≡ table (f (get_or xs m z)) 0 (copies_of d (length xs) e m)
  unfolding matched shared copies_of
  shared-matched d e m xs z h = shared-walked f (negative d) (2 * length xs) (2 * nat_abs d) e xs m z h

  -- d = 0
  pub matched-same : (N e : ℕ) (xs : List A) → matched f (pos zero) N e xs ≡ map (λ x. f x 0) xs
  unfolding matched walked grown again table
  matched-same N e [] = refl
  matched-same N e (x ∷ xs) = ap (λ (l : List B). f x 0 ∷ l) (matched-same N (after false (2 * N) 0 e) xs)

-- what is sent, mapped; and the elements, mapped
pub matched-map : {A B C : Type 0} (f : A → ℕ → B) (h : B → C) (d : ℤ) (N e : ℕ) (xs : List A)
    → matched (λ x j. h (f x j)) d N e xs ≡ map h (matched f d N e xs)
unfolding matched
matched-map f h d N e xs = walked-map f h (negative d) (2 * N) (2 * nat_abs d) e xs

pub matched_of : {A B C : Type 0} (g : A → B) (f : B → ℕ → C) (d : ℤ) (N e : ℕ) (xs : List A)
    → matched f d N e (map g xs) ≡ matched (λ x j. f (g x) j) d N e xs
unfolding matched
matched_of g f d N e xs = walked_of g f (negative d) (2 * N) (2 * nat_abs d) e xs

module _ {A : Type 0} where
  pub length-shared : (d : ℤ) (N e : ℕ) (vs : List A) → length (shared d N e vs) ≡ N
  unfolding shared
  length-shared d N e vs = length-shared-from (negative d) (2 * N) (2 * nat_abs d) e N vs

  -- the values of bit m stand together, after those of the bits before it
  pub shared_at : (d : ℤ) (N W e m : ℕ) (vs : List A) → Rates d N W e → m < N
      → get_or (shared d N e vs) m [] ≡ take (copies_of d N e m) (drop (sent_before d N e m) vs)
  unfolding shared copies_of
  shared_at d N W e m vs r h =
      shared-from-at (negative d) (2 * N) (2 * nat_abs d) e N m vs h
      ∙ ap (λ (n : ℕ). take (copies_from (negative d) (2 * N) (2 * nat_abs d) e m) (drop n vs)) (sent_sum d N W e m r)
