-- Step 6 over natural numbers, with P = 2N and D = 2|d|, and its undoing. The text lets e fall by D and then asks e <= 0; the same question,
-- asked before e falls, is e <= D. TextLaws has the two equal. `less` is true where bits are dropped, false where they are repeated.
use Rattle.std.specs.Prelude.{◌≡◌, Bool, true, false, cond, List, [], ◌∷◌, ◌++◌, ℕ, zero, suc, ◌+◌, ◌*◌, ◌-◌, ◌≤◌, ◌<◌, leb, ℤ, pos, negsuc, nat_abs, ◌-ℤ◌, take, drop}
use Rattle.laws.specs.Tables.{table}
use Rattle.sheet.specs.Counts.{most_encoded, most_bits}
use Rattle.matching.specs.Signed.{signed_by}

-- while e <= D, e grows by P: how often. The first number bounds the turns: D are always enough, and for d = 0 none is taken, whatever e is
unfoldable pub again : ℕ → ℕ → ℕ → ℕ → ℕ
again zero P D e = 0
again (suc n) P D e = cond (leb e D) (suc (again n P D (e + P))) 0

-- how often e grows at a bit
unfoldable pub grown : Bool → ℕ → ℕ → ℕ → ℕ
grown true P D e = cond (leb e D) 1 0
grown false P D e = again D P D e

-- how many copies of the bit are sent
abbrev pub copies_at : Bool → ℕ → ℕ → ℕ → ℕ
copies_at true P D e = 1 - grown true P D e
copies_at false P D e = suc (grown false P D e)

-- e as the next bit finds it
abbrev pub after : Bool → ℕ → ℕ → ℕ → ℕ
after less P D e = e + grown less P D e * P - D

-- the bits one after the other, each in its copies 0, 1, ..; f says what is sent for copy j of x
unfoldable pub walked : {A B : Type 0} → (A → ℕ → B) → Bool → ℕ → ℕ → ℕ → List A → List B
walked f less P D e [] = []
walked f less P D e (x ∷ xs) = table (f x) 0 (copies_at less P D e) ++ walked f less P D (after less P D e) xs

-- the copies of bit m, from 0, where e starts so
unfoldable pub copies_from : Bool → ℕ → ℕ → ℕ → ℕ → ℕ
copies_from less P D e zero = copies_at less P D e
copies_from less P D e (suc m) = copies_from less P D (after less P D e) m

-- values shared out: each of n bits takes its next copies, in order
unfoldable pub shared_from : {A : Type 0} → Bool → ℕ → ℕ → ℕ → ℕ → List A → List (List A)
shared_from less P D e zero vs = []
shared_from less P D e (suc n) vs =
    take (copies_at less P D e) vs ∷ shared_from less P D (after less P D e) n (drop (copies_at less P D e) vs)

-- d < 0
abbrev pub negative : ℤ → Bool
negative (pos n) = false
negative (negsuc n) = true

-- of a segment of N bits, by d and the start e: what is sent, how many copies of bit m, and the values sent shared out to the bits again
unfoldable pub matched : {A B : Type 0} → (A → ℕ → B) → ℤ → ℕ → ℕ → List A → List B
matched f d N e xs = walked f (negative d) (2 * N) (2 * nat_abs d) e xs

unfoldable pub copies_of : ℤ → ℕ → ℕ → ℕ → ℕ
copies_of d N e m = copies_from (negative d) (2 * N) (2 * nat_abs d) e m

unfoldable pub shared : {A : Type 0} → ℤ → ℕ → ℕ → List A → List (List A)
shared d N e vs = shared_from (negative d) (2 * N) (2 * nat_abs d) e N vs

-- a bit is sent as it is, whichever copy it is
abbrev pub as_is : {A : Type 0} → A → ℕ → A
as_is x j = x

-- e as each bit finds it: in 1 to P; and no more is dropped than there is
pub record Stands (less : Bool) (P D e : ℕ) : Type 0 where
  pub above : 0 < e
  pub top : e ≤ P
  pub most : less ≡ true → D ≤ P

-- N bits become W, the share: d = V - N; no bit becomes none; and where there is a bit and d is not 0, 0 < e <= 2N
pub record Rates (d : ℤ) (N W e : ℕ) : Type 0 where
  pub change : d ≡ pos W -ℤ pos N
  pub empty : N ≡ 0 → W ≡ 0
  pub start : 0 < N → 0 < nat_abs d → (0 < e) × (e ≤ 2 * N)

-- the same of sizes whose sums fit, with d by its sign and its magnitude m
pub record Segment (less : Bool) (m N W e : ℕ) : Type 0 where
  pub few : N ≤ most_encoded
  pub most : m ≤ most_bits
  pub rates : Rates (signed_by less m) N W e
