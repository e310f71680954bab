-- Laws of a list that is filled in turns.
use mathlib.Core.Path.{◌≡◌, refl, ◌∙◌}
use mathlib.Core.List.{List}
use Prim.Native.Nat.{ℕ, ◌+◌, ◌<◌}
use native.Mathlib.Omega.{arith}
use native.Mathlib.Decide.{ℕ_discrete}
use lib.Arith.{lt_of_le-ne}
use lib.ListN.{length, get_or, set, length-set}
use lib.Seq.{get_or-set_same, get_or-set_other}
use Rattle.laws.specs.Tables.{table}
use Rattle.laws.specs.Filling.{Filling}
use Rattle.laws.proofs.TableLaws.{tabled}

module _ {A : Type 0} {z : A} {g : ℕ → A} {turn : ℕ → ℕ} {n : ℕ} where
  pub filling_starts : (l : List A) → length l ≡ n → Filling z g turn n l 0
  filling_starts l e = record { long = e; each = λ i b h. absurd (omega arith) }

  module _ {l : List A} {k : ℕ} (f : Filling z g turn n l k) where
    -- the element whose turn it is
    pub filling_put : (i : ℕ) (x : A) → i < n → ((j : ℕ) → j < n → turn j ≡ k → j ≡ i) → x ≡ g i → turn i ≡ k
        → Filling z g turn n (set l i x) (k + 1)
    filling_put i x b once e at =
        record {
          long = length-set l i x ∙ f.long;
          each = λ j c h. side j c h (ℕ_discrete j i);
        }
      where
        side : (j : ℕ) → j < n → turn j < k + 1 → Dec (j ≡ i) → get_or (set l i x) j z ≡ g j
        side j c h (yes q) = rw q (get_or-set_same l i x z (omega (arith, f.long)) ∙ e)
        side j c h (no q) =
            get_or-set_other l i j x z q
            ∙ f.each j c (lt_of_le-ne {i = turn j} {k = k} (omega arith) (λ r. q (once j c r)))

    -- turns that no element has
    pub filling_skip : (k' : ℕ) → ((i : ℕ) → i < n → turn i < k' → turn i < k) → Filling z g turn n l k'
    filling_skip k' none = record { long = f.long; each = λ i b h. f.each i b (none i b h) }

    pub filling_ends : ((i : ℕ) → i < n → turn i < k) → l ≡ table g 0 n
    filling_ends all = tabled g l n z f.long (λ i b. f.each i b (all i b))

-- a list that is filled from its front
pub filling_next : {A : Type 0} {z : A} {g : ℕ → A} {n : ℕ} {l : List A} {k : ℕ} → Filling z g (λ i. i) n l k → (x : A) → k < n → x ≡ g k
    → Filling z g (λ i. i) n (set l k x) (k + 1)
filling_next {k = k} f x b e = filling_put f k x b (λ j c q. q) e refl
