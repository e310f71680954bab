-- Laws of counting from 1.
use mathlib.Core.Path.{◌≡◌, refl, sym, ap, ◌∙◌}
use mathlib.Core.Bool.{Bool, true, false, false≢true, ◌&&◌, ◌||◌, not}
use Prim.Native.Nat.{ℕ, ◌≤◌, ◌<◌}
use native.Mathlib.Omega.{arith}
use borrow.Author.Tests.{eq-eqb, ne_eqb, lt-ltb, le-ltb, ltb-true, ltb-false, le-leb, lt-leb, leb-true}
use lib.Dec.{eqb, ltb, leb}
use Rattle.counters.specs.Counting.{among}

pub both_true : (a b : Bool) → (a && b) ≡ true → (a ≡ true) × (b ≡ true)
both_true true b h = (refl, h)
both_true false b h = absurd (false≢true h)

module _ (k n : ℕ) where
  pub among_none : k ≡ 0 → false ≡ among k n
  among_none z = ap (λ (b : Bool). b && leb k n) (sym (le-ltb 0 k (omega arith)))

  pub among-some : (k ≡ 0 → ⊥) → leb k n ≡ among k n
  among-some z = ap (λ (b : Bool). b && leb k n) (sym (lt-ltb 0 k (omega arith)))

  pub among_true : among k n ≡ true → (0 < k) × (k ≤ n)
  among_true h = let t = both_true (ltb 0 k) (leb k n) h in (ltb-true 0 k t.0, leb-true k n t.1)

  pub true_among : 0 < k → k ≤ n → among k n ≡ true
  true_among h l = ap (λ (b : Bool). b && leb k n) (lt-ltb 0 k h) ∙ le-leb k n l

  -- not one of them: 0, or above n
  pub among_not : not (among k n) ≡ (eqb k 0 || ltb n k)
  among_not = zero (ltb 0 k) refl
    where
      past : (b : Bool) → ltb n k ≡ b → not (leb k n) ≡ b
      past true h = ap not (lt-leb k n (ltb-true n k h))
      past false h = ap not (le-leb k n (ltb-false n k h))

      zero : (b : Bool) → ltb 0 k ≡ b → not (ltb 0 k && leb k n) ≡ (eqb k 0 || ltb n k)
      zero true h =
          let p : 0 < k = ltb-true 0 k h in
          ap (λ (x : Bool). not (x && leb k n)) h ∙ past (ltb n k) refl ∙ ap (λ (x : Bool). x || ltb n k) (sym (ne_eqb k 0 (λ q. omega arith)))
      zero false h =
          let z : k ≤ 0 = ltb-false 0 k h in
          ap (λ (x : Bool). not (x && leb k n)) h ∙ ap (λ (x : Bool). x || ltb n k) (sym (eq-eqb k 0 (omega arith)))
