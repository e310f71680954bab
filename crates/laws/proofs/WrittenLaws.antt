-- Laws of elements written one after the other.
use mathlib.Core.Path.{◌≡◌, refl, sym, ◌∙◌}
use mathlib.Core.List.{List}
use Prim.Native.Nat.{ℕ, ◌+◌, ◌-◌, ◌≤◌, ◌<◌}
use native.Mathlib.Omega.{arith}
use lib.ListN.{length, set, take, length-set}
use lib.Seq.{get_or-set_same, get_or-set_other, get_or-take, length-take-le, ext_get_or}
use Rattle.laws.specs.Written.{Written}
use Rattle.laws.proofs.TestLaws.{split}

pub write_none : {A : Type 0} (z : A) (f : ℕ → A) (list : List A) (k : ℕ) → Written z f list list k 0
write_none z f list k = record { long = refl; before = λ i h. refl; there = λ i h. absurd (omega arith) }

module _ {A : Type 0} {z : A} {f : ℕ → A} {old list : List A} {k n : ℕ} (w : Written z f old list k n) where
  -- the next place
  pub write_one : {x : A} → k + n < length old → x ≡ f n → Written z f old (set list (k + n) x) k (n + 1)
  write_one {x} h q =
      record {
        long = length-set list (k + n) x ∙ w.long;
        before = λ i l. get_or-set_other list (k + n) i x z (λ y. omega arith) ∙ w.before i l;
        there = λ i l.
            split n i
            (λ le.
            let y : i ≡ n = omega arith in
            rw y (get_or-set_same list (k + n) x z (omega (arith, w.long)) ∙ q))
            (λ lt. get_or-set_other list (k + n) (k + i) x z (λ y. omega arith) ∙ w.there i lt);
      }

  -- more, from there on
  pub write_on : {g : ℕ → A} {list' : List A} {m : ℕ} → Written z g list list' (k + n) m → ((i : ℕ) → g i ≡ f (n + i)) → Written z f old list' k (n + m)
  write_on v q =
      record {
        long = v.long ∙ w.long;
        before = λ i l. v.before i (omega arith) ∙ w.before i l;
        there = λ i l.
            split n i
            (λ le.
            let a : k + n + (i - n) ≡ k + i = omega arith in
            let b : n + (i - n) ≡ i = omega arith in
            rw (a, b) at (v.there (i - n) (omega arith) ∙ q (i - n)))
            (λ lt. v.before (k + i) (omega arith) ∙ w.there i lt);
      }

  -- fewer
  pub write_part : {m : ℕ} → m ≤ n → Written z f old list k m
  write_part h = record { long = w.long; before = w.before; there = λ i l. w.there i (omega arith) }

  pub write_before : k ≤ length old → take k list ≡ take k old
  write_before h =
      let a = length-take-le k list (omega (arith, w.long)) in
      let b = length-take-le k old h in
      ext_get_or z (take k list) (take k old) (a ∙ sym b)
      (λ i l. get_or-take k list i z (omega arith) ∙ w.before i (omega arith) ∙ sym (get_or-take k old i z (omega arith)))
