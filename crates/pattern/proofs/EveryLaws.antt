-- Laws of every step-th element: bit i stands at index j of the list that it is read from.
use mathlib.Core.Path.{◌≡◌, sym, ap, ◌∙◌}
use mathlib.Core.List.{List, ◌∷◌, ◌++◌}
use Prim.Native.Nat.{ℕ, ◌+◌, ◌*◌, ◌-◌, ◌≤◌, ◌<◌, min}
use native.Mathlib.Nat.{suc-mul, mul_comm, mul-le-mul_right, lt_of_mul-lt-mul_right}
use native.Mathlib.Numerals.{add-one}
use native.Mathlib.Omega.{arith}
use lib.ListN.{length, get_or, drop, replicate, length-drop, length-replicate, length-append, get_or-append, get_or-replicate, get_or-eq_default}
use lib.Seq.{drop-cons, get_or-drop, get_or-append_right, ext_get_or}
use Rattle.laws.proofs.TestLaws.{split}
use Rattle.laws.proofs.TableLaws.{table-length, table_get}
use Rattle.pattern.specs.Every.{every, Strided}

module _ {A : Type 0} (z : A) (from step n : ℕ) (xs : List A) where
  pub every-length : length (every z from step n xs) ≡ n
  unfolding every
  every-length = table-length _ 0 n

  every-at : (i : ℕ) → i < n → get_or (every z from step n xs) i z ≡ get_or xs (from + i * step) z
  unfolding every
  every-at i h = table_get (λ i. get_or xs (from + i * step) z) n i z h

  -- entry for entry it is that
  pub every_made : (ys : List A) → length ys ≡ n → ((k : ℕ) → k < n → get_or ys k z ≡ get_or xs (from + k * step) z) → ys ≡ every z from step n xs
  every_made ys h t = ext_get_or z ys _ (h ∙ sym every-length) (λ k l. t k (omega arith) ∙ sym (every-at k (omega arith)))

  module _ (i j : ℕ) (at : j ≡ from + i * step) where
    pub every-within : Strided step n (length xs) → j < length xs → i < n
    every-within s h = lt_of_mul-lt-mul_right step {m = i} {n = n} (omega (arith, at, s.fits, mul_comm step n))

    pub every-turn : j + step ≡ from + (i + 1) * step
    every-turn = omega (arith, at, ap (λ (x : ℕ). x * step) (add-one i), suc-mul i step)

    pub every-next : i < n → drop i (every z from step n xs) ≡ get_or xs j z ∷ drop (i + 1) (every z from step n xs)
    every-next h =
        let l : i < length (every z from step n xs) = omega (arith, every-length) in
        let q : get_or (every z from step n xs) i z ≡ get_or xs j z = every-at i h ∙ ap (λ (k : ℕ). get_or xs k z) (sym at) in
        rw (add-one, sym q) (drop-cons (every z from step n xs) i z l)

    -- past the end
    pub every_past : length xs ≤ j → drop i (every z from step n xs) ≡ replicate (n - i) z
    every_past h =
        let long : length (drop i (every z from step n xs)) ≡ n - i = length-drop i (every z from step n xs) ∙ ap (λ (k : ℕ). k - i) every-length in
        ext_get_or z _ _ (long ∙ sym (length-replicate (n - i) z))
        (λ k l.
        let b : k < n - i = omega (arith, long) in
        let c : length xs ≤ from + (i + k) * step = omega (arith, at, mul-le-mul_right {m = i} {n = i + k} step (omega arith)) in
        get_or-drop i (every z from step n xs) k z
        ∙ every-at (i + k) (omega arith)
        ∙ get_or-eq_default xs z c
        ∙ sym (get_or-replicate (n - i) k z z b))

-- side by side: the rest of the list, and z past its end
module _ {A : Type 0} (z : A) (from n : ℕ) (xs : List A) where
  abbrev rest : List A
  rest = drop (min from (length xs)) xs

  long : length rest ≡ length xs - min from (length xs)
  long = length-drop (min from (length xs)) xs

  beside-at : (m k : ℕ) → get_or (rest ++ replicate m z) k z ≡ get_or xs (from + k * 1) z
  beside-at m k =
      split (length rest) k
      (λ le.
      let same : get_or (replicate m z) (k - length rest) z ≡ z =
      split m (k - length rest) (λ h. get_or-eq_default (replicate m z) z (omega (arith, length-replicate m z))) (λ h. get_or-replicate m (k - length rest) z z h) in
      get_or-append_right rest (replicate m z) k z le ∙ same ∙ sym (get_or-eq_default xs z (omega (arith, long))))
      (λ lt.
      let at : min from (length xs) + k ≡ from + k * 1 = omega (arith, long) in
      get_or-append rest (replicate m z) z k lt ∙ get_or-drop (min from (length xs)) xs k z ∙ ap (λ (i : ℕ). get_or xs i z) at)

  pub every_beside : length rest ≤ n → rest ++ replicate (n - length rest) z ≡ every z from 1 n xs
  every_beside h =
      every_made z from 1 n xs _ (omega (arith, length-append rest (replicate (n - length rest) z), length-replicate (n - length rest) z))
      (λ k l. beside-at (n - length rest) k)
