-- Laws of the first element that fails a test, as a loop looks for it.
use mathlib.Core.Path.{◌≡◌, refl, ap, ap₂, ◌∙◌}
use mathlib.Core.Bool.{Bool, true, false, cond, not, ◌&&◌}
use mathlib.Core.List.{List, [], ◌∷◌}
use Prim.Native.Nat.{ℕ, zero, suc, ◌+◌, ◌≤◌, ◌<◌}
use native.Mathlib.Numerals.{add-one, one-add}
use native.Mathlib.Omega.{arith}
use lib.Dec.{eqb, eqb-zero-suc, eqb-suc-suc, ltb}
use lib.ListN.{length, get_or, take, drop}
use lib.Seq.{drop-cons, drop-length}
use Rattle.std.specs.List.{position_or_len}
use Rattle.std.specs.Option.{MatchOption}
use Rattle.std.specs.declared.option.Option.{Option}
use Rattle.std.specs.declared.option.Option.TheVariants.{Some, None}
use Rattle.std.proofs.lemmas.Bool.{ltb-true, ltb-false}
use Rattle.laws.specs.FirstFail.{first_fail, NoneFails}

module _ {A : Type 0} (ok : A → Bool) where
  -- element i passes: look on behind it
  pub fail_on : (xs : List A) (i : ℕ) (d : A) → i < length xs → ok (get_or xs i d) ≡ true → first_fail ok xs ≡ i + first_fail ok (drop i xs)
      → first_fail ok xs ≡ i + 1 + first_fail ok (drop (i + 1) xs)
  unfolding first_fail
  fail_on xs i d l t h =
      let e = ap (first_fail ok) (drop-cons xs i d l) ∙ ap (λ (b : Bool). cond b (suc (first_fail ok (drop (suc i) xs))) 0) t in
      h ∙ omega (arith, e, ap (λ (k : ℕ). first_fail ok (drop k xs)) (add-one i))

  -- it fails: that is the one
  pub fail_here : (xs : List A) (i : ℕ) (d : A) → i < length xs → ok (get_or xs i d) ≡ false → first_fail ok xs ≡ i + first_fail ok (drop i xs)
      → i ≡ first_fail ok xs
  unfolding first_fail
  fail_here xs i d l t h =
      let e = ap (first_fail ok) (drop-cons xs i d l) ∙ ap (λ (b : Bool). cond b (suc (first_fail ok (drop (suc i) xs))) 0) t in
      omega (arith, h, e)

  -- none did
  pub fail_none : (xs : List A) (i : ℕ) → i ≡ length xs → first_fail ok xs ≡ i + first_fail ok (drop i xs) → i ≡ first_fail ok xs
  unfolding first_fail
  fail_none xs i l h = omega (arith, h, ap (λ (k : ℕ). first_fail ok (drop k xs)) l, ap (first_fail ok) (drop-length xs))

  -- the first that fails is one of them, or none
  pub fail_most : (xs : List A) → first_fail ok xs ≤ length xs
  unfolding first_fail
  fail_most [] = omega arith
  fail_most (x ∷ xs) = by (ok x) (fail_most xs)
    where
      by : (b : Bool) → first_fail ok xs ≤ length xs → cond b (suc (first_fail ok xs)) 0 ≤ length (x ∷ xs)
      by true l = omega arith
      by false l = omega arith

  -- what std's `position` answers by a test that an element fails
  position_fails : (test : A → Bool) → ((x : A) → not (test x) ≡ ok x) → (xs : List A) → position_or_len test xs ≡ first_fail ok xs
  unfolding first_fail
  position_fails test t [] = refl
  position_fails test t (x ∷ xs) =
      ap₂ (λ (b : Bool) (m : ℕ). cond b m 0) (t x) (one-add (position_or_len test xs) ∙ ap suc (position_fails test t xs))

  found : (p n : ℕ) (b : Bool) → p ≤ n → ltb p n ≡ b → MatchOption (cond b (Some p) None) (p ≡ n) (λ i. (i < n) × (i ≡ p))
  found p n true l e = (ltb-true p n e, refl)
  found p n false l e = let h : n ≤ p = ltb-false p n e in omega arith

  pub fail-found : (test : A → Bool) → ((x : A) → not (test x) ≡ ok x) → (xs : List A) {r : Option ℕ}
      → r ≡ cond (ltb (position_or_len test xs) (length xs)) (Some (position_or_len test xs)) None
      → MatchOption r (first_fail ok xs ≡ length xs) (λ i. (i < length xs) × (i ≡ first_fail ok xs))
  fail-found test t xs e =
      rw (e, position_fails test t xs) (found (first_fail ok xs) (length xs) (ltb (first_fail ok xs) (length xs)) (fail_most xs) refl)

  -- it fails, and none before it does
  fails_step : (d x : A) (xs : List A) (m : ℕ) (b : Bool) → ok x ≡ b → cond b (suc m) 0 < suc (length xs) → (m < length xs → ok (get_or xs m d) ≡ false)
      → ok (get_or (x ∷ xs) (cond b (suc m) 0) d) ≡ false
  fails_step d x xs m true e h k = k (omega arith)
  fails_step d x xs m false e h k = e

  pub fail_fails : (d : A) (xs : List A) → first_fail ok xs < length xs → ok (get_or xs (first_fail ok xs) d) ≡ false
  unfolding first_fail
  fail_fails d [] h = absurd (omega arith)
  fail_fails d (x ∷ xs) h = fails_step d x xs (first_fail ok xs) (ok x) refl h (fail_fails d xs)

  passes_step : (d x : A) (xs : List A) (m : ℕ) (b : Bool) → ok x ≡ b → (j : ℕ) → j < cond b (suc m) 0 → ((i : ℕ) → i < m → ok (get_or xs i d) ≡ true)
      → ok (get_or (x ∷ xs) j d) ≡ true
  passes_step d x xs m true e zero h k = e
  passes_step d x xs m true e (suc j) h k = k j (omega arith)
  passes_step d x xs m false e j h k = absurd (omega arith)

  pub fail_passes : (d : A) (xs : List A) (j : ℕ) → j < first_fail ok xs → ok (get_or xs j d) ≡ true
  unfolding first_fail
  fail_passes d [] j h = absurd (omega arith)
  fail_passes d (x ∷ xs) j h = passes_step d x xs (first_fail ok xs) (ok x) refl j h (fail_passes d xs)

  -- none fails: of a list that begins with x, and of a part of a list
  pub none_first : (x : A) (xs : List A) → NoneFails ok (x ∷ xs) → ok x ≡ true
  unfolding first_fail
  none_first x xs h = go (ok x) refl
    where
      go : (b : Bool) → ok x ≡ b → ok x ≡ true
      go true e = e
      go false e = absurd (omega (arith, rw e at h))

  pub none_rest : (x : A) (xs : List A) → NoneFails ok (x ∷ xs) → NoneFails ok xs
  unfolding first_fail
  none_rest x xs h = omega (arith, rw (none_first x xs h) at h)

  pub none-cons : (x : A) (xs : List A) → ok x ≡ true → NoneFails ok xs → NoneFails ok (x ∷ xs)
  unfolding first_fail
  none-cons x xs e h = rw e (ap suc h)

  pub none-take : (n : ℕ) (xs : List A) → NoneFails ok xs → NoneFails ok (take n xs)
  unfolding first_fail
  none-take zero xs h = refl
  none-take (suc n) [] h = refl
  none-take (suc n) (x ∷ xs) h = none-cons x (take n xs) (none_first x xs h) (none-take n xs (none_rest x xs h))

  pub none-drop : (n : ℕ) (xs : List A) → NoneFails ok xs → NoneFails ok (drop n xs)
  none-drop zero xs h = h
  none-drop (suc n) [] h = h
  none-drop (suc n) (x ∷ xs) h = none-drop n xs (none_rest x xs h)

  -- the same as a test, one element at a time
  pub none-turn : (xs : List A) (i : ℕ) (d : A) → i < length xs
      → eqb (first_fail ok (drop i xs)) (length (drop i xs)) ≡ ok (get_or xs i d) && eqb (first_fail ok (drop (i + 1) xs)) (length (drop (i + 1) xs))
  unfolding first_fail
  none-turn xs i d l = rw (add-one, drop-cons xs i d l) (go (ok (get_or xs i d)))
    where
      go : (b : Bool) → eqb (cond b (suc (first_fail ok (drop (suc i) xs))) 0) (suc (length (drop (suc i) xs)))
          ≡ b && eqb (first_fail ok (drop (suc i) xs)) (length (drop (suc i) xs))
      go true = eqb-suc-suc (first_fail ok (drop (suc i) xs)) (length (drop (suc i) xs))
      go false = eqb-zero-suc (length (drop (suc i) xs))

module _ {A : Type 0} (test : A → Bool) where
  -- a test that each element passes
  pub passes_at : (xs : List A) (i : ℕ) (d : A) → NoneFails test xs → i < length xs → test (get_or xs i d) ≡ true
  passes_at [] i d h l = absurd (omega arith)
  passes_at (x ∷ xs) zero d h l = none_first test x xs h
  passes_at (x ∷ xs) (suc i) d h l = passes_at xs i d (none_rest test x xs h) (omega arith)

  pub passes_all : (xs : List A) (d : A) → ((i : ℕ) → i < length xs → test (get_or xs i d) ≡ true) → NoneFails test xs
  unfolding first_fail
  passes_all [] d h = refl
  passes_all (x ∷ xs) d h = none-cons test x xs (h 0 (omega arith)) (passes_all xs d (λ i l. h (suc i) (omega arith)))
