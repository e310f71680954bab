-- Step 6 as the text walks it is step 6 over natural numbers.
use mathlib.Core.Path.{◌≡◌, refl, sym, ap, ◌∙◌}
use mathlib.Core.Bool.{true, false}
use mathlib.Core.List.{List, [], ◌∷◌, ◌++◌}
use Prim.Native.Nat.{ℕ, zero, suc, ◌+◌, ◌*◌, ◌-◌, ◌≤◌, ◌<◌}
use native.Mathlib.Nat.{zero-mul, suc-mul}
use native.Mathlib.Omega.{arith}
use borrow.Author.Tests.{lt-ltb, le-ltb, le-leb, lt-leb, eq-eqb, ne_eqb}
use lib.IntN.{ℤ, pos, negsuc, ◌+ℤ◌, ◌-ℤ◌}
use Rattle.laws.specs.Tables.{table}
use Rattle.laws.proofs.TestLaws.{split}
use Rattle.pattern.specs.Text.{low, punctured_text, while_low, repeated_text, matched_text}
use Rattle.pattern.specs.Pattern.{again, grown, walked, matched, Rates}
use Rattle.pattern.proofs.CountLaws.{again_bounds, again-closed}
use Rattle.pattern.proofs.WalkLaws.{walked_keep, walked-drop}
use Rattle.pattern.proofs.MatchedLaws.{differs, started, matched-same}

-- ---- e - D

fallen_low : (e D : ℕ) → e ≤ D → low (pos e -ℤ pos D) ≡ true
fallen_low e zero h = eq-eqb (e + 0) 0 (omega arith)
fallen_low e (suc D) h =
    split e D
    (λ le. rw (lt-ltb e (suc D) (omega arith)))
    (λ lt. rw (le-ltb e (suc D) (omega arith)) (eq-eqb (e - suc D) 0 (omega arith)))

fallen_high : (e D : ℕ) → D ≤ e → pos e -ℤ pos D ≡ pos (e - D)
fallen_high e zero h = ap pos (omega arith)
fallen_high e (suc D) h = rw (le-ltb e (suc D) h)

fallen_not : (e D : ℕ) → D < e → low (pos e -ℤ pos D) ≡ false
fallen_not e D h = ap low (fallen_high e D (omega arith)) ∙ ne_eqb (e - D) 0 (omega arith)

-- (e - D) + P = (e + P) - D
fallen_grown : (e D P : ℕ) → pos e -ℤ pos D +ℤ pos P ≡ pos (e + P) -ℤ pos D
fallen_grown e zero P = ap pos (omega arith)
fallen_grown e (suc D) P =
    split (suc e) (suc D)
    (λ le.
    rw (lt-ltb e (suc D) le)
    (split (suc P) (suc (suc D - suc e))
    (λ l. rw (lt-ltb P (suc (suc D - suc e)) l, lt-ltb (e + P) (suc D) (omega arith)) (ap negsuc (omega arith)))
    (λ g. rw (le-ltb P (suc (suc D - suc e)) (omega arith), le-ltb (e + P) (suc D) (omega arith)) (ap pos (omega arith)))))
    (λ gt. rw (le-ltb e (suc D) (omega arith), le-ltb (e + P) (suc D) (omega arith)) (ap pos (omega arith)))

module _ {A B : Type 0} (f : A → ℕ → B) (N a : ℕ) where
  -- ---- the while: as many copies as e takes turns, then what follows

  while_turns : (n : ℕ) (x : A) (j D e : ℕ) (then : ℤ → List B)
      → while_low f N a n x j (pos e -ℤ pos D) then
      ≡ table (f x) j (again n (2 * N) D e) ++ then (pos (e + again n (2 * N) D e * (2 * N)) -ℤ pos D)
  unfolding while_low again table
  while_turns zero x j D e then = let q : e ≡ e + 0 * (2 * N) = omega (arith, zero-mul (2 * N)) in ap (λ (k : ℕ). then (pos k -ℤ pos D)) q
  while_turns (suc n) x j D e then =
      split e D
      (λ le.
      let k = again n (2 * N) D (e + 2 * N) in
      let q : e + 2 * N + k * (2 * N) ≡ e + suc k * (2 * N) = omega (arith, suc-mul k (2 * N)) in
      rw (fallen_low e D le, le-leb e D le, fallen_grown e D (2 * N))
      (ap (λ (l : List B). f x j ∷ l)
      (while_turns n x (suc j) D (e + 2 * N) then ∙ ap (λ (i : ℕ). table (f x) (suc j) k ++ then (pos i -ℤ pos D)) q)))
      (λ lt.
      let q : e ≡ e + 0 * (2 * N) = omega (arith, zero-mul (2 * N)) in
      rw (fallen_not e D lt, lt-leb e D lt) (ap (λ (k : ℕ). then (pos k -ℤ pos D)) q))

  -- a greater bound on the turns changes nothing: 2|d| are enough
  pub turns_enough : (n : ℕ) (x : A) (j e : ℕ) (then : ℤ → List B) → 0 < N → 0 < e → e ≤ 2 * N → 2 * a ≤ n
      → while_low f N a n x j (pos e -ℤ pos (2 * a)) then ≡ while_low f N a (2 * a) x j (pos e -ℤ pos (2 * a)) then
  turns_enough n x j e then hn po to h =
      let q : again n (2 * N) (2 * a) e ≡ again (2 * a) (2 * N) (2 * a) e =
      again-closed n (2 * N) (2 * a) e (omega arith) (omega arith) (omega arith)
      ∙ sym (again-closed (2 * a) (2 * N) (2 * a) e (omega arith) (omega arith) (omega arith)) in
      while_turns n x j (2 * a) e then
      ∙ ap (λ (k : ℕ). table (f x) j k ++ then (pos (e + k * (2 * N)) -ℤ pos (2 * a))) q
      ∙ sym (while_turns (2 * a) x j (2 * a) e then)

  repeated_text_lem : (e : ℕ) (xs : List A) → 0 < N → 0 < e → e ≤ 2 * N
      → repeated_text f N a (pos e) xs ≡ walked f false (2 * N) (2 * a) e xs
  unfolding repeated_text walked grown table
  repeated_text_lem e [] h po to = refl
  repeated_text_lem e (x ∷ xs) h po to =
      let k = again (2 * a) (2 * N) (2 * a) e in
      let b = again_bounds (2 * a) (2 * N) (2 * a) e (omega arith) (omega arith) (omega arith) in
      ap (λ (l : List B). f x 0 ∷ l)
      (while_turns (2 * a) x 1 (2 * a) e (λ e'. repeated_text f N a e' xs)
      ∙ ap (λ (i : ℤ). table (f x) 1 k ++ repeated_text f N a i xs) (fallen_high (e + k * (2 * N)) (2 * a) (omega (arith, b.0)))
      ∙ ap (λ (l : List B). table (f x) 1 k ++ l) (repeated_text_lem (e + k * (2 * N) - 2 * a) xs h (omega (arith, b.0)) (omega (arith, b.1))))

  -- ---- puncturing

  text-drop : (e : ℕ) (x : A) (xs : List A) → e ≤ 2 * a
      → punctured_text f N a (pos e) (x ∷ xs) ≡ punctured_text f N a (pos e -ℤ pos (2 * a) +ℤ pos (2 * N)) xs
  unfolding punctured_text
  text-drop e x xs h = rw (fallen_low e (2 * a) h)

  text_keep : (e : ℕ) (x : A) (xs : List A) → 2 * a < e
      → punctured_text f N a (pos e) (x ∷ xs) ≡ f x 0 ∷ punctured_text f N a (pos e -ℤ pos (2 * a)) xs
  unfolding punctured_text
  text_keep e x xs h = rw (fallen_not e (2 * a) h)

  punctured-text : (e : ℕ) (xs : List A) → a ≤ N → 0 < e → e ≤ 2 * N
      → punctured_text f N a (pos e) xs ≡ walked f true (2 * N) (2 * a) e xs
  punctured-text e [] h po to = unfold walked punctured_text in refl
  punctured-text e (x ∷ xs) h po to =
      split e (2 * a)
      (λ le.
      text-drop e x xs le
      ∙ ap (λ (i : ℤ). punctured_text f N a i xs) (fallen_grown e (2 * a) (2 * N) ∙ fallen_high (e + 2 * N) (2 * a) (omega arith))
      ∙ punctured-text (e + 2 * N - 2 * a) xs h (omega arith) (omega arith)
      ∙ sym (walked-drop f (2 * N) (2 * a) e x xs le))
      (λ lt.
      text_keep e x xs lt
      ∙ ap (λ (i : ℤ). f x 0 ∷ punctured_text f N a i xs) (fallen_high e (2 * a) (omega arith))
      ∙ ap (λ (l : List B). f x 0 ∷ l) (punctured-text (e - 2 * a) xs h (omega arith) (omega arith))
      ∙ sym (walked_keep f (2 * N) (2 * a) e x xs true lt))

-- the text's step 6 is the one that the code and the laws use
pub matched-text : {A B : Type 0} (f : A → ℕ → B) (d : ℤ) (N W e : ℕ) (xs : List A) → Rates d N W e
    → matched_text f d N e xs ≡ matched f d N e xs
unfolding matched_text matched
matched-text f (pos zero) N W e xs r = sym (matched-same f N e xs)
matched-text f (pos (suc a)) N W e xs r =
    let s = started (pos (suc a)) N W e r (omega arith) in repeated_text_lem f N (suc a) e xs s.0 s.1 s.2
matched-text f (negsuc a) N W e xs r =
    let d : N ≡ W + suc a = differs (negsuc a) N W e r in
    let s = started (negsuc a) N W e r (omega arith) in
    punctured-text f N (suc a) e xs (omega arith) s.1 s.2
