-- Step 6 as the text walks it, with e a signed number. For each bit e falls by 2|d|. Puncturing: if then e <= 0 the bit is dropped and e grows
-- by 2N. Repetition: while e <= 0 the bit is sent once more, directly after, and e grows by 2N. Bit m has copy 0, then 1 and so on.
use Rattle.std.specs.Prelude.{Bool, true, cond, List, [], ◌∷◌, map, ℕ, zero, suc, ◌*◌, eqb, ℤ, pos, negsuc, ◌+ℤ◌, ◌-ℤ◌}

-- e <= 0
abbrev pub low : ℤ → Bool
low (pos n) = eqb n 0
low (negsuc n) = true

-- f says what is sent for copy j of x: the bit x itself, or x with its copy's number. a is |d|
module _ {A B : Type 0} (f : A → ℕ → B) (N a : ℕ) where
  unfoldable pub punctured_text : ℤ → List A → List B
  punctured_text e [] = []
  punctured_text e (x ∷ xs) =
      cond (low (e -ℤ pos (2 * a))) (punctured_text (e -ℤ pos (2 * a) +ℤ pos (2 * N)) xs) (f x 0 ∷ punctured_text (e -ℤ pos (2 * a)) xs)

  -- while e <= 0: copies j, j + 1, .. of x; then what follows, from e as it is then. The first number bounds the turns
  unfoldable pub while_low : ℕ → A → ℕ → ℤ → (ℤ → List B) → List B
  while_low zero x j e then = then e
  while_low (suc n) x j e then = cond (low e) (f x j ∷ while_low n x (suc j) (e +ℤ pos (2 * N)) then) (then e)

  -- 2|d| turns are enough: TextLaws has it
  unfoldable pub repeated_text : ℤ → List A → List B
  repeated_text e [] = []
  repeated_text e (x ∷ xs) = f x 0 ∷ while_low (2 * a) x 1 (e -ℤ pos (2 * a)) (λ e'. repeated_text e' xs)

-- of a segment of N bits, by d and the start e. Where d = 0 the segment passes unaltered
unfoldable pub matched_text : {A B : Type 0} → (A → ℕ → B) → ℤ → ℕ → ℕ → List A → List B
matched_text f (pos zero) N e xs = map (λ x. f x 0) xs
matched_text f (pos (suc a)) N e xs = repeated_text f N (suc a) (pos e) xs
matched_text f (negsuc a) N e xs = punctured_text f N (suc a) (pos e) xs
