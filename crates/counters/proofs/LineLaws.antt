-- Laws of lines: what the number 0 says of them, lines after lines, and what is given where a call accepts or refuses.
use mathlib.Core.Path.{◌≡◌, refl, sym, ap, ◌∙◌}
use mathlib.Core.Bool.{Bool, true, false, ◌&&◌, cond}
use mathlib.Core.List.{List, [], ◌∷◌, ◌++◌}
use Prim.Native.Nat.{ℕ, suc, ◌<◌}
use native.Mathlib.Omega.{arith}
use borrow.Author.Tests.{eq-eqb, ne_eqb, ltb-true}
use lib.Dec.{eqb, ltb}
use Rattle.counters.specs.Lines.{Line, line, first_of, given}
use Rattle.counters.proofs.CountLaws.{both_true}

-- no line holds
pub data Clear : List Line → Type 0 where
  none : Clear []
  more : {l : Line} {ls : List Line} → l.holds ≡ false → Clear ls → Clear (l ∷ ls)

-- each line has a number above 0
pub data Numbered : List Line → Type 0 where
  none : Numbered []
  more : {l : Line} {ls : List Line} → 0 < l.number → Numbered ls → Numbered (l ∷ ls)

-- a line that holds gives its number; one that does not leaves it to the lines after it
pub here : (b : Bool) (n r : ℕ) → b ≡ true → n ≡ cond b n r
here b n r e = sym (ap (λ (x : Bool). cond x n r) e)

pub past : (b : Bool) (n r : ℕ) {x : ℕ} → b ≡ false → x ≡ r → x ≡ cond b n r
past b n r e h = h ∙ sym (ap (λ (x : Bool). cond x n r) e)

passed : (b : Bool) (n r : ℕ) → 0 < n → cond b n r ≡ 0 → (b ≡ false) × (r ≡ 0)
passed true n r p h = absurd (omega arith)
passed false n r p h = (refl, h)

pub pass_zero : (b : Bool) (n r : ℕ) → cond b (suc n) r ≡ 0 → (b ≡ false) × (r ≡ 0)
pass_zero b n r h = passed b (suc n) r (omega arith) h

pub clear_of : {ls : List Line} → Numbered ls → first_of ls ≡ 0 → Clear ls
clear_of none h = none
clear_of (more {l} {ls} p q) h = let a = passed l.holds l.number (first_of ls) p h in more a.0 (clear_of q a.1)

pub of_clear : {ls : List Line} → Clear ls → first_of ls ≡ 0
of_clear none = refl
of_clear (more {l} {ls} e c) = ap (λ (b : Bool). cond b l.number (first_of ls)) e ∙ of_clear c

-- lists that are written out: a test of each number is computed, and so are the line of a number and the lines from it on
abbrev pub each : (ℕ → Bool) → List Line → Bool
each test [] = true
each test (l ∷ ls) = test l.number && each test ls

pub numbered_of : (ls : List Line) → each (ltb 0) ls ≡ true → Numbered ls
numbered_of [] h = none
numbered_of (l ∷ ls) h =
    let a = both_true (ltb 0 l.number) (each (ltb 0) ls) h in
    more (ltb-true 0 l.number a.0) (numbered_of ls a.1)

abbrev pub holds_at : ℕ → List Line → Bool
holds_at n [] = false
holds_at n (l ∷ ls) = cond (eqb l.number n) l.holds (holds_at n ls)

pub clear_at : (n : ℕ) {ls : List Line} → Clear ls → holds_at n ls ≡ false
clear_at n none = refl
clear_at n (more {l} {ls} e c) = either (eqb l.number n) e (clear_at n c)
  where
    either : (b : Bool) {x y : Bool} → x ≡ false → y ≡ false → cond b x y ≡ false
    either true p q = p
    either false p q = q

abbrev pub lines_from : ℕ → List Line → List Line
lines_from n [] = []
lines_from n (l ∷ ls) = cond (eqb l.number n) (l ∷ ls) (lines_from n ls)

-- lines after lines: the first list's number where it has one, the second's where it is clear
pub append_clear : {xs : List Line} (ys : List Line) → Clear xs → first_of (xs ++ ys) ≡ first_of ys
append_clear ys none = refl
append_clear ys (more {l} {ls} e c) = ap (λ (b : Bool). cond b l.number (first_of (ls ++ ys))) e ∙ append_clear ys c

pub append-zero : {xs : List Line} (ys : List Line) → Numbered xs → first_of (xs ++ ys) ≡ 0 → Clear xs
append-zero ys none h = none
append-zero ys (more {l} {ls} p q) h =
    let a = passed l.holds l.number (first_of (ls ++ ys)) p h in
    more a.0 (append-zero ys q a.1)

-- one line after lines that are clear
pub last-holds : {xs : List Line} (b : Bool) (n : ℕ) → Numbered xs → first_of xs ≡ 0 → b ≡ true → n ≡ first_of (xs ++ line b n ∷ [])
last-holds b n m z e = here b n 0 e ∙ sym (append_clear (line b n ∷ []) (clear_of m z))

pub last_clear : {xs : List Line} (b : Bool) (n : ℕ) → Numbered xs → first_of xs ≡ 0 → b ≡ false → 0 ≡ first_of (xs ++ line b n ∷ [])
last_clear b n m z e = past b n 0 e refl ∙ sym (append_clear (line b n ∷ []) (clear_of m z))

pub last-zero : {xs : List Line} (b : Bool) (n : ℕ) → Numbered xs → first_of (xs ++ line b (suc n) ∷ []) ≡ 0 → (first_of xs ≡ 0) × (b ≡ false)
last-zero {xs} b n m z =
    let c = append-zero (line b (suc n) ∷ []) m z in
    (of_clear c, (pass_zero b n 0 (sym (append_clear (line b (suc n) ∷ []) c) ∙ z)).0)

cond_same : (b : Bool) (n x y : ℕ) → (cond b n x ≡ 0 → ⊥) → ((x ≡ 0 → ⊥) → x ≡ y) → cond b n x ≡ cond b n y
cond_same true n x y h k = refl
cond_same false n x y h k = k h

pub first-append : (xs ys : List Line) → (first_of xs ≡ 0 → ⊥) → first_of xs ≡ first_of (xs ++ ys)
first-append [] ys h = absurd (h refl)
first-append (l ∷ xs) ys h = cond_same l.holds l.number (first_of xs) (first_of (xs ++ ys)) h (first-append xs ys)

-- what is given
module _ {A : Type 0} where
  pub given_yes : (n : ℕ) (x y : A) → n ≡ 0 → given n x y ≡ x
  given_yes n x y h = ap (λ (b : Bool). cond b x y) (eq-eqb n 0 h)

  pub given_no : (n : ℕ) (x y : A) → (n ≡ 0 → ⊥) → given n x y ≡ y
  given_no n x y h = ap (λ (b : Bool). cond b x y) (ne_eqb n 0 h)

-- what is read off what is given, and two things given at once
module _ {X Y : Type 0} where
  cond_read : (f : X → Y) (x y : X) (b : Bool) → f (cond b x y) ≡ cond b (f x) (f y)
  cond_read f x y true = refl
  cond_read f x y false = refl

  pub given_read : (f : X → Y) (x y : X) (n : ℕ) → f (given n x y) ≡ given n (f x) (f y)
  given_read f x y n = cond_read f x y (eqb n 0)

  cond_pair : (a b : X) (c d : Y) (t : Bool) → ◌≡◌ {A = X × Y} (cond t a b, cond t c d) (cond t (a, c) (b, d))
  cond_pair a b c d true = refl
  cond_pair a b c d false = refl

  pub given_pair : (n : ℕ) (a b : X) (c d : Y) → ◌≡◌ {A = X × Y} (given n a b, given n c d) (given n (a, c) (b, d))
  given_pair n a b c d = cond_pair a b c d (eqb n 0)
