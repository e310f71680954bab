-- Laws of lists one after the other. L i is where list i begins.
use mathlib.Core.Path.{◌≡◌, refl, sym, ap, ap₂, ◌∙◌, subst}
use mathlib.Core.List.{List, [], ◌∷◌, ◌++◌, map}
use Prim.Native.Nat.{ℕ, zero, suc, ◌+◌, ◌≤◌, ◌<◌}
use native.Mathlib.Omega.{arith}
use native.Mathlib.Decide.{ℕ_discrete}
use lib.Arith.{lt_of_le-ne}
use lib.ListN.{length, get_or, take, drop, length-append, length-drop, get_or-append}
use lib.Seq.{get_or-append-add, take-length, take-add, take-append-le, drop_at, drop-append-le}
use Rattle.laws.specs.Joined.{joined}

-- each list begins where the one before it ends
pub record Begins {A : Type 0} (g : ℕ → List A) (L : ℕ → ℕ) (n : ℕ) : Type 0 where
  pub first : L 0 ≡ 0
  pub next : (i : ℕ) → i < n → L (suc i) ≡ L i + length (g i)

pub fewer : {A : Type 0} (g : ℕ → List A) (L : ℕ → ℕ) (n : ℕ) → Begins g L (suc n) → Begins g L n
fewer g L n h = record { first = h.first; next = λ i l. h.next i (omega arith) }

module _ {A : Type 0} (g : ℕ → List A) (L : ℕ → ℕ) where
  pub length-joined : (n : ℕ) → Begins g L n → length (joined g n) ≡ L n
  unfolding joined
  length-joined zero h = sym h.first
  length-joined (suc n) h =
      length-append (joined g n) (g n)
      ∙ ap (λ (x : ℕ). x + length (g n)) (length-joined n (fewer g L n h))
      ∙ sym (h.next n (omega arith))

  -- a list ends before the next one begins
  pub ends_before : (n i : ℕ) → Begins g L n → i < n → L i + length (g i) ≤ L n
  ends_before zero i h l = absurd (omega arith)
  ends_before (suc n) i h l = side (ℕ_discrete i n) (ends_before n i (fewer g L n h))
    where
      side : Dec (i ≡ n) → (i < n → L i + length (g i) ≤ L n) → L i + length (g i) ≤ L (suc n)
      side (yes e) k = subst (λ (x : ℕ). L x + length (g x) ≤ L (suc n)) (sym e) (omega (arith, h.next n (omega arith)))
      side (no e) k = omega (arith, k (lt_of_le-ne (omega arith) e), h.next n (omega arith))

  -- what stands at v of list i
  pub joined_at : (n i v : ℕ) (d : A) → Begins g L n → i < n → v < length (g i) → get_or (joined g n) (L i + v) d ≡ get_or (g i) v d
  unfolding joined
  joined_at zero i v d h l m = absurd (omega arith)
  joined_at (suc n) i v d h l m = side (ℕ_discrete i n) (joined_at n i v d (fewer g L n h))
    where
      long : length (joined g n) ≡ L n
      long = length-joined n (fewer g L n h)

      side : Dec (i ≡ n) → (i < n → v < length (g i) → get_or (joined g n) (L i + v) d ≡ get_or (g i) v d)
          → get_or (joined g n ++ g n) (L i + v) d ≡ get_or (g i) v d
      side (yes e) k =
          ap (λ (x : ℕ). get_or (joined g n ++ g n) (x + v) d) (ap L e ∙ sym long)
          ∙ get_or-append-add (joined g n) (g n) v d
          ∙ ap (λ (x : ℕ). get_or (g x) v d) (sym e)
      side (no e) k =
          let l' : i < n = lt_of_le-ne (omega arith) e in
          get_or-append (joined g n) (g n) d (L i + v) (omega (arith, long, ends_before n i (fewer g L n h) l')) ∙ k l' m

  -- list i cut out again
  pub joined-part : (n i : ℕ) → Begins g L n → i < n → take (length (g i)) (drop (L i) (joined g n)) ≡ g i
  unfolding joined
  joined-part zero i h l = absurd (omega arith)
  joined-part (suc n) i h l = side (ℕ_discrete i n) (joined-part n i (fewer g L n h))
    where
      long : length (joined g n) ≡ L n
      long = length-joined n (fewer g L n h)

      side : Dec (i ≡ n) → (i < n → take (length (g i)) (drop (L i) (joined g n)) ≡ g i)
          → take (length (g i)) (drop (L i) (joined g n ++ g n)) ≡ g i
      side (yes e) k =
          ap (λ (x : ℕ). take (length (g x)) (drop (L x) (joined g n ++ g n))) e
          ∙ ap (take (length (g n))) (drop_at (joined g n) (g n) (L n) long)
          ∙ take-length (g n)
          ∙ ap g (sym e)
      side (no e) k =
          let l' : i < n = lt_of_le-ne (omega arith) e in
          let b = ends_before n i (fewer g L n h) l' in
          ap (take (length (g i))) (drop-append-le (L i) (joined g n) (g n) (omega (arith, long)))
          ∙ take-append-le (length (g i)) (drop (L i) (joined g n)) (g n) (omega (arith, long, length-drop (L i) (joined g n)))
          ∙ k l'

-- a map of all is all mapped
pub map-append : {A B : Type 0} (f : A → B) (xs ys : List A) → map f (xs ++ ys) ≡ map f xs ++ map f ys
map-append f [] ys = refl
map-append f (x ∷ xs) ys = ap (λ l. f x ∷ l) (map-append f xs ys)

pub map-joined : {A B : Type 0} (f : A → B) (g : ℕ → List A) (n : ℕ) → map f (joined g n) ≡ joined (λ i. map f (g i)) n
unfolding joined
map-joined f g zero = refl
map-joined f g (suc n) = map-append f (joined g n) (g n) ∙ ap (λ l. l ++ map f (g n)) (map-joined f g n)

-- joined lists that agree
pub joined_same : {A : Type 0} (g h : ℕ → List A) (n : ℕ) → ((i : ℕ) → i < n → g i ≡ h i) → joined g n ≡ joined h n
unfolding joined
joined_same g h zero e = refl
joined_same g h (suc n) e = ap₂ ◌++◌ (joined_same g h n (λ i l. e i (omega arith))) (e n (omega arith))

-- a list cut into parts, c i long from L i on, and joined again
pub cut_joined : {A : Type 0} (xs : List A) (c L : ℕ → ℕ) (n : ℕ) → L 0 ≡ 0 → ((i : ℕ) → i < n → L (suc i) ≡ L i + c i)
    → joined (λ i. take (c i) (drop (L i) xs)) n ≡ take (L n) xs
unfolding joined
cut_joined xs c L zero z e = ap (λ (k : ℕ). take k xs) (sym z)
cut_joined xs c L (suc n) z e =
    ap (λ (l : List _). l ++ take (c n) (drop (L n) xs)) (cut_joined xs c L n z (λ i l. e i (omega arith)))
    ∙ sym (take-add (L n) (c n) xs)
    ∙ ap (λ (k : ℕ). take k xs) (sym (e n (omega arith)))

-- one list alone
pub one-part : {A : Type 0} (g : ℕ → List A) {n : ℕ} → n ≡ 1 → g 0 ≡ joined g n
unfolding joined
one-part g e = ap (joined g) (sym e)
