-- Laws of bits: one more bit, a bound, the end of the bytes.
use mathlib.Core.Path.{◌≡◌, refl, sym, ap, ap₂, ◌∙◌, subst}
use mathlib.Core.List.{List, ◌++◌}
use Prim.Native.Nat.{ℕ, zero, suc, ◌+◌, ◌-◌, ◌*◌, ◌/◌, ◌%◌, ◌^◌, ◌≤◌, ◌<◌}
use native.Mathlib.Nat.{mod-lt, pow-suc, mod-one, div-one, add-zero, add_assoc, mod-eq_of_lt, add-suc, mul_assoc, one-mul}
use native.Mathlib.Numerals.{add-one, one-add}
use native.Mathlib.Omega.{arith}
use native.Mathlib.Decide.{ℕ_discrete}
use lib.Dec.{lit<}
use lib.Seq.{ext_get_or, paste, length_paste_head, length-take-le, get_or-append-add, get_or-take, get_or-drop}
use Rattle.laws.proofs.TableLaws.{table_at, table-length, table_same}
use lib.Pow.{pow_mono, mod-pow-add, shr-shr, low}
use lib.Arith.{digits_div, digits_mod, lt_of_le-ne}
use lib.ListN.{length, get_or, drop, take, length-append, get_or-append}
use Rattle.bits.specs.Bits.{bit_at, val, digit, field, packed, Two}

pub bit-lt : (s : List ℕ) (i : ℕ) → bit_at s i < 2
unfolding bit_at
bit-lt s i = mod-lt _ (lit< tt)

pub val-more : (f : ℕ → ℕ) (at i : ℕ) → val f at i * 2 + f (at + i) ≡ val f at (i + 1)
unfolding val
val-more f at i = rw (add-one i)

pub val-lt : (f : ℕ → ℕ) (at n : ℕ) → ((j : ℕ) → f j < 2) → val f at n < 2 ^ n
unfolding val
val-lt f at zero h = lit< tt
val-lt f at (suc n) h = omega (arith, val-lt f at n h, h (at + n), pow-suc 2 n)

pub bits-lt : (s : List ℕ) (at n : ℕ) → val (bit_at s) at n < 2 ^ n
bits-lt s at n = val-lt (bit_at s) at n (bit-lt s)

-- the bits of v make v again
pub val_digits : (f : ℕ → ℕ) (at v m d : ℕ) → ((i : ℕ) → i < m → f (at + i) ≡ v / 2 ^ (m + d - 1 - i) % 2) → val f at m ≡ v / 2 ^ d % 2 ^ m
unfolding val
val_digits f at v zero d h = sym (mod-one _)
val_digits f at v (suc m) d h =
    let before : val f at m ≡ v / 2 ^ d / 2 % 2 ^ m =
    val_digits f at v m (d + 1) (λ i l. h i (omega arith) ∙ ap (λ (x : ℕ). v / 2 ^ x % 2) (omega arith))
    ∙ ap (λ (x : ℕ). x % 2 ^ m) (sym (shr-shr v d 1))
    in
    ap₂ (λ (x y : ℕ). x * 2 + y) before (h m (omega arith) ∙ ap (λ (x : ℕ). v / 2 ^ x % 2) (omega arith))
    ∙ sym (ap (λ (x : ℕ). v / 2 ^ d % 2 ^ x) (sym (add-one m)) ∙ mod-pow-add (v / 2 ^ d) m 1)

pub val-field : (f : ℕ → ℕ) (at n v : ℕ) → v < 2 ^ n → ((i : ℕ) → i < n → f (at + i) ≡ digit n v i) → val f at n ≡ v
val-field f at n v b h =
    val_digits f at v n 0 (λ i l. h i l ∙ ap (λ (x : ℕ). v / 2 ^ (x - 1 - i) % 2) (sym (add-zero n))) ∙ ap (λ (x : ℕ). x % 2 ^ n) (div-one v)
    ∙ mod-eq_of_lt b

-- a bit of a number made of bits
pub val_shift : (f : ℕ → ℕ) (at n d : ℕ) → ((j : ℕ) → f j < 2) → val f at (n + d) / 2 ^ d ≡ val f at n
unfolding val
val_shift f at n zero h = div-one _ ∙ ap (val f at) (add-zero n)
val_shift f at n (suc d) h =
    ap₂ (λ (x y : ℕ). val f at x / 2 ^ y) (add-suc n d) (sym (one-add d))
    ∙ sym (shr-shr (val f at (suc (n + d))) 1 d)
    ∙ ap (λ (x : ℕ). x / 2 ^ d) (digits_div (val f at (n + d)) (h (at + (n + d))))
    ∙ val_shift f at n d h

pub val-bit : (f : ℕ → ℕ) (at n d : ℕ) → ((j : ℕ) → f j < 2) → val f at (n + 1 + d) / 2 ^ d % 2 ≡ f (at + n)
unfolding val
val-bit f at n d h =
    ap (λ (x : ℕ). x % 2) (val_shift f at (n + 1) d h ∙ ap (val f at) (add-one n)) ∙ digits_mod (val f at n) (h (at + n))

-- bits after bits, and n bits out of many
pub val-append : (f : ℕ → ℕ) (at m n : ℕ) → val f at (m + n) ≡ val f at m * 2 ^ n + val f (at + m) n
unfolding val
val-append f at m zero = ap (val f at) (add-zero m) ∙ omega arith
val-append f at m (suc n) =
    let x = val f at m in
    ap (val f at) (add-suc m n)
    ∙ ap₂ (λ (a b : ℕ). a * 2 + f b) (val-append f at m n) (sym (add_assoc at m n))
    ∙ omega (arith, ap (λ (y : ℕ). x * y) (pow-suc 2 n), mul_assoc x (2 ^ n) 2)

pub val-part : (f : ℕ → ℕ) (at a n d : ℕ) → ((j : ℕ) → f j < 2) → val f at (a + n + d) / 2 ^ d % 2 ^ n ≡ val f (at + a) n
val-part f at a n d h =
    ap (λ (x : ℕ). x % 2 ^ n) (val_shift f at (a + n) d h ∙ val-append f at a n) ∙ low (val f at a) n (val-lt f (at + a) n h)

-- the bits of packed bytes are the bits
pub packed-bit : (f : ℕ → ℕ) (m i : ℕ) → ((j : ℕ) → f j < 2) → i < 8 * m → bit_at (packed f m) i ≡ f i
unfolding bit_at
packed-bit f m i h l =
    ap (λ (x : ℕ). x / 2 ^ (7 - i % 8) % 2) (table_at (λ k. val f (8 * k) 8) m (i / 8) (omega arith))
    ∙ ap (λ (x : ℕ). val f (8 * (i / 8)) x / 2 ^ (7 - i % 8) % 2) (omega arith)
    ∙ val-bit f (8 * (i / 8)) (i % 8) (7 - i % 8) h
    ∙ ap f (omega arith)

byte_bit : (s : List ℕ) (k i : ℕ) → i < 8 → bit_at s (8 * k + i) ≡ digit 8 (get_or s k 0) i
unfolding bit_at
byte_bit s k i l =
    ap₂ (λ (x y : ℕ). get_or s x 0 / 2 ^ y % 2) (omega arith) (omega arith)

pub byte_val : (s : List ℕ) (k : ℕ) → get_or s k 0 < 256 → val (bit_at s) (8 * k) 8 ≡ get_or s k 0
byte_val s k h = val-field (bit_at s) (8 * k) 8 (get_or s k 0) h (byte_bit s k)

-- two bytes are the bits of both
two-val : (s : List ℕ) (k x : ℕ) → Two s k x → x ≡ val (bit_at s) (8 * k) 16
two-val s k x h =
    let f = bit_at s in
    let b : val f (8 * k + 8) 8 ≡ get_or s (k + 1) 0 = ap (λ (i : ℕ). val f i 8) (omega arith) ∙ byte_val s (k + 1) h.low in
    omega (arith, h.made, byte_val s k h.high, val-append f (8 * k) 8 8)

-- and hold the field that begins in the first and ends in them
pub field_read : (s : List ℕ) (at n x : ℕ) → Two s (at / 8) x → at % 8 + n ≤ 16 → x / 2 ^ (16 - at % 8 - n) % 2 ^ n ≡ val (bit_at s) at n
field_read s at n x h l =
    let k = at / 8 in
    let d = 16 - at % 8 - n in
    let w : 16 ≡ at % 8 + n + d = omega arith in
    let g : 8 * k + at % 8 ≡ at = omega arith in
    ap (λ (v : ℕ). v / 2 ^ d % 2 ^ n) (two-val s k x h ∙ ap (val (bit_at s) (8 * k)) w)
    ∙ val-part (bit_at s) (8 * k) (at % 8) n d (bit-lt s)
    ∙ ap (λ (i : ℕ). val (bit_at s) i n) g

-- 1 << n
pub shifted : (n : ℕ) → n ≤ 16 → 1 * 2 ^ n % 18446744073709551616 ≡ 2 ^ n
shifted n h = ap (λ (y : ℕ). y % 18446744073709551616) (one-mul (2 ^ n)) ∙ mod-eq_of_lt (omega (arith, pow_mono h))

-- bytes packed again from their own bits
pub packed-again : (s : List ℕ) → ((i : ℕ) → get_or s i 0 < 256) → packed (bit_at s) (length s) ≡ s
packed-again s h =
    ext_get_or 0 _ _ (table-length _ 0 (length s))
    (λ k l.
    table_at (λ j. val (bit_at s) (8 * j) 8) (length s) k (subst (λ (x : ℕ). k < x) (table-length _ 0 (length s)) l)
    ∙ val-field (bit_at s) (8 * k) 8 (get_or s k 0) (h k) (byte_bit s k))

-- what was pasted is read back
pub paste_inside : (d : List ℕ) (at : ℕ) (s : List ℕ) (n i : ℕ) → at ≤ length d → n ≤ length s → i < n → get_or (paste d at s n) (at + i) 0 ≡ get_or s i 0
paste_inside d at s n i hd hs l =
    get_or-append (take at d ++ take n s) (drop (at + n) d) 0 (at + i) (omega (arith, length_paste_head d at s n hd hs))
    ∙ ap (λ (x : ℕ). get_or (take at d ++ take n s) (x + i) 0) (sym (length-take-le at d hd))
    ∙ get_or-append-add (take at d) (take n s) i 0
    ∙ get_or-take n s i 0 l

-- the length of a field, and of bits with a field after them
pub field-length : (w v : ℕ) → length (field w v) ≡ w
field-length w v = table-length (digit w v) 0 w

pub field-after : (l : List ℕ) (w v : ℕ) → length (l ++ field w v) ≡ length l + w
field-after l w v = length-append l (field w v) ∙ ap (λ (x : ℕ). length l + x) (field-length w v)

-- a digit of the number that bits make is the bit
pub digit-val : (f : ℕ → ℕ) (at w i : ℕ) → ((j : ℕ) → f j < 2) → i < w → digit w (val f at w) i ≡ f (at + i)
digit-val f at w i two l =
    let k : w ≡ i + 1 + (w - 1 - i) = omega arith in
    ap (λ (x : ℕ). val f at x / 2 ^ (w - 1 - i) % 2) k ∙ val-bit f at i (w - 1 - i) two

-- equal bits make equal numbers and equal bytes
pub val_same : (f g : ℕ → ℕ) (at n : ℕ) → ((i : ℕ) → i < at + n → f i ≡ g i) → val f at n ≡ val g at n
unfolding val
val_same f g at zero h = refl
val_same f g at (suc n) h = ap₂ (λ (x y : ℕ). x * 2 + y) (val_same f g at n (λ i l. h i (omega arith))) (h (at + n) (omega arith))

pub packed-same : (f g : ℕ → ℕ) (m : ℕ) → ((i : ℕ) → i < 8 * m → f i ≡ g i) → packed f m ≡ packed g m
packed-same f g m h =
    table_same (λ k. val f (8 * k) 8) (λ k. val g (8 * k) 8) m (λ k l. val_same f g (8 * k) 8 (λ i b. h i (omega arith)))

-- bits that are 0 make 0, and bits that make 0 are 0
pub val-zero : (f : ℕ → ℕ) (at n : ℕ) → ((i : ℕ) → i < n → f (at + i) ≡ 0) → val f at n ≡ 0
unfolding val
val-zero f at zero h = refl
val-zero f at (suc n) h = omega (arith, val-zero f at n (λ i l. h i (omega arith)), h n (omega arith))

pub val-none : (f : ℕ → ℕ) (at n i : ℕ) → val f at n ≡ 0 → i < n → f (at + i) ≡ 0
unfolding val
val-none f at zero i h l = absurd (omega arith)
val-none f at (suc n) i h l = last (ℕ_discrete i n) (λ b. val-none f at n i (omega arith) b)
  where
    last : Dec (i ≡ n) → (i < n → f (at + i) ≡ 0) → f (at + i) ≡ 0
    last (yes e) k = let z : f (at + n) ≡ 0 = omega arith in ap (λ (x : ℕ). f (at + x)) e ∙ z
    last (no e) k = k (lt_of_le-ne (omega arith) e)

-- before and after what was pasted
pub paste_before : (d : List ℕ) (at : ℕ) (s : List ℕ) (n i : ℕ) → at ≤ length d → n ≤ length s → i < at → get_or (paste d at s n) i 0 ≡ get_or d i 0
paste_before d at s n i hd hs l =
    get_or-append (take at d ++ take n s) (drop (at + n) d) 0 i (omega (arith, length_paste_head d at s n hd hs))
    ∙ get_or-append (take at d) (take n s) 0 i (omega (arith, length-take-le at d hd))
    ∙ get_or-take at d i 0 l

pub paste_after : (d : List ℕ) (at : ℕ) (s : List ℕ) (n k : ℕ) → at ≤ length d → n ≤ length s
    → get_or (paste d at s n) (at + n + k) 0 ≡ get_or d (at + n + k) 0
paste_after d at s n k hd hs =
    ap (λ (x : ℕ). get_or (paste d at s n) (x + k) 0) (sym (length_paste_head d at s n hd hs))
    ∙ get_or-append-add (take at d ++ take n s) (drop (at + n) d) k 0
    ∙ get_or-drop (at + n) d k 0
