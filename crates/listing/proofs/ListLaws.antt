-- Text that is put behind text, and the digits of a number.
use mathlib.Core.Path.{◌≡◌, refl, sym, ap, ap₂, ◌∙◌, subst}
use mathlib.Core.Bool.{Bool, cond}
use mathlib.Core.List.{List, [], ◌++◌}
use Prim.Native.Nat.{ℕ, zero, suc, ◌+◌, ◌-◌, ◌^◌, ◌≤◌, ◌<◌}
use native.Mathlib.Nat.{sub-zero, pow-le-pow_right, le_trans}
use native.Mathlib.Numerals.{add-one}
use native.Mathlib.Omega.{arith}
use native.Mathlib.Decide.{dec_lt}
use borrow.Author.Tests.{lt-ltb, le-ltb}
use lib.Dec.{ltb, lit<}
use lib.ListN.{length, drop, replicate, length-append}
use lib.Seq.{paste, take-append_seam, take-length, drop-append-add}
use borrow.Rule.Slice.PartMut.{put_mid}
use Rattle.std.proofs.lemmas.List.{drop-replicate}
use Rattle.std.proofs.lemmas.Slice.{put_mid-paste}
use Rattle.io.specs.Digits.{last_digits, IsDigitCount}
use Rattle.counters.proofs.LineLaws.{given_yes, given_no}
use Rattle.sheet.specs.Fields.{sheet_of}
use Rattle.sheet.specs.Numbers.{read_number}
use Rattle.sheet.specs.declared.Sheet.{Sheet}
use Rattle.listing.specs.Listing.{room, least_from, decimal_of, lines_to, with_line, refusal, listing_of, text_of, Pushed}
use Rattle.listing.specs.declared.Text.{Text}

-- the texts, over any length, since a room of zeros would be computed
none_zeros : (n : ℕ) → ◌≡◌ {A = Text} (record { bytes = replicate n 0; len = 0 }) (record { bytes = replicate (n - 0) 0; len = 0 })
none_zeros n = rw sub-zero refl

pub text-none : ◌≡◌ {A = Text} (record { bytes = replicate room 0; len = 0 }) (text_of [])
unfolding text_of
text-none = none_zeros room

pushed_zeros : (n : ℕ) (l t : List ℕ) → paste (l ++ replicate (n - length l) 0) (length l) t (length t) ≡ (l ++ t) ++ replicate (n - length (l ++ t)) 0
pushed_zeros n l t =
    let z : List ℕ = replicate (n - length l) 0 in
    ap₂ (λ (x y : List ℕ). (x ++ y) ++ drop (length l + length t) (l ++ z)) (take-append_seam l z) (take-length t)
    ∙ ap (λ (x : List ℕ). (l ++ t) ++ x)
    (drop-append-add l z (length t)
    ∙ drop-replicate (length t) (n - length l) 0
    ∙ ap (λ (x : ℕ). replicate x 0) (omega (arith, length-append l t)))

-- a text put behind a text
text-pushed : (o : Text) (l t : List ℕ) → o ≡ text_of l
    → ◌≡◌ {A = Text} (record { bytes = paste o.bytes o.len t (length t); len = o.len + length t }) (text_of (l ++ t))
unfolding text_of
text-pushed o l t e =
    rw e
    (ap₂ (λ (x : List ℕ) (y : ℕ). record { bytes = x; len = y }) (pushed_zeros room l t) (sym (length-append l t)))

pub pushed : (o : Text) (t : List ℕ) {y : List ℕ} → y ≡ t
    → Pushed o (record { bytes = put_mid o.len (o.len + length t - o.len) o.bytes y; len = o.len + length t }) t
pushed o t q =
    let k : length t ≡ o.len + length t - o.len = omega arith in
    record {
      text = λ l e. rw (put_mid-paste o.len (o.len + length t - o.len) o.bytes _ t (length t) q k refl) (text-pushed o l t e);
      len = refl;
    }

-- the fewest digits are the first that suffice
module _ (n k : ℕ) (top : n < 10 ^ k) (low : 1 < k → 10 ^ (k - 1) ≤ n) where
  below : (j : ℕ) → j < k → 1 ≤ j → 10 ^ j ≤ n
  below j b a =
      let m : j ≤ k - 1 = omega arith in
      let z : 1 < k = omega arith in
      le_trans (pow-le-pow_right {n = 10} (lit< tt) m) (low z)

  least_step : (g j : ℕ) → 1 ≤ j → j ≤ k → Dec (j < k) → (j < k → least_from g (j + 1) n ≡ k)
      → cond (ltb n (10 ^ j)) j (least_from g (j + 1) n) ≡ k
  least_step g j a b (yes l) next = ap (λ (x : Bool). cond x j (least_from g (j + 1) n)) (le-ltb n (10 ^ j) (below j l a)) ∙ next l
  least_step g j a b (no l) next =
      let e : k ≡ j = omega arith in
      ap (λ (x : Bool). cond x j (least_from g (j + 1) n)) (lt-ltb n (10 ^ j) (subst (λ (x : ℕ). n < 10 ^ x) e top)) ∙ sym e

  least-is : (g j : ℕ) → 1 ≤ j → j ≤ k → k ≤ j + g → least_from g j n ≡ k
  unfolding least_from
  least-is zero j a b c = omega arith
  least-is (suc g) j a b c = least_step g j a b (dec_lt j k) (λ l. least-is g (j + 1) (omega arith) (omega arith) (omega arith))

pub decimal_is : (n k : ℕ) → IsDigitCount 10 1 n k → k ≤ 20 → last_digits 10 k n ≡ decimal_of n
unfolding decimal_of
decimal_is n k f b = ap (λ (x : ℕ). last_digits 10 x n) (sym (least-is n k f.1 f.2 20 1 (omega arith) f.0 (omega arith)))

-- a u64 has at most 20 digits
pub few_digits : (n k : ℕ) → IsDigitCount 10 1 n k → n < 18446744073709551616 → k ≤ 20
few_digits n k f b = side (dec_lt 20 k)
  where
    side : Dec (20 < k) → k ≤ 20
    side (no l) = omega arith
    side (yes l) =
        let z : 1 < k = omega arith in
        let m : 20 ≤ k - 1 = omega arith in
        let p : 100000000000000000000 ≤ 10 ^ (k - 1) = pow-le-pow_right {n = 10} (lit< tt) m in
        let q : 10 ^ (k - 1) ≤ n = f.2 z in
        absurd (omega arith)

-- the lines of a sheet
pub lines_more : (sh : Sheet) (i : ℕ) → with_line sh i (lines_to sh i) ≡ lines_to sh (i + 1)
unfolding lines_to
lines_more sh i = rw (add-one i)

-- the listing of an accepted sheet and of a refused one
module _ (s : List ℕ) where
  pub listing_yes : read_number s ≡ 0 → lines_to (sheet_of s) (sheet_of s).channels ≡ listing_of s
  unfolding listing_of
  listing_yes z = sym (given_yes (read_number s) (lines_to (sheet_of s) (sheet_of s).channels) (refusal (read_number s)) z)

  pub listing_no : (read_number s ≡ 0 → ⊥) → refusal (read_number s) ≡ listing_of s
  unfolding listing_of
  listing_no z = sym (given_no (read_number s) (lines_to (sheet_of s) (sheet_of s).channels) (refusal (read_number s)) z)
