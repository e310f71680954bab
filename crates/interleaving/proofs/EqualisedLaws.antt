-- Laws of step 1: N, and the equalised list's length and elements.
use mathlib.Core.Path.{◌≡◌, refl, sym, ap, ◌∙◌}
use mathlib.Core.List.{List, ◌++◌, map, map-append}
use Prim.Native.Nat.{ℕ, zero, suc, ◌+◌, ◌*◌, ◌-◌, ◌/◌, ◌≤◌, ◌<◌}
use native.Mathlib.Nat.{mul-zero, mul-suc, mul_comm, div-add-mod', mod-lt}
use native.Mathlib.Numerals.{add-one}
use native.Mathlib.Omega.{arith}
use lib.ListN.{length, get_or, replicate, length-append, length-replicate, get_or-replicate, length-map, get_or-append, get_or-eq_default}
use lib.Seq.{get_or-append-add}
use Rattle.laws.proofs.PartLaws.{replicate-map}
use Rattle.laws.proofs.TestLaws.{split}
use Rattle.sheet.specs.Sizes.{frames_in, segment_in}
use Rattle.sheet.proofs.SizeLaws.{size-some}
use Rattle.interleaving.specs.First.{equalised}

-- F x N holds E bits, with fewer than F fillers
pub segments_hold : (e f : ℕ) → 0 < f → (e ≤ f * segment_in e f) × (f * segment_in e f < e + f)
segments_hold zero f pos = omega (arith, mul-zero f)
segments_hold (suc e) f pos =
    let p : suc e - 1 ≡ e = omega arith in
    let k : segment_in (suc e) f ≡ suc (e / f) =
    sym (size-some (suc e) f {x = suc e} {g = f} refl refl (λ q. omega arith)) ∙ ap (λ (x : ℕ). x / f + 1) p ∙ add-one (e / f) in
    let s : f * segment_in (suc e) f ≡ e / f * f + f = ap (λ (x : ℕ). f * x) k ∙ mul-suc f (e / f) ∙ ap (λ (x : ℕ). x + f) (mul_comm f (e / f)) in
    omega (arith, s, div-add-mod' e f, mod-lt e pos)

module _ {A : Type 0} (filler : A) (tti n : ℕ) (xs : List A) where
  pub equalised-length : length xs ≤ frames_in tti * n → length (equalised filler tti n xs) ≡ frames_in tti * n
  unfolding equalised
  equalised-length h = rw (length-append, length-replicate) (omega arith)

  pub equalised-bit : (k : ℕ) (z : A) → k < length xs → get_or (equalised filler tti n xs) k z ≡ get_or xs k z
  unfolding equalised
  equalised-bit k z h = get_or-append xs _ z k h

  pub equalised_filler : (k : ℕ) (z : A) → length xs ≤ k → k < frames_in tti * n → get_or (equalised filler tti n xs) k z ≡ filler
  unfolding equalised
  equalised_filler k z h l =
      let q : k ≡ length xs + (k - length xs) = omega arith in
      let m = frames_in tti * n - length xs in
      ap (λ (j : ℕ). get_or (xs ++ replicate m filler) j z) q
      ∙ get_or-append-add xs (replicate m filler) (k - length xs) z
      ∙ get_or-replicate m (k - length xs) filler z (omega arith)

filler_at : {A : Type 0} (filler : A) (n k : ℕ) → get_or (replicate n filler) k filler ≡ filler
filler_at filler zero k = refl
filler_at filler (suc n) zero = refl
filler_at filler (suc n) (suc k) = filler_at filler n k

-- read with the filler past the end, the fillers make no difference
pub equalised-at : {A : Type 0} (filler : A) (tti n : ℕ) (xs : List A) (k : ℕ) → get_or (equalised filler tti n xs) k filler ≡ get_or xs k filler
unfolding equalised
equalised-at filler tti n xs k =
    split (length xs) k
    (λ le.
    let q : k ≡ length xs + (k - length xs) = omega arith in
    let m = frames_in tti * n - length xs in
    ap (λ (j : ℕ). get_or (xs ++ replicate m filler) j filler) q
    ∙ get_or-append-add xs (replicate m filler) (k - length xs) filler
    ∙ filler_at filler m (k - length xs)
    ∙ sym (get_or-eq_default xs filler le))
    (λ lt. get_or-append xs _ filler k lt)

pub equalised-map : {A B : Type 0} (g : A → B) (filler : A) (tti n : ℕ) (xs : List A)
    → equalised (g filler) tti n (map g xs) ≡ map g (equalised filler tti n xs)
unfolding equalised
equalised-map g filler tti n xs = rw (map-append, length-map, replicate-map g (frames_in tti * n - length xs) filler)
