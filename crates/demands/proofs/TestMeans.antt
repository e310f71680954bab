-- Each test of the table of numbers holds exactly when the table's line does.
use mathlib.Core.Path.{◌≡◌, sym, ap, ap₂, ◌∙◌}
use mathlib.Core.Logic.{◌↔◌, ◌≢◌, ◌⊎◌, inl, inr, ⊎_elim}
use mathlib.Core.Bool.{Bool, true, false, not, ◌&&◌, ◌||◌, true≢false}
use mathlib.Core.List.{List}
use Prim.Native.Nat.{ℕ, ◌-◌, ◌<◌}
use native.Mathlib.Omega.{arith}
use borrow.Author.Tests.{ltb-true, ltb-false, lt-ltb, le-ltb, eqb-true, eqb-false, eq-eqb, ne_eqb, not-true, not-false}
use lib.Dec.{eqb, ltb}
use lib.Ieee.{Float}
use lib.ListN.{length, get_or}
use Rattle.laws.specs.Sums.{any_to}
use Rattle.laws.specs.FirstFail.{first_fail}
use Rattle.laws.proofs.SumLaws.{any_hit, any_none, any_each, any_in}
use Rattle.laws.proofs.TestLaws.{or_sides, of_sides, and_left, and_right, is_false, split}
use Rattle.laws.proofs.FirstFailLaws.{fail_fails, fail_passes}
use Rattle.sheet.specs.Fields.{encoded_of, phchs_of, capacity_of, log_of}
use Rattle.sheet.specs.Sizes.{size_of}
use Rattle.sheet.specs.Numbers.{empty_place, slot_beyond, beyond_uplink, beyond_subframe, silent}
use Rattle.sheet.specs.declared.Sheet.{Sheet}
use Rattle.writing.specs.Numbers.{outside, channel_outside, slot_outside, field_outside}
use Rattle.frame.specs.Bit.{is_bit}
use Rattle.naming.specs.Name.{has_place}
use Rattle.naming.proofs.ExistLaws.{exists}
use Rattle.joining.specs.Range.{in_range}
use Rattle.looking.specs.Looking.{no_trch}
use Rattle.receiving.specs.Listening.{no_bit}
use Rattle.demands.specs.Table.{NotFrom, BadChannel, BadSlot, BadField, NoCapacity, BadUplink, BadSubframe, NoBits, MissingTrch, MissingPlace, MissingBit, BadByte, BadSoft, SomeOf}

pub below : (a b : ℕ) → (ltb a b ≡ true) ↔ (a < b)
below a b = (ltb-true a b, lt-ltb a b)

pub same : (a b : ℕ) → (eqb a b ≡ true) ↔ (a ≡ b)
same a b = (eqb-true a b, eq-eqb a b)

pub other : (a b : ℕ) → (not (eqb a b) ≡ true) ↔ (a ≢ b)
other a b = (λ e. eqb-false a b (not-true (eqb a b) e), λ h. ap not (ne_eqb a b h))

pub either : {a b : Bool} {P Q : Type 0} → (a ≡ true) ↔ P → (b ≡ true) ↔ Q → (a || b ≡ true) ↔ (P ⊎ Q)
either {a} {b} p q =
    (λ e. ⊎_elim (λ x. inl (p.0 x)) (λ y. inr (q.0 y)) (or_sides a b e), λ h. of_sides a b (⊎_elim (λ x. inl (p.1 x)) (λ y. inr (q.1 y)) h))

both : {a b : Bool} {P Q : Type 0} → (a ≡ true) ↔ P → (b ≡ true) ↔ Q → (a && b ≡ true) ↔ (P × Q)
both {a} {b} p q = (λ e. (p.0 (and_left a b e), q.0 (and_right a b e)), λ h. ap₂ ◌&&◌ (p.1 h.0) (q.1 h.1))

-- the second of two tests never holds
pub only : {a : Bool} {P : Type 0} → (a ≡ true) ↔ P → (a || false ≡ true) ↔ P
only {a = true} p = p
only {a = false} p = p

opposite : {b : Bool} {P : Type 0} → (b ≡ true) ↔ P → (not b ≡ true) ↔ (P → ⊥)
opposite {b = b} p = (λ e h. true≢false (sym (p.1 h) ∙ not-true b e), λ h. ap not (is_false b (λ e. h (p.0 e))))

-- one of f 0, .. f (n - 1) holds
some : (f : ℕ → Bool) (n : ℕ) {P : ℕ → Type 0} → ((i : ℕ) → (f i ≡ true) ↔ P i) → (any_to f n ≡ true) ↔ ((i : ℕ) × (i < n) × P i)
some f n p = (λ e. let a = any_in f n e in (a.0, a.1, (p a.0).0 a.2), λ h. any_hit f n h.0 h.1 ((p h.0).1 h.2))

-- 4, of fields
not_from : (least most x : ℕ) → (outside least most x ≡ true) ↔ NotFrom least most x
not_from least most x = either (below x least) (below most x)

channel_means : (sh : Sheet) (i : ℕ) → (channel_outside sh i ≡ true) ↔ BadChannel sh i
channel_means sh i = either (below _ _) (either (below _ _) (not_from _ _ _))

slot_means : (sh : Sheet) (t : ℕ) → (slot_outside sh t ≡ true) ↔ BadSlot sh t
slot_means sh t = either (not_from _ _ _) (some _ (phchs_of sh t) (λ p. below _ _))

pub field_means : (sh : Sheet) → (field_outside sh ≡ true) ↔ BadField sh
field_means sh =
    either (either (below _ _) (either (below _ _) (below _ _)))
    (either (not_from _ _ _)
    (either (below _ _) (either (some _ sh.channels (channel_means sh)) (some _ sh.slots (slot_means sh)))))

-- 5
pub empty_means : (sh : Sheet) → (empty_place sh ≡ true) ↔ NoCapacity sh
empty_means sh = some _ sh.slots (λ t. some _ (phchs_of sh t) (λ p. same (capacity_of sh t p) 0))

-- 13
pub uplink_means : (sh : Sheet) → (beyond_uplink sh ≡ true) ↔ BadUplink sh
uplink_means sh =
    both (other sh.uplink 0)
    (some (λ t. slot_beyond sh.logs t (phchs_of sh t)) sh.slots (λ t. either (below 2 (phchs_of sh t)) (some _ (phchs_of sh t) (λ p. below 4 (log_of sh t p)))))

-- 14
pub subframe_means : (sh : Sheet) → (beyond_subframe sh ≡ true) ↔ BadSubframe sh
subframe_means sh = both (other sh.lcr 0) (below 7 sh.slots)

-- 8
pub silent_means : (sh : Sheet) → (silent sh ≡ true) ↔ NoBits sh
silent_means sh =
    let f : ℕ → Bool = λ i. not (eqb (encoded_of sh i) 0) in (
      λ e i l. eqb-true (encoded_of sh i) 0 (not-false _ (any_each f sh.channels i (not-true (any_to f sh.channels) e) l)),
      λ h. ap not (any_none f sh.channels (λ i l. ap not (eq-eqb (encoded_of sh i) 0 (h i l)))),
    )

-- 10
pub trch_means : (sh : Sheet) (k : ℕ) → (no_trch sh k ≡ true) ↔ MissingTrch sh k
trch_means sh k = either (same k 0) (below sh.channels k)

pub bit_means : (sh : Sheet) (k b : ℕ) → (no_bit sh k b ≡ true) ↔ MissingBit sh k b
bit_means sh k b = either (trch_means sh k) (either (same b 0) (below (size_of sh (k - 1)) b))

pub place_means : (sh : Sheet) (subframe slot phch place : ℕ)
    → (not (has_place sh subframe slot phch place) ≡ true) ↔ MissingPlace sh subframe slot phch place
place_means sh subframe slot phch place = opposite (exists sh subframe slot phch place)

-- 12
pub bad_byte : (x : ℕ) → (is_bit x ≡ false) ↔ BadByte x
bad_byte x = (λ e. omega (arith, ltb-false x 2 e), λ h. le-ltb x 2 (omega arith))

pub bad_soft : (x : Float) → (in_range x ≡ false) ↔ BadSoft x
bad_soft x = (λ e. e, λ e. e)

module _ {A : Type 0} (ok : A → Bool) (d : A) (Bad : A → Type 0) (bad : (x : A) → (ok x ≡ false) ↔ Bad x) where
  pub bad_in : (xs : List A) → first_fail ok xs < length xs → Bad (get_or xs (first_fail ok xs) d)
  bad_in xs h = (bad (get_or xs (first_fail ok xs) d)).0 (fail_fails ok d xs h)

  pub good_till : (xs : List A) (j : ℕ) → j < first_fail ok xs → Bad (get_or xs j d) → ⊥
  good_till xs j h b = true≢false (sym (fail_passes ok d xs j h) ∙ (bad (get_or xs j d)).1 b)

  pub bad_means : (xs : List A) → (ltb (first_fail ok xs) (length xs) ≡ true) ↔ SomeOf Bad d xs
  bad_means xs = (
    λ e. let l = ltb-true (first_fail ok xs) (length xs) e in (first_fail ok xs, l, bad_in xs l),
    λ h. lt-ltb (first_fail ok xs) (length xs) (split (first_fail ok xs) h.0 (λ le. omega (arith, h.1)) (λ lt. absurd (good_till xs h.0 lt h.2))),
  )
