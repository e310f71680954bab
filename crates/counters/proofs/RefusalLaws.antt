-- Laws of refusals: an answer is told apart by its number, the index that it points at, and what was asked for.
use mathlib.Core.Path.{◌≡◌, refl, sym, ap, ap₂, ◌∙◌}
use mathlib.Core.Bool.{cond}
use Prim.Native.Nat.{ℕ, ◌<◌}
use native.Mathlib.Omega.{arith}
use lib.Dec.{eqb}
use Rattle.std.specs.Prelude.{Result, Ok, Err}
use Rattle.counters.specs.Lines.{Answer}
use Rattle.counters.specs.Refusals.{refusal_number, refusal_at, answer_number, answer_index, at_of, value_or, answer_in}
use Rattle.counters.specs.declared.refusal.Refusal.{Refusal}
use Rattle.counters.specs.declared.refusal.Refusal.TheVariants.{ShortSheet, OtherVersion, NoSlots, Malformed, NoCapacity, ManyBits, ManyPlaces, NoBits, LateFrame, Missing, WrongLength, BadValue, BadUplink, BadSubframe}

-- the refusal of a number, at an index
refusal_of : ℕ → ℕ → Refusal
refusal_of n at =
    cond (eqb n 1) ShortSheet
    (cond (eqb n 2) OtherVersion
    (cond (eqb n 3) NoSlots
    (cond (eqb n 4) Malformed
    (cond (eqb n 5) NoCapacity
    (cond (eqb n 6) ManyBits
    (cond (eqb n 7) ManyPlaces
    (cond (eqb n 8) NoBits
    (cond (eqb n 9) LateFrame
    (cond (eqb n 10) Missing
    (cond (eqb n 11) WrongLength (cond (eqb n 12) (BadValue at) (cond (eqb n 13) BadUplink BadSubframe))))))))))))

refusal_back : (r : Refusal) → refusal_of (refusal_number r) (refusal_at r) ≡ r
unfolding refusal_of
refusal_back ShortSheet = refl
refusal_back OtherVersion = refl
refusal_back NoSlots = refl
refusal_back Malformed = refl
refusal_back NoCapacity = refl
refusal_back ManyBits = refl
refusal_back ManyPlaces = refl
refusal_back NoBits = refl
refusal_back LateFrame = refl
refusal_back Missing = refl
refusal_back WrongLength = refl
refusal_back (BadValue at) = refl
refusal_back BadUplink = refl
refusal_back BadSubframe = refl

pub refusal_positive : (r : Refusal) → 0 < refusal_number r
refusal_positive ShortSheet = omega arith
refusal_positive OtherVersion = omega arith
refusal_positive NoSlots = omega arith
refusal_positive Malformed = omega arith
refusal_positive NoCapacity = omega arith
refusal_positive ManyBits = omega arith
refusal_positive ManyPlaces = omega arith
refusal_positive NoBits = omega arith
refusal_positive LateFrame = omega arith
refusal_positive Missing = omega arith
refusal_positive WrongLength = omega arith
refusal_positive (BadValue at) = omega arith
refusal_positive BadUplink = omega arith
refusal_positive BadSubframe = omega arith

pub refusal_same : (a b : Refusal) → refusal_number a ≡ refusal_number b → refusal_at a ≡ refusal_at b → a ≡ b
refusal_same a b n i = sym (refusal_back a) ∙ ap₂ refusal_of n i ∙ refusal_back b

pub result_same : {A : Type 0} (d : A) (x y : Result A Refusal) → answer_number x ≡ answer_number y → answer_index x ≡ answer_index y → value_or d x ≡ value_or d y → x ≡ y
result_same d (Ok x) (Ok y) n i v = ap Ok v
result_same d (Ok x) (Err b) n i v = absurd (omega (arith, refusal_positive b))
result_same d (Err a) (Ok y) n i v = absurd (omega (arith, refusal_positive a))
result_same d (Err a) (Err b) n i v = ap Err (refusal_same a b n i)

-- of a call whose answer is a count
pub answer_same : (x y : Result ℕ Refusal) → answer_number x ≡ answer_number y → at_of x ≡ at_of y → x ≡ y
answer_same (Ok x) (Ok y) n i = ap Ok i
answer_same (Ok x) (Err b) n i = absurd (omega (arith, refusal_positive b))
answer_same (Err a) (Ok y) n i = absurd (omega (arith, refusal_positive a))
answer_same (Err a) (Err b) n i = ap Err (refusal_same a b n i)

pub count_same : {x y : Result ℕ Refusal} {a : Answer} → answer_in x ≡ a → answer_in y ≡ a → x ≡ y
count_same {x} {y} p q =
    let e = p ∙ sym q in
    answer_same x y (ap (λ (z : Answer). z.number) e) (ap (λ (z : Answer). z.at) e)

-- two answers are one where what a caller is told of them is: it has the number and what was asked for
module _ {A X : Type 0} (d : A) (number : X → ℕ) (value : X → A) (told : Result A Refusal → X)
    (numbers : (r : Result A Refusal) → number (told r) ≡ answer_number r) (values : (r : Result A Refusal) → value (told r) ≡ value_or d r) where
  pub told_same : {x y : Result A Refusal} {a : X} → told x ≡ a → told y ≡ a → answer_index x ≡ answer_index y → x ≡ y
  told_same {x} {y} p q i =
      let e = p ∙ sym q in
      result_same d x y (sym (numbers x) ∙ ap number e ∙ numbers y) i (sym (values x) ∙ ap value e ∙ values y)

  pub told_alone : {L : Type 0} {l : L} {x y : Result A Refusal} {a : X} → (told x ≡ a) × (answer_index x ≡ 0) → (told y ≡ a) × (answer_index y ≡ 0) → (x ≡ y) × (l ≡ l)
  told_alone p q = (told_same p.0 q.0 (p.1 ∙ sym q.1), refl)
