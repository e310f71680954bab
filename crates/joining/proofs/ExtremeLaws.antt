-- The least magnitude of the link record is one of the magnitudes, and none is below it; and so the greatest.
use mathlib.Core.Path.{◌≡◌, refl, sym, ◌∙◌}
use mathlib.Core.Bool.{Bool, true, false, cond, false≢true}
use mathlib.Core.List.{List, [], ◌∷◌, foldl, map}
use mathlib.Core.Logic.{◌⊎◌, inl, inr}
use Prim.Native.Nat.{ℕ, zero, suc, ◌*◌, ◌<◌}
use native.Mathlib.Omega.{arith}
use borrow.Author.Tests.{ltb-true, ltb-false, le-ltb}
use lib.Dec.{ltb}
use lib.IntN.{ℤ}
use lib.ListN.{length}
use lib.Ieee.{Float, nan, inf, fin, lt}
use lib.Ieee.Positive.{num, den, den_pos, through}
use Rattle.laws.specs.FirstFail.{first_fail, NoneFails}
use Rattle.laws.proofs.FirstFailLaws.{none_first, none_rest, none-cons}
use Rattle.pattern.specs.Pattern.{shared}
use Rattle.joining.specs.declared.Heard.{Heard}
use Rattle.joining.specs.Joining.{raw_of, clipped_of, join_of, value_of, heard_of}
use Rattle.joining.specs.Whole.{bound, Under}
use Rattle.joining.specs.Linked.{magnitude_of, magnitudes, lower, higher, chosen, link_of}
use Rattle.joining.proofs.MadeLaws.{join_under, join_voice}

-- ---- the best of a list, by a test that says which of two is better

abbrev pub In : Float → List Float → Type 0
In l [] = ⊥
In l (x ∷ xs) = (l ≡ x) ⊎ In l xs

abbrev pub NoneBetter : (Float → Float → Bool) → Float → List Float → Type 0
NoneBetter better l [] = Unit
NoneBetter better l (x ∷ xs) = (better x l ≡ false) × NoneBetter better l xs

pub record Best (better : Float → Float → Bool) (l : Float) (xs : List Float) : Type 0 where
  pub one : In l xs
  pub none : NoneBetter better l xs

-- an order of the values that pass a test
pub record Order (ok : Float → Bool) (better : Float → Float → Bool) : Type 0 where
  pub same : (x : Float) → ok x ≡ true → better x x ≡ false
  pub other : (x y : Float) → ok x ≡ true → ok y ≡ true → better x y ≡ true → better y x ≡ false
  pub on : (x y z : Float) → ok x ≡ true → ok y ≡ true → ok z ≡ true → better x y ≡ false → better y z ≡ false → better x z ≡ false

module _ (ok : Float → Bool) (better : Float → Float → Bool) (o : Order ok better) where
  in_ok : (l : Float) (xs : List Float) → In l xs → NoneFails ok xs → ok l ≡ true
  in_ok l [] m h = absurd m
  in_ok l (x ∷ xs) (inl e) h = rw e (none_first ok x xs h)
  in_ok l (x ∷ xs) (inr m) h = in_ok l xs m (none_rest ok x xs h)

  -- the better of a and b, said of any choice p that is one of the two
  record Choice (a b p : Float) : Type 0 where
    fine : ok p ≡ true
    either : (p ≡ a) ⊎ (p ≡ b)
    first : better a p ≡ false
    second : better b p ≡ false

  choose : (a b : Float) → ok a ≡ true → ok b ≡ true → Choice a b (cond (better b a) b a)
  choose a b ha hb = go (better b a) refl
    where
      go : (t : Bool) → better b a ≡ t → Choice a b (cond t b a)
      go true e = record { fine = hb; either = inr refl; first = o.other b a hb ha e; second = o.same b hb }
      go false e = record { fine = ha; either = inl refl; first = o.same a ha; second = e }

  best : (xs : List Float) (a : Float) → NoneFails ok (a ∷ xs) → Best better (foldl (λ a b. cond (better b a) b a) a xs) (a ∷ xs)
  best [] a h = record { one = inl refl; none = (o.same a (none_first ok a [] h), tt) }
  best (b ∷ xs) a h =
      let p = cond (better b a) b a in
      let l = foldl (λ a b. cond (better b a) b a) p xs in
      let ha = none_first ok a (b ∷ xs) h in
      let hr = none_rest ok a (b ∷ xs) h in
      let hb = none_first ok b xs hr in
      let c = choose a b ha hb in
      let hp = none-cons ok p xs c.fine (none_rest ok b xs hr) in
      let r = best xs p hp in
      let hl = in_ok l (p ∷ xs) r.one hp in
      record {
        one = place l p a b xs c.either r.one;
        none = (o.on a p l ha c.fine hl c.first r.none.0, (o.on b p l hb c.fine hl c.second r.none.0, r.none.1));
      }
    where
      place : (l p a b : Float) (xs : List Float) → (p ≡ a) ⊎ (p ≡ b) → In l (p ∷ xs) → In l (a ∷ (b ∷ xs))
      place l p a b xs (inl q) (inl e) = inl (e ∙ q)
      place l p a b xs (inr q) (inl e) = inr (inl (e ∙ q))
      place l p a b xs q (inr m) = inr (inr m)

-- ---- finite values that are not below 0 are ordered

abbrev pub plain : Float → Bool
plain nan = false
plain (inf s) = false
plain (fin true m e) = false
plain (fin false m e) = true

below-is : (x y : Float) → plain x ≡ true → plain y ≡ true → lt x y ≡ ltb (num x * den y) (num y * den x)
unfolding lt
below-is (fin false m e) (fin false n d) h k = refl
below-is nan y h k = absurd (false≢true h)
below-is (inf s) y h k = absurd (false≢true h)
below-is (fin true m e) y h k = absurd (false≢true h)
below-is (fin false m e) nan h k = absurd (false≢true k)
below-is (fin false m e) (inf s) h k = absurd (false≢true k)
below-is (fin false m e) (fin true n d) h k = absurd (false≢true k)

pub upward : Order plain lt
upward =
    record {
      same = λ x h. below-is x x h h ∙ le-ltb (num x * den x) (num x * den x) (omega arith);
      other = λ x y h k t.
          let b = ltb-true (num x * den y) (num y * den x) (sym (below-is x y h k) ∙ t) in
          below-is y x k h ∙ le-ltb (num y * den x) (num x * den y) (omega arith);
      on = λ x y z h k l s t.
          below-is x z h l
          ∙ le-ltb (num x * den z) (num z * den x)
          (through (num z) (num y) (num x) (den z) (den y) (den x) (den_pos y)
          (ltb-false (num y * den z) (num z * den y) (sym (below-is y z k l) ∙ t))
          (ltb-false (num x * den y) (num y * den x) (sym (below-is x y h k) ∙ s)));
    }

downward : Order plain (λ x y. lt y x)
downward =
    record {
      same = upward.same;
      other = λ x y h k t. upward.other y x k h t;
      on = λ x y z h k l s t. upward.on z y x l k h t s;
    }

extremes : (ms : List Float) → NoneFails plain ms → 0 < length ms → Best lt (chosen lower ms) ms × Best (λ x y. lt y x) (chosen higher ms) ms
unfolding chosen
extremes [] h k = absurd (omega arith)
extremes (m ∷ ms) h k = (best plain lt upward ms m h, best plain (λ x y. lt y x) downward ms m h)

-- ---- the magnitudes of a segment

plain_magnitude : (x : Float) (n : ℕ) → Under x n → plain (magnitude_of x) ≡ true
unfolding magnitude_of
plain_magnitude nan n u = absurd u
plain_magnitude (inf s) n u = absurd u
plain_magnitude (fin s zero e) n u = refl
plain_magnitude (fin s (suc m) e) n u = refl

plain_all : (xss : List (List Float)) → NoneFails plain (magnitudes (map join_of xss))
unfolding first_fail raw_of clipped_of join_of magnitudes
plain_all [] = refl
plain_all ([] ∷ xss) = plain_all xss
plain_all ((x ∷ xs) ∷ xss) =
    let v = value_of (join_of (x ∷ xs)) in
    rw ((join_voice x xs).magnitude (map join_of xss))
    (none-cons plain (magnitude_of v) (magnitudes (map join_of xss)) (plain_magnitude v bound (join_under (x ∷ xs))) (plain_all xss))

-- of the link record: least and greatest are magnitudes of heard bits, and none is below the one or above the other
pub record Extremes (hs : List Heard) : Type 0 where
  pub least : Best lt (link_of hs).least (magnitudes hs)
  pub greatest : Best (λ x y. lt y x) (link_of hs).greatest (magnitudes hs)

pub link_extremes : (d : ℤ) (N e : ℕ) (vs : List Float) → 0 < length (magnitudes (heard_of d N e vs)) → Extremes (heard_of d N e vs)
unfolding heard_of link_of
link_extremes d N e vs k =
    let x = extremes (magnitudes (heard_of d N e vs)) (plain_all (shared d N e vs)) k in record { least = x.0; greatest = x.1 }
