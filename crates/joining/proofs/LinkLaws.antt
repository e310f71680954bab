-- Laws of the link record: one bit more, and a walk that makes the record.
use mathlib.Core.Path.{◌≡◌, refl, sym, ap, ap₂, ◌∙◌}
use mathlib.Core.Bool.{Bool, true, false, cond}
use mathlib.Core.List.{List, [], ◌∷◌, ◌++◌, append-nil, append_assoc, foldl-append}
use Prim.Native.Nat.{ℕ, ◌+◌, ◌≤◌}
use native.Mathlib.Nat.{add-zero}
use native.Mathlib.Omega.{arith}
use borrow.Author.Tests.{eq-eqb, ne_eqb}
use lib.Dec.{eqb}
use lib.ListN.{length, length-append}
use lib.Ieee.{Float, lt}
use Rattle.joining.specs.declared.Heard.{Heard}
use Rattle.joining.specs.declared.Heard.TheVariants.{Nothing, Once, Joined}
use Rattle.joining.specs.declared.linking.Link.{Link}
use Rattle.joining.specs.Joining.{plus_zero}
use Rattle.joining.specs.Linked.{magnitude_of, magnitudes, punctures, lower, higher, chosen, link_of, with_magnitude, with_value, with_heard}

-- no bit was heard, and none was punctured
pub link_none : ◌≡◌ {A = Link} (link_of []) (record { least = plus_zero; greatest = plus_zero; punctured = 0 })
unfolding magnitudes punctures chosen link_of
link_none = refl

-- ---- one value more, by the tests of the code

pub first-value : (l : Link) (n : ℕ) (x a : Float) → l.punctured ≡ n → a ≡ magnitude_of x → with_magnitude l true a ≡ with_value l n x
unfolding with_value
first-value l n x a q e = ap (with_magnitude l true) e ∙ ap (λ (t : Bool). with_magnitude l t (magnitude_of x)) (sym (eq-eqb l.punctured n q))

pub later-value : (l : Link) (n : ℕ) (x a : Float) (b d : Bool) → (l.punctured ≡ n → ⊥) → a ≡ magnitude_of x → lt a l.least ≡ b
    → lt l.greatest a ≡ d
    → ◌≡◌ {A = Link} (record { least = cond b a l.least; greatest = cond d a l.greatest; punctured = l.punctured }) (with_value l n x)
unfolding with_value
later-value l n x a b d ne e p q =
    ap₂ {C = Link} (λ (s t : Bool). record { least = cond s a l.least; greatest = cond t a l.greatest; punctured = l.punctured })
    (sym p) (sym q)
    ∙ ap (with_magnitude l false) e
    ∙ ap (λ (t : Bool). with_magnitude l t (magnitude_of x)) (sym (ne_eqb l.punctured n ne))

-- ---- one bit more

-- each bit was heard or not
heard_or_not : (hs : List Heard) → punctures hs + length (magnitudes hs) ≡ length hs
unfolding magnitudes punctures
heard_or_not [] = refl
heard_or_not (Nothing ∷ hs) = omega (arith, heard_or_not hs)
heard_or_not (Once x ∷ hs) = omega (arith, heard_or_not hs)
heard_or_not (Joined x n ∷ hs) = omega (arith, heard_or_not hs)

magnitudes-append : (hs js : List Heard) → magnitudes (hs ++ js) ≡ magnitudes hs ++ magnitudes js
unfolding magnitudes
magnitudes-append [] js = refl
magnitudes-append (Nothing ∷ hs) js = magnitudes-append hs js
magnitudes-append (Once x ∷ hs) js = ap (λ (l : List Float). magnitude_of x ∷ l) (magnitudes-append hs js)
magnitudes-append (Joined x n ∷ hs) js = ap (λ (l : List Float). magnitude_of x ∷ l) (magnitudes-append hs js)

punctures-append : (hs js : List Heard) → punctures (hs ++ js) ≡ punctures hs + punctures js
unfolding punctures
punctures-append [] js = omega arith
punctures-append (Nothing ∷ hs) js = omega (arith, punctures-append hs js)
punctures-append (Once x ∷ hs) js = punctures-append hs js
punctures-append (Joined x n ∷ hs) js = punctures-append hs js

abbrev pub made : List Float → ℕ → Link
made ms p = record { least = chosen lower ms; greatest = chosen higher ms; punctured = p }

made_more : (ms : List Float) (p n : ℕ) (a : Float) → p + length ms ≡ n → made (ms ++ (a ∷ [])) p ≡ with_magnitude (made ms p) (eqb p n) a
unfolding chosen
made_more [] p n a q = rw (eq-eqb p n (omega arith))
made_more (x ∷ ms) p n a q =
    rw (ne_eqb p n (λ r. omega arith), foldl-append lower x ms (a ∷ []), foldl-append higher x ms (a ∷ []))

value-more : (hs : List Heard) (h : Heard) (x : Float) → magnitudes (h ∷ []) ≡ magnitude_of x ∷ [] → punctures (h ∷ []) ≡ 0
    → link_of (hs ++ (h ∷ [])) ≡ with_value (link_of hs) (length hs) x
unfolding link_of with_value
value-more hs h x qm qp =
    ap₂ made (magnitudes-append hs (h ∷ []) ∙ ap (λ (l : List Float). magnitudes hs ++ l) qm)
    (punctures-append hs (h ∷ []) ∙ ap (λ (n : ℕ). punctures hs + n) qp ∙ add-zero (punctures hs))
    ∙ made_more (magnitudes hs) (punctures hs) (length hs) (magnitude_of x) (heard_or_not hs)

link_more : (hs : List Heard) (h : Heard) → link_of (hs ++ (h ∷ [])) ≡ with_heard (link_of hs) (length hs) h
unfolding magnitudes punctures with_heard
link_more hs Nothing =
    unfold link_of in ap₂ made (magnitudes-append hs (Nothing ∷ []) ∙ append-nil (magnitudes hs)) (punctures-append hs (Nothing ∷ []))
link_more hs (Once x) = value-more hs (Once x) x refl refl
link_more hs (Joined x n) = value-more hs (Joined x n) x refl refl

-- ---- the bits that are left, each put to a record of n bits

unfoldable pub link_from : Link → ℕ → List Heard → Link
link_from l n [] = l
link_from l n (h ∷ hs) = link_from (with_heard l n h) (n + 1) hs

link_append : (gs hs : List Heard) → link_from (link_of gs) (length gs) hs ≡ link_of (gs ++ hs)
unfolding link_from
link_append gs [] = ap link_of (sym (append-nil gs))
link_append gs (h ∷ hs) =
    ap₂ (λ (l : Link) (n : ℕ). link_from l n hs) (sym (link_more gs h)) (sym (length-append gs (h ∷ [])))
    ∙ link_append (gs ++ (h ∷ [])) hs
    ∙ ap link_of (append_assoc gs (h ∷ []) hs)

link_all : (hs : List Heard) → link_from (link_of []) 0 hs ≡ link_of hs
link_all hs = link_append [] hs

counted-value : (l : Link) (n : ℕ) (x : Float) → (with_value l n x).punctured ≡ l.punctured
unfolding with_value
counted-value l n x = go (eqb l.punctured n)
  where
    go : (b : Bool) → (with_magnitude l b (magnitude_of x)).punctured ≡ l.punctured
    go true = refl
    go false = refl

counted-more : (l : Link) (n : ℕ) (h : Heard) → l.punctured ≤ n → (with_heard l n h).punctured ≤ n + 1
unfolding with_heard
counted-more l n Nothing k = omega arith
counted-more l n (Once x) k = omega (arith, counted-value l n x)
counted-more l n (Joined x c) k = omega (arith, counted-value l n x)

-- of `all` bits, l has the first n, and `hs` are left
pub record Surveying (all : List Heard) (l : Link) (n : ℕ) (hs : List Heard) : Type 0 where
  pub counted : l.punctured ≤ n
  pub same : link_from l n hs ≡ link_of all

pub survey_start : {l : Link} (all : List Heard) → l ≡ link_of [] → Surveying all l 0 all
unfolding punctures link_of
survey_start all q = rw q (record { counted = omega arith; same = link_all all })

module _ {all : List Heard} {l : Link} {n : ℕ} {hs : List Heard} (s : Surveying all l n hs) where
  pub survey_turn : {l' : Link} {h : Heard} {hs' : List Heard} → hs ≡ h ∷ hs' → l' ≡ with_heard l n h → Surveying all l' (n + 1) hs'
  unfolding link_from
  survey_turn {l'} {h} {hs'} q r =
      let w : Surveying all l n (h ∷ hs') = rw q at s in
      rw r (record { counted = counted-more l n h w.counted; same = w.same })

  pub survey_end : hs ≡ [] → l ≡ link_of all
  unfolding link_from
  survey_end q = let w : Surveying all l n [] = rw q at s in w.same
