-- The loop goes in rounds: whoever comes before the PhCH whose turn it is has had one turn more than those after it.
use Rattle.std.proofs.Common.{◌≡◌, ℕ, zero, suc, ◌+◌, ◌-◌, ◌*◌, ◌/◌, ◌%◌, ◌<◌, ◌≤◌, ◌⊎◌, sym, refl, ap, ◌∙◌, subst, inl, inr, ⊎_elim, le_of_suc-le-suc, mod-eq_of_lt, suc-mul, eq-or-lt_of_le, arith, eq-eqb, ne_eqb}
use native.Mathlib.Nat.{mod_self}
use native.Mathlib.Decide.{dec_lt, ℕ_discrete}
use lib.Arith.{digits_div, digits_mod}
use Rattle.laws.specs.Sums.{sum_to}
use Rattle.laws.proofs.SumLaws.{sum_same, sum_parts}
use Rattle.laws.proofs.TestLaws.{split}
use Rattle.mapping.specs.Mapping.{start, next, passed, one_more, onward, after_turns, number_of}

-- one bit more in PhCH p
pub more_same : (fb : ℕ → ℕ) (p : ℕ) → one_more fb p p ≡ suc (fb p)
unfolding one_more
more_same fb p = rw (eq-eqb p p refl)

pub more-other : (fb : ℕ → ℕ) (p q : ℕ) → (q ≡ p → ⊥) → one_more fb p q ≡ fb q
unfolding one_more
more-other fb p q h = rw (ne_eqb q p h)

-- a bit that is there then was there before, or is the new one
pub more_cases : (fb : ℕ → ℕ) (p q x : ℕ) → x < one_more fb p q → (x < fb q) ⊎ ((q ≡ p) × (x ≡ fb p))
more_cases fb p q x h = by (ℕ_discrete q p)
  where
    at : q ≡ p → (x ≡ fb p) ⊎ (x < fb p) → (x < fb q) ⊎ ((q ≡ p) × (x ≡ fb p))
    at e (inl y) = inr (e, y)
    at e (inr y) = inl (rw e y)

    by : Dec (q ≡ p) → (x < fb q) ⊎ ((q ≡ p) × (x ≡ fb p))
    by (yes e) = let l : x < one_more fb p p = rw e at h in at e (eq-or-lt_of_le (le_of_suc-le-suc (rw more_same at l)))
    by (no e) = inl (rw (more-other fb p q e) at h)

pub more-sum : (fb : ℕ → ℕ) (p P : ℕ) → p < P → sum_to (one_more fb p) P ≡ suc (sum_to fb P)
more-sum fb p P h =
    omega (
      arith,
      sum_parts fb p P h,
      sum_parts (one_more fb p) p P h,
      more_same fb p,
      sum_same (one_more fb p) fb p (λ q l. more-other fb p q (omega arith)),
      sum_same (λ i. one_more fb p (suc p + i)) (λ i. fb (suc p + i)) (P - suc p) (λ i l. more-other fb p (suc p + i) (omega arith)),
    )

next_cases : (P p : ℕ) → p < P → ((next P p ≡ suc p) × (suc p < P)) ⊎ ((next P p ≡ 0) × (suc p ≡ P))
next_cases P p h = elim (ℕ_discrete (suc p) P) [
  | yes e ↦ inr (ap (λ (n : ℕ). n % P) e ∙ mod_self P, e)
  | no m ↦ let l : suc p < P = omega arith in inl (mod-eq_of_lt l, l)
]

-- round r, at PhCH p
pub record Round (U B : ℕ → ℕ) (P r p : ℕ) (fb : ℕ → ℕ) : Type 0 where
  pub inside : p < P
  pub past : (q : ℕ) → q < p → fb q ≡ after_turns U B (suc r) q
  pub ahead : (q : ℕ) → p < q → q < P → fb q ≡ after_turns U B r q
  pub low : after_turns U B r p ≤ fb p
  pub room : fb p ≤ U p
  pub high : fb p < suc r * B p

pub round_fits : (U B : ℕ → ℕ) (P r p : ℕ) (fb : ℕ → ℕ) → Round U B P r p fb → (q : ℕ) → q < P → fb q ≤ U q
round_fits U B P r p fb i q h = by (dec_lt q p) (dec_lt p q)
  where
    by : Dec (q < p) → Dec (p < q) → fb q ≤ U q
    by (yes l) m = omega (arith, i.past q l)
    by (no l) (yes m) = omega (arith, i.ahead q m h)
    by (no l) (no m) = let e : q ≡ p = omega arith in rw e i.room

module _ (U B : ℕ → ℕ) (P : ℕ) (run : (q : ℕ) → q < P → 0 < B q) where
  pub round_start : 0 < P → Round U B P 0 0 start.fb
  round_start h = record {
    inside = h;
    past = λ q l. absurd (omega arith);
    ahead = λ q l m. omega arith;
    low = omega arith;
    room = omega arith;
    high = omega (arith, run 0 h);
  }

  -- PhCH p has had its turn of round r: on to the next
  advance : (r p : ℕ) (fb : ℕ → ℕ) → p < P → ((q : ℕ) → q < p → fb q ≡ after_turns U B (suc r) q)
      → ((q : ℕ) → p < q → q < P → fb q ≡ after_turns U B r q) → fb p ≡ after_turns U B (suc r) p → (r' : ℕ) × Round U B P r' (next P p) fb
  advance r p fb h l a e = ⊎_elim on wrap (next_cases P p h)
    where
      all : (q : ℕ) → q ≤ p → fb q ≡ after_turns U B (suc r) q
      all q m = ⊎_elim (λ w. subst (λ (x : ℕ). fb x ≡ after_turns U B (suc r) x) (sym w) e) (λ w. l q w) (eq-or-lt_of_le m)

      on : ((next P p ≡ suc p) × (suc p < P)) → (r' : ℕ) × Round U B P r' (next P p) fb
      on w =
          rw w.0 (
            r,
            record {
              inside = w.1;
              past = λ q m. all q (omega arith);
              ahead = λ q m n. a q (omega arith) n;
              low = omega (arith, a (suc p) (omega arith) w.1);
              room = omega (arith, a (suc p) (omega arith) w.1);
              high = omega (arith, a (suc p) (omega arith) w.1, suc-mul r (B (suc p)), run (suc p) w.1);
            },
          )

      wrap : ((next P p ≡ 0) × (suc p ≡ P)) → (r' : ℕ) × Round U B P r' (next P p) fb
      wrap w =
          rw w.0 (
            suc r,
            record {
              inside = omega arith;
              past = λ q m. absurd (omega arith);
              ahead = λ q m n. all q (omega arith);
              low = omega (arith, all 0 (omega arith));
              room = omega (arith, all 0 (omega arith));
              high = omega (arith, all 0 (omega arith), suc-mul (suc r) (B 0), run 0 (omega arith));
            },
          )

  -- t is n PhCHs on from p at most, going round
  abbrev Near : ℕ → ℕ → ℕ → Type 0
  Near p t n = ((p ≤ t) × (t ≤ p + n)) ⊎ ((t < p) × (t + P ≤ p + n))

  -- where PhCH t has room, the passing over ends at one that has
  pass : (n r p t : ℕ) (fb : ℕ → ℕ) → Round U B P r p fb → t < P → fb t < U t → Near p t n
      → (r' : ℕ) × (Round U B P r' (passed U P fb n p) fb) × (fb (passed U P fb n p) < U (passed U P fb n p))
  unfolding passed
  pass zero r p t fb i h m near = ⊎_elim (λ w. (r, i, let e : t ≡ p = omega arith in rw e at m)) (λ w. absurd (omega arith)) near
  pass (suc n) r p t fb i h m near =
      elim (ℕ_discrete (fb p) (U p)) [
        | no w ↦ rw (ne_eqb (fb p) (U p) w) (r, i, omega arith)
        | yes w ↦
            rw (eq-eqb (fb p) (U p) w)
            (let v = advance r p fb i.inside i.past i.ahead (omega arith) in pass n v.0 (next P p) t fb v.1 h m (on w))
      ]
    where
      apart : fb p ≡ U p → t ≡ p → ⊥
      apart w e = let m' : fb p < U p = rw e at m in omega arith

      on : fb p ≡ U p → Near (next P p) t n
      on w =
          ⊎_elim
          (λ (x : (next P p ≡ suc p) × (suc p < P)). ⊎_elim (λ y. inl (omega (arith, apart w))) (λ y. inr (omega arith)) near)
          (λ x. ⊎_elim (λ y. absurd (apart w (omega arith))) (λ y. inl (omega arith)) near)
          (next_cases P p i.inside)

  pub passes : (r p t : ℕ) (fb : ℕ → ℕ) → Round U B P r p fb → t < P → fb t < U t
      → (r' : ℕ) × (Round U B P r' (passed U P fb P p) fb) × (fb (passed U P fb P p) < U (passed U P fb P p))
  passes r p t fb i h m = pass P r p t fb i h m (split p t (λ l. inl (omega arith)) (λ l. inr (omega arith)))

  -- the round of bit x of a PhCH
  round_of : (r x b : ℕ) → r * b ≤ x → x < suc r * b → x / b ≡ r
  round_of r x b l h =
      let e : r * b + (x - r * b) ≡ x = omega arith in
      rw e at (digits_div r {m = b} {r = x - r * b} (omega (arith, suc-mul r b)))

  -- the bit that PhCH p takes next has, by the closed form, the number of the bits that all have by then
  pub numbered : (r p : ℕ) (fb : ℕ → ℕ) → Round U B P r p fb → fb p < U p → number_of U B P p (fb p) ≡ sum_to fb P
  unfolding number_of
  numbered r p fb i h =
      rw (round_of r (fb p) (B p) (omega arith) i.high)
      (omega (
        arith,
        sum_parts fb p P i.inside,
        sum_same fb (after_turns U B (suc r)) p i.past,
        sum_same (λ j. fb (suc p + j)) (λ j. after_turns U B r (suc p + j)) (P - suc p) (λ j l. i.ahead (suc p + j) (omega arith) (omega arith)),
      ))

  -- and then the loop goes on
  pub stepped : (r p : ℕ) (fb : ℕ → ℕ) → Round U B P r p fb → fb p < U p
      → (r' : ℕ) × Round U B P r' (onward B P p (suc (fb p))) (one_more fb p)
  unfolding onward
  stepped r p fb i h =
      ⊎_elim
      (λ w. rw (eq-eqb (suc (fb p) % B p) 0 (ends w)) (advance r p (one_more fb p) i.inside past ahead (omega (arith, more_same fb p))))
      (λ w.
      rw (ne_eqb (suc (fb p) % B p) 0 (amid w)) (
        r,
        record {
          inside = i.inside;
          past = past;
          ahead = ahead;
          low = omega (arith, more_same fb p);
          room = omega (arith, more_same fb p);
          high = omega (arith, more_same fb p);
        },
      ))
      (eq-or-lt_of_le i.high)
    where
      past : (q : ℕ) → q < p → one_more fb p q ≡ after_turns U B (suc r) q
      past q l = more-other fb p q (omega arith) ∙ i.past q l

      ahead : (q : ℕ) → p < q → q < P → one_more fb p q ≡ after_turns U B r q
      ahead q l m = more-other fb p q (omega arith) ∙ i.ahead q l m

      ends : suc (fb p) ≡ suc r * B p → suc (fb p) % B p ≡ 0
      ends w =
          let e : suc r * B p + 0 ≡ suc (fb p) = omega arith in
          rw e at (digits_mod (suc r) {m = B p} {r = 0} (run p i.inside))

      amid : suc (fb p) < suc r * B p → suc (fb p) % B p ≡ 0 → ⊥
      amid w z =
          let e : r * B p + (suc (fb p) - r * B p) ≡ suc (fb p) = omega arith in
          let d : suc (fb p) % B p ≡ suc (fb p) - r * B p = rw e at (digits_mod r {m = B p} {r = suc (fb p) - r * B p} (omega (arith, suc-mul r (B p)))) in
          omega arith
