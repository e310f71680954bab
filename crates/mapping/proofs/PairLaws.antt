-- Laws of a pair: which line a bit is on, and the numbers of the bits along each of its lines.
use Rattle.std.proofs.Common.{◌≡◌, ℕ, suc, ◌+◌, ◌-◌, ◌*◌, ◌/◌, ◌%◌, ◌<◌, ◌≤◌, min, refl, ⊎_elim, mul-le-mul_right, mod-lt, div-lt_iff_lt-mul, le-div_iff_mul-le, arith, le-ltb, lt-ltb}
use native.Mathlib.Nat.{mod-add-div'}
use lib.Arith.{digits_div}
use Rattle.laws.specs.Sums.{sum_to}
use Rattle.laws.proofs.SumLaws.{sum-within}
use Rattle.laws.proofs.TestLaws.{split}
use Rattle.mapping.specs.declared.pairs.Pair.{Pair}
use Rattle.mapping.specs.declared.lines.Line.{Line}
use Rattle.mapping.specs.Mapping.{place, number_of, in_runs}
use Rattle.mapping.specs.Lines.{bit_on, rank_on}
use Rattle.mapping.specs.Pairs.{caps_in, runs_in, by_rounds, by_turn, by_other, line_of, lines, Fit, Traced}
use Rattle.mapping.proofs.TurnLaws.{place_gets, place_of-number}
use Rattle.mapping.proofs.LineLaws.{pair_runs, pair_total}

module _ {t : Pair} (f : Fit t) where
  first-number : (x : ℕ) → number_of (caps_in t) (runs_in t) 2 0 x ≡ x + min t.v (x / t.b * t.c)
  unfolding number_of sum_to in_runs
  first-number x = omega arith

  second-number : (x : ℕ) → number_of (caps_in t) (runs_in t) 2 1 x ≡ x + min t.u (suc (x / t.c) * t.b)
  unfolding number_of sum_to in_runs
  second-number x = omega arith

  -- bit i of a PhCH's turn r
  first-is : (r i : ℕ) → i < t.b → number_of (caps_in t) (runs_in t) 2 0 (r * t.b + i) ≡ r * t.b + i + min t.v (r * t.c)
  first-is r i h = rw (digits_div r {m = t.b} {r = i} h) at (first-number (r * t.b + i))

  second_is : (r i : ℕ) → i < t.c → number_of (caps_in t) (runs_in t) 2 1 (r * t.c + i) ≡ r * t.c + i + min t.u (suc r * t.b)
  second_is r i h = rw (digits_div r {m = t.c} {r = i} h) at (second-number (r * t.c + i))

  -- which line bit k is on
  line_cases : {X : Type 0} (k : ℕ) → (k < by_rounds t → line_of t k ≡ k % (t.b + t.c) → line_of t k < t.b + t.c → X)
      → (by_rounds t ≤ k → k < by_turn t → line_of t k ≡ t.b + t.c → X) → (by_turn t ≤ k → k < by_other t → line_of t k ≡ t.b + t.c + 1 → X)
      → (by_other t ≤ k → line_of t k ≡ t.b + t.c + 2 → X) → X
  unfolding line_of
  line_cases k row turn other last =
      split (by_rounds t) k
      (λ a.
      let e = le-ltb k (by_rounds t) a in
      split (by_turn t) k
      (λ b.
      let e' = le-ltb k (by_turn t) b in
      split (by_other t) k (λ c. last c (rw (e, e', le-ltb k (by_other t) c))) (λ c. other b c (rw (e, e', lt-ltb k (by_other t) c))))
      (λ b. turn a b (rw (e, lt-ltb k (by_turn t) b))))
      (λ a. let e = lt-ltb k (by_rounds t) a in row a (rw e) (rw e (mod-lt k (omega (arith, f.runs.first)))))

  -- a line that its numbers show: its bits are those of PhCH p in order, and no other bits are on it
  traced : (j : ℕ) (l : Line) → l.p < 2 → l.base ≡ sum_to (caps_in t) l.p → l.room ≡ caps_in t l.p → (l.step ≤ 32) × (l.apart ≤ 16) → (0 < l.step) × (l.bit < 4294967296)
      → ((i : ℕ) → i < l.count → (rank_on l i < caps_in t l.p) × (number_of (caps_in t) (runs_in t) 2 l.p (rank_on l i) ≡ bit_on l i))
      → ((k : ℕ) → k < t.u + t.v → line_of t k ≡ j → (i : ℕ) × (i < l.count) × (k ≡ bit_on l i)) → Traced t j l
  traced j l h e z near some number all = record {
    within =
        record {
          given = λ i m.
              let n = number i m in
              rw (← n.1, ← pair_total f) (place_gets (caps_in t) (runs_in t) 2 (pair_runs f) l.p (rank_on l i) h n.0).0;
          inside = λ i m. rw z (number i m).0;
          room = omega (arith, e, z, sum-within (caps_in t) l.p 2 h, pair_total f);
          few = omega (arith, f.small, f.little, some.1);
          near = near;
          some = some.0;
        };
    goes = λ i m.
        let n = number i m in
        rw (← n.1, e, z) (unfold place in place_of-number (caps_in t) (runs_in t) 2 (pair_runs f) l.p (rank_on l i) h n.0);
    all = all;
  }

  -- bit j of each full round
  row : (j : ℕ) → j < t.b + t.c → (k : ℕ) → line_of t k ≡ j → (i : ℕ) × (i < t.rounds) × (k ≡ j + i * (t.b + t.c))
  row j h k e =
      let n = t.b + t.c in
      line_cases k (λ a x l. (k / n, (div-lt_iff_lt-mul (omega arith)).1 a, omega (arith, mod-add-div' k n)))
      (λ a b x. absurd (omega arith)) (λ a b x. absurd (omega arith)) (λ a x. absurd (omega arith))

  pub traced_first : (j : ℕ) → j < t.b
      → Traced t j (record { bit = j; step = t.b + t.c; base = 0; p = 0; room = t.u; rank = j; apart = t.b; count = t.rounds })
  unfolding sum_to
  traced_first j h =
      traced j _ (omega arith) refl refl (omega (arith, f.runs)) (omega (arith, f.runs))
      (λ i m.
      let m' : suc i ≤ t.rounds = m in
      let e : j + i * t.b ≡ i * t.b + j = omega arith in
      rw e (
        omega (arith, f.full.first, mul-le-mul_right t.b m'),
        omega (arith, first-is i j h, f.full.second, mul-le-mul_right t.c m'),
      ))
      (λ k m e. row j (omega arith) k e)

  pub traced_second : (j : ℕ) → t.b ≤ j → j < t.b + t.c
      → Traced t j (record { bit = j; step = t.b + t.c; base = t.u; p = 1; room = t.v; rank = j - t.b; apart = t.c; count = t.rounds })
  unfolding sum_to
  traced_second j g h =
      traced j _ (omega arith) (omega arith) refl (omega (arith, f.runs)) (omega (arith, f.runs))
      (λ i m.
      let m' : suc i ≤ t.rounds = m in
      let e : j - t.b + i * t.c ≡ i * t.c + (j - t.b) = omega arith in
      rw e (
        omega (arith, f.full.second, mul-le-mul_right t.c m'),
        omega (arith, second_is i (j - t.b) (omega arith), f.full.first, mul-le-mul_right t.b m'),
      ))
      (λ k m e. row j h k e)

  -- the round that is not full: PhCH 1 takes its run or what it has room for
  pub traced_part : Traced t (t.b + t.c)
      (record { bit = t.rounds * t.b + t.rounds * t.c; step = 1; base = 0; p = 0; room = t.u; rank = t.rounds * t.b; apart = 1; count = t.rest })
  unfolding sum_to
  traced_part =
      traced (t.b + t.c) _ (omega arith) refl refl (omega arith) (omega (arith, f.small, f.little, f.part, f.full.first, f.full.second))
      (λ i m.
      let e : t.rounds * t.b + i * 1 ≡ t.rounds * t.b + i = omega arith in
      rw e (omega (arith, f.part), omega (arith, first-is t.rounds i (omega (arith, f.part)), f.full.second)))
      (λ k m e.
      line_cases k (λ a x l. absurd (omega arith)) (λ a b x. (k - (t.rounds * t.b + t.rounds * t.c), omega arith, omega arith))
      (λ a b x. absurd (omega arith)) (λ a x. absurd (omega arith)))

  -- PhCH 2 takes all that it still has room for
  pub traced_other : Traced t (t.b + t.c + 1)
      (record {
        bit = t.rounds * t.b + t.rounds * t.c + t.rest;
        step = 1;
        base = t.u;
        p = 1;
        room = t.v;
        rank = t.rounds * t.c;
        apart = 1;
        count = t.v - t.rounds * t.c;
      })
  unfolding sum_to
  traced_other =
      traced (t.b + t.c + 1) _ (omega arith) (omega arith) refl (omega arith) (omega (arith, f.small, f.little, f.part, f.full.first, f.full.second))
      (λ i m.
      let y = t.rounds * t.c + i in
      let e : t.rounds * t.c + i * 1 ≡ y = omega arith in
      let d : t.rounds ≤ y / t.c = (le-div_iff_mul-le f.runs.other).1 (omega arith) in
      let d' : suc t.rounds ≤ suc (y / t.c) = omega arith in
      rw e (
        omega arith,
        ⊎_elim
            (λ z. omega (arith, f.part, second-number y, mul-le-mul_right t.b d'))
            (λ z. omega (arith, f.part, second_is t.rounds i (omega arith), f.full.first))
            f.full.end,
      ))
      (λ k m e.
      line_cases k (λ a x l. absurd (omega arith)) (λ a b x. absurd (omega arith))
      (λ a b x. (k - (t.rounds * t.b + t.rounds * t.c + t.rest), omega (arith, f.full.second), omega arith)) (λ a x. absurd (omega arith)))

  -- and PhCH 1 the rest
  pub traced_last : Traced t (t.b + t.c + 2)
      (record {
        bit = t.rounds * t.b + t.rest + t.v;
        step = 1;
        base = 0;
        p = 0;
        room = t.u;
        rank = t.rounds * t.b + t.rest;
        apart = 1;
        count = t.u - (t.rounds * t.b + t.rest);
      })
  unfolding sum_to
  traced_last =
      traced (t.b + t.c + 2) _ (omega arith) refl refl (omega arith) (omega (arith, f.small, f.little, f.part, f.full.first, f.full.second))
      (λ i m.
      let y = t.rounds * t.b + t.rest + i in
      let e : t.rounds * t.b + t.rest + i * 1 ≡ y = omega arith in
      let a : y < t.u = omega arith in
      let d : suc t.rounds ≤ y / t.b = (le-div_iff_mul-le f.runs.first).1 (omega (arith, f.part)) in
      rw e (
        a,
        ⊎_elim (λ z. absurd (omega (arith, f.part))) (λ z. omega (arith, first-number y, mul-le-mul_right t.c d)) f.full.end,
      ))
      (λ k m e.
      line_cases k (λ a x l. absurd (omega arith)) (λ a b x. absurd (omega arith))
      (λ a b x. absurd (omega arith)) (λ a x. (k - (t.rounds * t.b + t.rest + t.v), omega (arith, f.full.first), omega arith)))

  -- every bit is on a line
  pub line-few : (k : ℕ) → line_of t k < lines t
  line-few k =
      line_cases k (λ a x l. omega arith) (λ a b x. omega arith) (λ a b x. omega arith) (λ a x. omega arith)
