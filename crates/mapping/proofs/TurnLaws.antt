-- Each bit goes to one place and each place gets one bit: bit k goes to PhCH p as its bit x exactly where k is the closed form's number.
use Rattle.std.proofs.Common.{◌≡◌, ℕ, zero, suc, ◌+◌, ◌-◌, ◌<◌, ◌≤◌, min, sym, refl, ap, ◌∙◌, ap₂, ⊎_elim, div-one, arith}
use Rattle.laws.specs.Sums.{sum_to, sum_from}
use Rattle.laws.proofs.SumLaws.{sum_same, sum_less, sum_tight, sum_zeros}
use Rattle.mapping.specs.Mapping.{taker, after_bit, place, before, phch_of, rank_of, place_of, after_turns, number_of, ones}
use Rattle.mapping.proofs.PlaceLaws.{place-within, place-apart, placed}
use Rattle.mapping.proofs.LoopLaws.{Round, round_start, round_fits, passes, numbered, stepped, more-sum, more_cases}

some-phch : (U : ℕ → ℕ) (P k : ℕ) → k < sum_to U P → 0 < P
unfolding sum_to
some-phch U zero k h = absurd (omega arith)
some-phch U (suc P) k h = omega arith

module _ (U B : ℕ → ℕ) (P : ℕ) (run : (q : ℕ) → q < P → 0 < B q) where
  -- what is known of a bit that is in place before bit k
  abbrev Gone : ℕ → ℕ → ℕ → Type 0
  Gone k q x = (number_of U B P q x < k) × (phch_of U B P (number_of U B P q x) ≡ q) × (rank_of U B P (number_of U B P q x) ≡ x)

  -- before bit k: k bits are where the closed form says
  record Before (k : ℕ) : Type 0 where
    round : ℕ
    inv : Round U B P round (before U B P k).p (before U B P k).fb
    count : sum_to (before U B P k).fb P ≡ k
    gone : (q x : ℕ) → q < P → x < (before U B P k).fb q → Gone k q x

  -- at bit k: a PhCH takes it
  record Takes (k : ℕ) : Type 0 where
    round : ℕ
    inv : Round U B P round (phch_of U B P k) (before U B P k).fb
    room : rank_of U B P k < U (phch_of U B P k)
    number : number_of U B P (phch_of U B P k) (rank_of U B P k) ≡ k

  takes : (k : ℕ) → k < sum_to U P → Before k → Takes k
  unfolding taker
  takes k h b =
      let t = before U B P k in
      let s = sum_less t.fb U P (omega (arith, b.count)) in
      let v = passes U B P run b.round t.p s.0 t.fb b.inv s.1 s.2 in
      record { round = v.0; inv = v.1; room = v.2; number = numbered U B P run v.0 (taker U P t) t.fb v.1 v.2 ∙ b.count }

  onto : (k : ℕ) → Before k → Takes k → Before (suc k)
  unfolding before after_bit
  onto k b t =
      let z = stepped U B P run t.round (phch_of U B P k) (before U B P k).fb t.inv t.room in
      record {
        round = z.0;
        inv = z.1;
        count = more-sum (before U B P k).fb (phch_of U B P k) P t.inv.inside ∙ ap suc b.count;
        gone = λ q x l m. ⊎_elim (old q x l) (new q x) (more_cases (before U B P k).fb (phch_of U B P k) q x m);
      }
    where
      old : (q x : ℕ) → q < P → x < (before U B P k).fb q → Gone (suc k) q x
      old q x l m = let g = b.gone q x l m in (omega (arith, g.0), g.1, g.2)

      new : (q x : ℕ) → (q ≡ phch_of U B P k) × (x ≡ rank_of U B P k) → Gone (suc k) q x
      new q x e = rw (e.0, e.1, t.number) (omega arith, refl, refl)

  turns : 0 < P → (k : ℕ) → k ≤ sum_to U P → Before k
  unfolding before
  turns some zero h = record { round = 0; inv = round_start U B P run some; count = sum_zeros P; gone = λ q x l m. absurd (omega arith) }
  turns some (suc k) h = let b = turns some k (omega arith) in onto k b (takes k (omega arith) b)

  -- bit k goes to a place of the slot, whose number is k
  pub bit-goes : (k : ℕ) → k < sum_to U P
      → (phch_of U B P k < P) × (rank_of U B P k < U (phch_of U B P k)) × (number_of U B P (phch_of U B P k) (rank_of U B P k) ≡ k)
  bit-goes k h = let t = takes k h (turns (some-phch U P k h) k (omega arith)) in (t.inv.inside, t.room, t.number)

  -- each place of the slot gets the bit of its number
  pub place_gets : (p x : ℕ) → p < P → x < U p
      → (number_of U B P p x < sum_to U P) × (phch_of U B P (number_of U B P p x) ≡ p) × (rank_of U B P (number_of U B P p x) ≡ x)
  place_gets p x l m =
      let b = turns (omega arith) (sum_to U P) (omega arith) in
      b.gone p x l (omega (arith, sum_tight (before U B P (sum_to U P)).fb U P (round_fits U B P b.round _ _ b.inv) b.count p l))

  -- so bit k goes to PhCH p as its bit x exactly where k is their number
  pub goes_number : (k p x : ℕ) → k < sum_to U P → phch_of U B P k ≡ p → rank_of U B P k ≡ x → k ≡ number_of U B P p x
  goes_number k p x h ep ex = rw (← ep, ← ex) (sym (bit-goes k h).2)

  pub number-goes : (k p x : ℕ) → p < P → x < U p → k ≡ number_of U B P p x → (phch_of U B P k ≡ p) × (rank_of U B P k ≡ x)
  number-goes k p x l m e = let g = place_gets p x l m in rw e (g.1, g.2)

  -- no two places have one number
  pub number-apart : (p x q y : ℕ) → p < P → x < U p → q < P → y < U q → number_of U B P p x ≡ number_of U B P q y → (p ≡ q) × (x ≡ y)
  number-apart p x q y l m l' m' e =
      let a = number-goes (number_of U B P q y) p x l m (sym e) in
      let b = place_gets q y l' m' in
      (sym a.0 ∙ b.1, sym a.1 ∙ b.2)

  -- the same of places in frame order: each bit has one, no two have the same, and every place is a bit's
  pub place_of-number : (p x : ℕ) → p < P → x < U p → place_of U B P (number_of U B P p x) ≡ place U p x
  unfolding place_of
  place_of-number p x l m = let g = place_gets p x l m in rw (g.1, g.2)

  pub place_of-within : (k : ℕ) → k < sum_to U P → place_of U B P k < sum_to U P
  unfolding place_of
  place_of-within k h = let g = bit-goes k h in place-within U P (phch_of U B P k) (rank_of U B P k) g.0 g.1

  pub place_of-apart : (j k : ℕ) → j < sum_to U P → k < sum_to U P → place_of U B P j ≡ place_of U B P k → j ≡ k
  unfolding place_of
  place_of-apart j k h l e =
      let a = bit-goes j h in
      let b = bit-goes k l in
      let s = place-apart U (phch_of U B P j) (rank_of U B P j) (phch_of U B P k) (rank_of U B P k) a.1 b.1 e in
      sym a.2 ∙ ap₂ (number_of U B P) s.0 s.1 ∙ b.2

  pub every-place : (n : ℕ) → n < sum_to U P → (k : ℕ) × (k < sum_to U P) × (place_of U B P k ≡ n)
  every-place n h =
      let t = placed U P n h in (
        number_of U B P t.p t.x,
        (place_gets t.p t.x t.inside t.room).0,
        place_of-number t.p t.x t.inside t.room ∙ t.there,
      )

-- with runs of 1 the closed form is the short one
pub number-ones : (U : ℕ → ℕ) (P p x : ℕ)
    → number_of U ones P p x ≡ x + sum_to (λ q. min (U q) (x + 1)) p + sum_from (λ q. min (U q) x) (suc p) (P - suc p)
unfolding number_of
number-ones U P p x =
    rw (div-one x)
    (ap₂ (λ (a b : ℕ). x + a + b)
    (sum_same (after_turns U ones (suc x)) (λ q. min (U q) (x + 1)) p (λ q l. omega arith))
    (sum_same (λ i. after_turns U ones x (suc p + i)) (λ i. min (U (suc p + i)) x) (P - suc p) (λ i l. omega arith)))
