-- The walk over the turns of step 8.
use mathlib.Core.Path.{◌≡◌, refl, sym, ap, ◌∙◌}
use mathlib.Core.List.{List}
use Prim.Native.Nat.{ℕ, suc, ◌+◌, ◌*◌, ◌-◌, ◌≤◌, ◌<◌}
use native.Mathlib.Numerals.{add-one}
use native.Mathlib.Omega.{arith}
use lib.ListN.{get_or, set, replicate, length-replicate}
use Rattle.laws.specs.Sums.{sum_to}
use Rattle.laws.specs.Filling.{Filling}
use Rattle.laws.proofs.FillingLaws.{filling_next}
use Rattle.laws.proofs.TestLaws.{split}
use Rattle.orders.specs.Orders.{order}
use Rattle.interleaving.specs.Columns.{height}
use Rattle.interleaving.specs.Second.{read_before, comes_from}
use Rattle.interleaving.specs.Turns.{Turned, Seated}
use Rattle.interleaving.specs.declared.second.Seat.{Seat}
use Rattle.interleaving.proofs.SecondLaws.{read_suc, read_all, read_within, source_row}

-- ---- where the turns begin

begins_starts : (K : ℕ) → Filling 0 (read_before K) (λ t. t) 31 (replicate 31 0) 1
unfolding sum_to
begins_starts K =
    record { long = length-replicate {A = ℕ} 31 0; each = λ t b h. let e : t ≡ 0 = omega arith in rw e refl }

-- the beginnings of the turns up to t are known
pub record Begins (K : ℕ) (begins : List ℕ) (t : ℕ) : Type 0 where
  pub some : t ≤ 30
  pub filling : Filling 0 (read_before K) (λ s. s) 31 begins (t + 1)

pub begins-none : (K : ℕ) → Begins K (replicate 31 0) 0
begins-none K = record { some = omega arith; filling = begins_starts K }

module _ {K t : ℕ} {begins : List ℕ} (b : Begins K begins t) where
  pub begins-at : get_or begins t 0 ≡ read_before K t
  begins-at = b.filling.each t (omega (arith, b.some)) (omega arith)

  pub begins-next : {h x : ℕ} → t < 30 → h ≡ height 30 K (get_or order t 0) → x ≡ get_or begins t 0 + h → Begins K (set begins (t + 1) x) (t + 1)
  begins-next {h} {x} l e q =
      record { some = omega arith; filling = filling_next b.filling x (omega arith) (rw (add-one t) (omega (arith, q, e, begins-at, read_suc K t))) }

-- past a turn there is another
pub turn_more : {K k t : ℕ} {begins : List ℕ} → Turned K begins → t < 30 → k < K → get_or begins (t + 1) 0 ≤ k → (t + 1 < 30) × (read_before K (t + 1) ≤ k)
turn_more {K} {k} {t} b h l m =
    let e = b.each (t + 1) (omega arith) in
    split t 28 (λ le. (omega arith, omega (arith, e)))
    (λ lt. let q : t + 1 ≡ 30 = omega arith in absurd (omega (arith, e, ap (read_before K) q, read_all K)))

-- the turn of an index gives its seat
pub seated : {K k : ℕ} {begins : List ℕ} {s : Seat} → Turned K begins → s.turn < 30 → read_before K s.turn ≤ k → k < read_before K (s.turn + 1)
    → s.from ≡ 30 * (k - get_or begins s.turn 0) + get_or order s.turn 0 → s.end ≡ get_or begins (s.turn + 1) 0 → Seated K k s
seated {K} {k} {begins} {s} b h low high from end =
    let t = s.turn in
    let e : s.end ≡ read_before K (suc t) = end ∙ b.each (t + 1) (omega arith) ∙ ap (read_before K) (add-one t) in
    let u : k < read_before K (suc t) = rw (add-one t) at high in
    let g = b.each t (omega arith) in
    record {
      turn = h;
      begun = low;
      inside = omega (arith, e, u);
      last = omega (arith, e, read_within K (suc t) (omega arith));
      from = from ∙ omega (arith, g, source_row K t k h low u);
      row = λ j n l m. omega (arith, source_row K t (j + n) h (omega arith) (omega (arith, e)), source_row K t j h l (omega (arith, e)));
    }

-- the walk back: index j lies in turn t or past it, left elements further
pub record Passing (K j t c h left : ℕ) : Type 0 where
  pub turn : t < 30
  pub column : c ≡ get_or order t 0
  pub high : h ≡ height 30 K c
  pub index : read_before K t + left ≡ j

pub passing_starts : (K j : ℕ) {c h : ℕ} → c ≡ get_or order 0 0 → h ≡ height 30 K c → Passing K j 0 c h j
unfolding sum_to
passing_starts K j e q = record { turn = omega arith; column = e; high = q; index = omega arith }

module _ {K j t c h left : ℕ} (p : Passing K j t c h left) where
  -- the turn's elements
  passing_high : read_before K (suc t) ≡ read_before K t + h
  passing_high = read_suc K t ∙ ap (λ (n : ℕ). read_before K t + n) (ap (height 30 K) (sym p.column) ∙ sym p.high)

  module _ (l : j < K) where
    -- past the turn there is another
    pub passing_more : h ≤ left → t + 1 < 30
    passing_more b =
        split t 28 (λ le. omega arith)
        (λ lt.
        let e : suc t ≡ 30 = omega (arith, p.turn) in
        absurd (omega (arith, p.index, passing_high, ap (read_before K) e, read_all K)))

    pub passing_next : h ≤ left → {d g : ℕ} → d ≡ get_or order (t + 1) 0 → g ≡ height 30 K d → Passing K j (t + 1) d g (left - h)
    passing_next b e q =
        record { turn = passing_more b; column = e; high = q; index = rw (add-one t) (omega (arith, p.index, passing_high)) }

    -- within the turn
    pub passing_ends : left < h → 30 * left + c ≡ comes_from K j
    passing_ends b =
        sym (source_row K t j p.turn (omega (arith, p.index)) (omega (arith, p.index, passing_high)) ∙ omega (arith, p.index, p.column))
