-- The walk over the values sent of a segment: where e stands before bit i, which values are left, and what one bit does to both.
use mathlib.Core.Path.{◌≡◌, sym, ap}
use mathlib.Core.Bool.{Bool, true, false}
use mathlib.Core.List.{List, ◌∷◌}
use Prim.Native.Nat.{ℕ, suc, ◌+◌, ◌*◌, ◌-◌, ◌≤◌, ◌<◌}
use native.Mathlib.Omega.{arith}
use lib.ListN.{length, get_or, take, drop}
use lib.Seq.{drop-drop}
use lib.Ieee.{Float, nan}
use Rattle.laws.specs.Sums.{sum_to}
use Rattle.sheet.specs.Counts.{most_encoded, most_bits}
use Rattle.pattern.specs.Pattern.{grown, copies_at, after, copies_from, shared_from, Stands, Segment}
use Rattle.pattern.proofs.CountLaws.{again-more, grown_no, after-stands}
use Rattle.pattern.proofs.WalkLaws.{first-apart}
use Rattle.pattern.proofs.SegmentLaws.{sized_copies}
use Rattle.joining.specs.declared.Heard.TheVariants.{Once}
use Rattle.joining.specs.Joining.{raw_of}
use Rattle.joining.proofs.JoinLaws.{raw_one}

-- ---- one bit

-- e does not grow: the bit is sent once
pub once : (less : Bool) (p q e : ℕ) → q < e → (copies_at less p q e ≡ 1) × (after less p q e ≡ e - q)
once less p q e h = let g = ap (λ (n : ℕ). n * p) (grown_no less p q e h) in (go less, omega arith)
  where
    go : (less : Bool) → copies_at less p q e ≡ 1
    go true = omega (arith, grown_no true p q e h)
    go false = omega (arith, grown_no false p q e h)

-- what was heard of it, where its copies are those from k on, where those of the next bit begin, and e as that bit finds it
pub once_heard : (less : Bool) (p q e k : ℕ) (vs : List Float) → q < e → k + copies_at less p q e ≤ length vs
    → (Once (get_or vs k nan) ≡ raw_of (take (copies_at less p q e) (drop k vs))) × (k + 1 ≡ k + copies_at less p q e) × (e - q ≡ after less p q e)
once_heard less p q e k vs h r =
    let o = once less p q e h in
    (sym (raw_one vs k (copies_at less p q e) o.0 (omega arith)), omega arith, sym o.1)

-- it grows: once more than from e + p on
pub more : (p q e : ℕ) → 0 < p → 0 < e → e ≤ q → grown false p q e ≡ suc (grown false p q (e + p))
unfolding grown
more p q e h k l = again-more p q e h k l

-- ---- the walk

-- the values from k on are those of the bits from i on
pub record Place (less : Bool) (m N : ℕ) (vs : List Float) (e k i : ℕ) : Type 0 where
  pub few : N ≤ most_encoded
  pub most : m ≤ most_bits
  pub upto : i ≤ N
  pub here : Stands less (2 * N) (2 * m) e
  pub rest : k + sum_to (copies_from less (2 * N) (2 * m) e) (N - i) ≡ length vs

pub place-start : (less : Bool) (m N e : ℕ) (vs : List Float) → Segment less m N (length vs) e → Stands less (2 * N) (2 * m) e → (less ≡ true → 0 < m)
    → Place less m N vs e 0 0
place-start less m N e vs s b h =
    let q : N - 0 ≡ N = omega arith in
    record {
      few = s.few;
      most = s.most;
      upto = omega arith;
      here = b;
      rest = rw q (omega (arith, sized_copies less m N (length vs) e s h));
    }

-- what the bits from i on get of the values from k on
abbrev pub left : Bool → ℕ → ℕ → List Float → ℕ → ℕ → ℕ → List (List Float)
left less m N vs e k i = shared_from less (2 * N) (2 * m) e (N - i) (drop k vs)

module _ {less : Bool} {m N : ℕ} {vs : List Float} {e k i : ℕ} (p : Place less m N vs e k i) (h : i < N) where
  apart : let P = 2 * N in let D = 2 * m in
      k + (copies_at less P D e + sum_to (copies_from less P D (after less P D e)) (N - (i + 1))) ≡ length vs
  apart =
      let q : N - i ≡ suc (N - (i + 1)) = omega arith in
      omega (arith, p.rest, ap (sum_to (copies_from less (2 * N) (2 * m) e)) q, first-apart less (2 * N) (2 * m) e (N - (i + 1)))

  pub place-room : k + copies_at less (2 * N) (2 * m) e ≤ length vs
  place-room = omega (arith, apart)

  -- the copies of the next bit begin at k', and e' is e as that bit finds it
  module _ {k' e' : ℕ} (qk : k' ≡ k + copies_at less (2 * N) (2 * m) e) (qe : e' ≡ after less (2 * N) (2 * m) e) where
    pub place-next : Place less m N vs e' k' (i + 1)
    place-next =
        rw (qk, qe)
        (record {
          few = p.few;
          most = p.most;
          upto = omega arith;
          here = after-stands less (2 * N) (2 * m) e p.here;
          rest = omega (arith, apart);
        })

    pub left_next : left less m N vs e k i ≡ take (copies_at less (2 * N) (2 * m) e) (drop k vs) ∷ left less m N vs e' k' (i + 1)
    unfolding shared_from
    left_next =
        let q : N - i ≡ suc (N - (i + 1)) = omega arith in
        rw (q, qk, qe, ← drop-drop (copies_at less (2 * N) (2 * m) e) k vs)
