-- The walk that lays a channel's segments down their columns: what holds before value i, and what one value does to it.
use mathlib.Core.Path.{◌≡◌, refl, sym, ap, ◌∙◌}
use mathlib.Core.List.{List}
use Prim.Native.Nat.{ℕ, suc, ◌+◌, ◌*◌, ◌-◌, ◌≤◌, ◌<◌}
use native.Mathlib.Nat.{suc-mul, zero-mul}
use native.Mathlib.Numerals.{add-one}
use native.Mathlib.Omega.{arith}
use lib.Ieee.{Float, nan}
use lib.ListN.{length, get_or, set}
use Rattle.laws.specs.Filling.{Filling}
use Rattle.laws.proofs.FillingLaws.{filling_starts, filling_put, filling_skip, filling_ends}
use Rattle.laws.proofs.TestLaws.{split}
use Rattle.sheet.specs.Sizes.{frames_in}
use Rattle.orders.specs.Orders.{column_at}
use Rattle.interleaving.specs.First.{seat, finished, Finishing}
use Rattle.interleaving.proofs.FinishLaws.{seat-below, seat_of_lem, seat_once, seat-after}

-- out, of e values, has those that stand before i in part
pub record Settled (part : List Float) (tti n e : ℕ) (out : List Float) (i : ℕ) : Type 0 where
  pub lent : Finishing tti n (length part) e
  pub filling : Filling nan (λ k. get_or part (seat tti n k) nan) (seat tti n) e out i

-- in segment s, value i goes to k
pub record Laying (part : List Float) (tti n e : ℕ) (out : List Float) (s i k : ℕ) : Type 0 where
  pub settled : Settled part tti n e out i
  pub inside : s < frames_in tti
  pub from : s * n ≤ i
  pub index : k ≡ (i - s * n) * frames_in tti + column_at tti s

pub starts : (part : List Float) (tti n : ℕ) (out : List Float) → Finishing tti n (length part) (length out) → Settled part tti n (length out) out (0 * n)
starts part tti n out h = record { lent = h; filling = rw (zero-mul n) (filling_starts out refl) }

-- the number of values, said otherwise
pub resized : {part : List Float} {tti n e e' : ℕ} {out : List Float} {i : ℕ} → Settled part tti n e out i → e ≡ e' → Settled part tti n e' out i
resized l q = rw q at l

module _ {part : List Float} {tti n e : ℕ} {out : List Float} where
  pub enters : {s p : ℕ} → Settled part tti n e out (s * n) → s < frames_in tti → p ≡ column_at tti s → Laying part tti n e out s (s * n) p
  enters {s} l h q =
      let z : s * n - s * n ≡ 0 = omega arith in
      record { settled = l; inside = h; from = omega arith; index = rw z (omega (arith, q, zero-mul (frames_in tti))) }

  module _ {s i k : ℕ} (g : Laying part tti n e out s i k) where
    pub long : length out ≡ e
    long = g.settled.filling.long

    here : seat tti n k ≡ i
    here =
        ap (seat tti n) g.index ∙ seat_of_lem tti g.settled.lent.known n s (i - s * n) g.inside ∙ omega (arith, g.from)

    module _ (h : k < e) where
      held : k < frames_in tti * n
      held = omega (arith, g.settled.lent.fits)

      pub reads_in : i < length part
      reads_in = omega (arith, here, seat-below tti g.settled.lent.known n k held, g.settled.lent.whole)

      pub put : {f : ℕ} → f ≡ frames_in tti → Laying part tti n e (set out k (get_or part i nan)) s (i + 1) (k + f)
      put q =
          let z : i + 1 - s * n ≡ suc (i - s * n) = omega (arith, g.from) in
          record {
            settled =
                record {
                  lent = g.settled.lent;
                  filling =
                      filling_put g.settled.filling k (get_or part i nan) h
                      (λ j l w. seat_once tti g.settled.lent.known n j k (omega (arith, g.settled.lent.fits)) held (w ∙ sym here))
                      (ap (λ (a : ℕ). get_or part a nan) (sym here))
                      here;
                };
            inside = g.inside;
            from = omega (arith, g.from);
            index = rw z (omega (arith, g.index, q, suc-mul (i - s * n) (frames_in tti)));
          }

    -- the column has no more room
    pub leaves : e ≤ k → Settled part tti n e out ((s + 1) * n)
    leaves h =
        record {
          lent = g.settled.lent;
          filling =
              filling_skip g.settled.filling ((s + 1) * n)
              (λ j l b.
              split i (seat tti n j)
              (λ le.
              absurd
              (omega (
                arith,
                g.index,
                seat-after tti g.settled.lent.known n s (i - s * n) j (omega (arith, g.settled.lent.fits)) (omega (arith, g.from)) (rw (add-one s) at b),
              )))
              (λ lt. lt));
        }

pub ends : {part : List Float} {tti n e : ℕ} {out : List Float} {s : ℕ} → Settled part tti n e out (s * n) → s ≡ frames_in tti → out ≡ finished nan tti n e part
unfolding finished
ends {tti = tti} {n = n} l q =
    filling_ends l.filling
    (λ j b. omega (arith, ap (λ (x : ℕ). x * n) q, seat-below tti l.lent.known n j (omega (arith, l.lent.fits))))
