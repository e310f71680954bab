use mathlib.Core.Path.{◌≡◌, ◌∙◌}
use mathlib.Core.Bool.{false}
use mathlib.Core.List.{List}
use Prim.Native.Nat.{ℕ, suc, ◌+◌, ◌*◌, ◌-◌, ◌^◌, ◌≤◌, ◌<◌}
use native.Mathlib.Omega.{arith}
use lib.Dec.{T}
use lib.ListN.{length, get_or}
use lib.Ieee.{Float, nan, binary32, fits}
use Rattle.laws.specs.Sums.{sum_to}
use Rattle.pattern.specs.Pattern.{copies_at, after, copies_from, Stands}
use Rattle.pattern.proofs.CountLaws.{after-stands}
use Rattle.pattern.proofs.WalkLaws.{first-apart}
use Rattle.joining.specs.declared.Heard.{Heard}
use Rattle.joining.specs.declared.Heard.TheVariants.{Once}
use Rattle.joining.specs.Joining.{value_of, Sent, FourSent}
use Rattle.joining.proofs.PlaceLaws.{once_heard}
use Rattle.joining.proofs.walking.hear_four.Goals as goal

-- the next n bits have their copies among the values from k on
record Ahead (p q : ℕ) (vs : List Float) (e k n : ℕ) : Type 0 where
  here : Stands false p q e
  small : p + q < 2 ^ 64
  room : k + sum_to (copies_from false p q e) n ≤ length vs

module _ {p q : ℕ} {vs : List Float} {e k n : ℕ} (a : Ahead p q vs e k (suc n)) where
  -- what hear_sent asks for
  asks : Stands false p q e × (p + q < 2 ^ 64) × (k + copies_at false p q e ≤ length vs)
  asks = (a.here, a.small, omega (arith, a.room, first-apart false p q e n))

  next : {h : Heard} {k' e' : ℕ} → Sent p q vs e k h k' e' → Ahead p q vs e' k' n
  next t = rw (t.1, t.2) (record { here = after-stands false p q e a.here; small = a.small; room = omega (arith, a.room, first-apart false p q e n) })

  sent-once : {k' e' : ℕ} → q < e → T (fits binary32 (get_or vs k nan)) → k' ≡ k + 1 → e' ≡ e - q → Sent p q vs e k (Once (get_or vs k nan)) k' e'
  unfolding value_of
  sent-once h t qk qe = let o = once_heard false p q e k vs h asks.2 in (o.0, qk ∙ o.1, qe ∙ o.2, t)

four-once : (p q e k : ℕ) (vs : List Float) → Ahead p q vs e k 4 → 4 * q < e → ((i : ℕ) → T (fits binary32 (get_or vs i nan)))
    → FourSent p q vs e k (Once (get_or vs k nan)) (Once (get_or vs (k + 1) nan)) (Once (get_or vs (k + 2) nan)) (Once (get_or vs (k + 3) nan)) (k + 4) (e - 4 * q)
four-once p q e k vs a h t =
    let f = sent-once a {k' = k + 1} {e' = e - q} (omega arith) (t k) (omega arith) (omega arith) in
    let b = next a f in
    let g = sent-once b {k' = k + 2} {e' = e - 2 * q} (omega arith) (t (k + 1)) (omega arith) (omega arith) in
    let c = next b g in
    let i = sent-once c {k' = k + 3} {e' = e - 3 * q} (omega arith) (t (k + 2)) (omega arith) (omega arith) in
    let j = sent-once (next c i) {k' = k + 4} {e' = e - 4 * q} (omega arith) (t (k + 3)) (omega arith) (omega arith) in
    record { ka = k + 1; ea = e - q; first = f; kb = k + 2; eb = e - 2 * q; second = g; kc = k + 3; ec = e - 3 * q; third = i; fourth = j }

-- each has a copy
four-there : {p q e k : ℕ} {vs : List Float} → Ahead p q vs e k 4 → k + 4 ≤ length vs
four-there {p} {q} {e} a =
    let e1 = after false p q e in
    let e2 = after false p q e1 in
    let e3 = after false p q e2 in
    omega (arith, a.room, first-apart false p q e 3, first-apart false p q e1 2, first-apart false p q e2 1, first-apart false p q e3 0)

-- what hear_four asks for
asked : {p q e k : ℕ} (vs : List Float) → Stands false p q e × (p + q < 2 ^ 64) × (4 * q < 2 ^ 64) × (k + sum_to (copies_from false p q e) 4 ≤ length vs)
    → Ahead p q vs e k 4
asked vs r = record { here = r.0; small = r.1; room = r.3 }

pub bounds-values-k : goal.bounds-values-k
bounds-values-k c = omega (arith, four-there (asked c.args.values.now c.requires))

pub bounds-values-k-then-four-start : goal.bounds-values-k-then-four-start
bounds-values-k-then-four-start c = omega (arith, four-there (asked c.args.values.now c.requires))

pub bounds-values-k-then-four-start-2 : goal.bounds-values-k-then-four-start-2
bounds-values-k-then-four-start-2 c = omega (arith, four-there (asked c.args.values.now c.requires))

pub bounds-values-k-then-four-start-3 : goal.bounds-values-k-then-four-start-3
bounds-values-k-then-four-start-3 c = omega (arith, four-there (asked c.args.values.now c.requires))

pub returns-then-four-start : goal.returns-then-four-start
returns-then-four-start c =
    let a = c.args in
    four-once a.p a.q a.start a.k a.values.now (asked a.values.now c.requires) (omega arith)
    c.shared_slice_known-then-four-start-4-1.given

pub hear_sent-s-requires : goal.hear_sent-s-requires
hear_sent-s-requires c = asks (asked c.args.values.now c.requires)

pub hear_sent-t-requires : goal.hear_sent-t-requires
hear_sent-t-requires c = asks (next (asked c.args.values.now c.requires) c.hear_sent-s.ensures)

pub hear_sent-u-requires : goal.hear_sent-u-requires
hear_sent-u-requires c = asks (next (next (asked c.args.values.now c.requires) c.hear_sent-s.ensures) c.hear_sent-t.ensures)

pub hear_sent-v-requires : goal.hear_sent-v-requires
hear_sent-v-requires c = asks (next (next (next (asked c.args.values.now c.requires) c.hear_sent-s.ensures) c.hear_sent-t.ensures) c.hear_sent-u.ensures)
