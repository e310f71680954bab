use mathlib.Core.Path.{◌≡◌, refl, sym, ap, ◌∙◌, subst}
use mathlib.Core.Bool.{false, false≢true}
use mathlib.Core.List.{List, [], ◌∷◌, map}
use Prim.Native.Nat.{ℕ, ◌+◌, ◌*◌, ◌-◌, ◌^◌, ◌≤◌, ◌<◌}
use native.Mathlib.Omega.{arith}
use lib.ListN.{length, take, drop, length-drop}
use lib.Seq.{length-take-le}
use lib.Ieee.{Float}
use Rattle.laws.specs.Sums.{sum_to}
use Rattle.laws.proofs.SumLaws.{sum_join}
use Rattle.matching.specs.Signed.{signed_by}
use Rattle.pattern.specs.Pattern.{copies_at, copies_from, shared_from, Stands}
use Rattle.joining.specs.declared.Heard.{Heard}
use Rattle.joining.specs.declared.linking.Link.{Link}
use Rattle.joining.specs.Joining.{clipped_of, join_of, value_of, heard_of, Sent}
use Rattle.joining.specs.Linked.{link_of, with_heard}
use Rattle.joining.proofs.ClipLaws.{clip_heard, clip_fits}
use Rattle.joining.proofs.HomeLaws.{heard_by}
use Rattle.joining.proofs.PlaceLaws.{Place, left, place-start, place-room, place-next, left_next}
use Rattle.joining.proofs.LinkLaws.{link_none, Surveying, survey_start, survey_turn, survey_end}
use Rattle.joining.proofs.LaneLaws.{Voiced, voiced, none_dealt, deal_start, deal_a, deal_b, deal_c, deal_d}
use Rattle.joining.proofs.linking.link_sent.Invariants.{Held, InLanes}
use Rattle.joining.proofs.linking.link_sent.Goals as goal

record Next (m n : ℕ) (vs : List Float) (e k i e' k' : ℕ) (h : Heard) : Type 0 where
  place : Place false m n vs e' k' (i + 1)
  bits : map join_of (left false m n vs e k i) ≡ clipped_of h ∷ map join_of (left false m n vs e' k' (i + 1))
  voice : Voiced (clipped_of h)

hears : {m n e k i e' k' : ℕ} {vs : List Float} {h : Heard} → Place false m n vs e k i → i < n → Sent (2 * n) (2 * m) vs e k h k' e' → Next m n vs e k i e' k' h
unfolding join_of
hears {m} {n} {e} {k} {vs = vs} {h = h} p b t =
    let c = copies_at false (2 * n) (2 * m) e in
    let l = length-take-le c (drop k vs) (rw length-drop (omega (arith, place-room p b))) in
    let next = ap (map join_of) (left_next p b t.1 t.2) in
    let q : clipped_of h ≡ join_of (take c (drop k vs)) = ap clipped_of t.0 in
    record { place = place-next p b t.1 t.2; bits = rw (← q) at next; voice = voiced (take c (drop k vs)) q (omega (arith, l)) (rw (clip_heard h) (clip_fits (value_of h) t.3)) }

-- what hear_sent asks for
asks : {m n e k i : ℕ} {vs : List Float} → Place false m n vs e k i → i < n
    → Stands false (2 * n) (2 * m) e × (2 * n + 2 * m < 2 ^ 64) × (k + copies_at false (2 * n) (2 * m) e ≤ length vs)
asks p b = (p.here, omega (arith, p.few, p.most), place-room p b)

-- and hear_four, of the four bits of a turn
asks-four : {m n e k i last : ℕ} {vs : List Float} → Place false m n vs e k i → i < last → last ≤ n - 3
    → Stands false (2 * n) (2 * m) e × (2 * n + 2 * m < 2 ^ 64) × (4 * (2 * m) < 2 ^ 64) × (k + sum_to (copies_from false (2 * n) (2 * m) e) 4 ≤ length vs)
asks-four {m} {n} {e} {i = i} p h l =
    let f = copies_from false (2 * n) (2 * m) e in
    let q : n - i ≡ 4 + (n - i - 4) = omega arith in
    (p.here, omega (arith, p.few, p.most), omega (arith, p.most), omega (arith, p.rest, ap (sum_to f) q, sum_join f 4 (n - i - 4)))

-- they are there, and fewer are left
there : (i last n : ℕ) → i < last → last ≤ n - 3 → (i < n) × (i + 1 < n) × (i + 1 + 1 < n) × (i + 1 + 1 + 1 < n) × (n - (i + 4) < n - i)
there i last n h k = (omega arith, omega arith, omega arith, omega arith, omega arith)

turn : {m n e k i e' k' : ℕ} {vs : List Float} {all : List Heard} {l l' : Link} {h : Heard} → Held m n vs all l e k i → i < n
    → Sent (2 * n) (2 * m) vs e k h k' e' → l' ≡ with_heard l i (clipped_of h) → Held m n vs all l' e' k' (i + 1)
turn w b t q = let x = hears w.0 b t in (x.place, survey_turn w.1 x.bits q)

done : {m n e k i : ℕ} {vs : List Float} {all : List Heard} {l : Link} → Held m n vs all l e k i → n ≤ i → l ≡ link_of all
done {n = n} {i = i} w h = let z : n - i ≡ 0 = omega arith in survey_end w.1 (rw z (unfold shared_from in refl))

pub returns-then-n-eq0 : goal.returns-then-n-eq0
unfolding shared_from
returns-then-n-eq0 c =
    let a = c.args in
    c.new.ensures
    ∙ sym (ap link_of (heard_by false a.m a.n a.start a.values.now (λ q. absurd (false≢true q)) ∙ ap (λ (n : ℕ). map join_of (shared_from false (2 * a.n) (2 * a.m) a.start n a.values.now)) c.if-n-eq0.true))

pub hear_sent-first-requires : goal.hear_sent-first-requires
hear_sent-first-requires c =
    let a = c.args in
    let some : 0 < a.n = omega arith in
    let p = place-start false a.m a.n a.start a.values.now c.requires.0 (c.requires.1 some) (λ q. absurd (false≢true q)) in
    asks p some

pub with-requires : goal.with-requires
with-requires c = omega (arith, (survey_start [] c.new-2.ensures).counted)

pub loop-i-init : goal.loop-i-init
loop-i-init c =
    let a = c.args in
    let v = a.values.now in
    let z : a.n - 0 ≡ a.n = omega arith in
    let some : 0 < a.n = omega arith in
    let p = place-start false a.m a.n a.start v c.requires.0 (c.requires.1 some) (λ q. absurd (false≢true q)) in
    let all = heard_of (signed_by false a.m) a.n a.start v in
    let new = c.new-2 in
    let s : Surveying all new.result 0 (map join_of (left false a.m a.n v a.start 0 0)) =
    rw (z, ← heard_by false a.m a.n a.start v (λ q. absurd (false≢true q))) (survey_start all new.ensures) in
    let h = c.hear_sent-first in
    let x = hears p some h.ensures in
    let w = turn (p, s) some h.ensures c.with.ensures in
    let d = deal_start new.result (clipped_of h.result.heard) (ap (λ (l : Link). l.punctured) (new.ensures ∙ link_none)) c.with.ensures x.voice c.new-w.ensures w.1 in
    (x.place, d, omega arith)

pub hear_four-s-requires : goal.hear_four-s-requires
hear_four-s-requires c = let l = c.loop-i in asks-four l.invariant.0 c.loop-i-test.true l.invariant.2

pub with-w-requires : goal.with-w-requires
with-w-requires c =
    let d = none_dealt c.loop-i.invariant.1 in
    (omega arith, omega arith, omega arith, omega arith, omega arith)

pub overflow_add-i : goal.overflow_add-i
overflow_add-i c = let l = c.loop-i in omega (arith, c.loop-i-test.true, l.invariant.0.few, l.invariant.2)

pub loop-i-smaller : goal.loop-i-smaller
loop-i-smaller c =
    let l = c.loop-i in
    let n = c.args.n in
    (there l.i c.saturating_sub-last.result n c.loop-i-test.true l.invariant.2).4

pub loop-i-preserved : goal.loop-i-preserved
loop-i-preserved c =
    let l = c.loop-i in
    let a = c.args in
    let v = a.values.now in
    let all = heard_of (signed_by false a.m) a.n a.start v in
    let h = c.hear_four-s in
    let last = c.saturating_sub-last.result in
    let b = there l.i last a.n c.loop-i-test.true l.invariant.2 in
    let x = hears l.invariant.0 b.0 h.ensures.first in
    let y = hears x.place b.1 h.ensures.second in
    let z = hears y.place b.2 h.ensures.third in
    let t = hears z.place b.3 h.ensures.fourth in
    let r = c.with-w.ensures in
    let da = deal_a l.invariant.1 x.bits x.voice l.invariant.1.some r.0 in
    let db = deal_b da y.bits y.voice (omega arith) r.1 in
    let dc = deal_c db z.bits z.voice (omega arith) r.2 in
    let dd = deal_d dc t.bits t.voice (omega arith) r.3 in
    let w = c.with-w.result in
    let four : l.i + 1 + 1 + 1 + 1 ≡ l.i + 4 = omega arith in
    subst (InLanes a.m a.n v all last w.a w.b w.c w.d h.result.e h.result.next) four (t.place, dd, l.invariant.2)

pub loop-bit-init : goal.loop-bit-init
loop-bit-init c =
    let l = c.loop-i in
    (l.invariant.0, rw c.whole-l.ensures l.invariant.1.whole)

pub hear_sent-t-requires : goal.hear_sent-t-requires
hear_sent-t-requires c =
    let p = c.loop-bit.invariant.0 in
    asks p (omega arith)

pub with-l-requires : goal.with-l-requires
with-l-requires c = let l = c.loop-bit in omega (arith, l.invariant.1.counted, l.invariant.0.few)

pub loop-bit-preserved : goal.loop-bit-preserved
loop-bit-preserved c =
    let l = c.loop-bit in
    turn l.invariant (omega arith) c.hear_sent-t.ensures c.with-l.ensures

pub returns : goal.returns
returns c = done c.loop-bit.invariant (omega arith)
