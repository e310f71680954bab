use mathlib.Core.Path.{◌≡◌, sym, ap, ◌∙◌, subst}
use mathlib.Core.Bool.{false, false≢true}
use Prim.Native.Nat.{ℕ, suc, ◌-◌, ◌<◌}
use native.Mathlib.Omega.{arith}
use lib.ListN.{take, drop}
use Rattle.pattern.specs.Pattern.{grown, Stands}
use Rattle.pattern.proofs.CountLaws.{grown_bounds}
use Rattle.joining.specs.Joining.{raw_of, clipped_of, join_of}
use Rattle.joining.proofs.JoinLaws.{raw_none}
use Rattle.joining.proofs.hearing.hear_at.Goals as goal

-- an e that goes from 1 by 1 grows once for each copy after the first
by_one : (q : ℕ) → Stands false 1 q 1
by_one q = record { above = omega arith; top = omega arith; most = λ h. absurd (false≢true h) }

all-copies : (n : ℕ) → 0 < n → suc (grown false 1 (n - 1) 1) ≡ n
all-copies n h = omega (arith, grown_bounds false 1 (n - 1) 1 (by_one (n - 1)))

pub returns-then-copies-eq0 : goal.returns-then-copies-eq0
unfolding clipped_of join_of
returns-then-copies-eq0 c = let a = c.args in sym (ap clipped_of (raw_none a.values.now a.from a.copies c.if-copies-eq0.true))

pub hear_sent-t-requires : goal.hear_sent-t-requires
hear_sent-t-requires c =
    let n = c.args.copies in
    (by_one (n - 1), omega arith, omega (arith, all-copies n (omega arith)))

pub returns : goal.returns
unfolding join_of
returns c =
    let h = c.hear_sent-t in
    let a = c.args in
    c.clip_heard.ensures
    ∙ ap clipped_of
    (subst (λ (n : ℕ). h.result.heard ≡ raw_of (take n (drop a.from a.values.now))) (all-copies a.copies (omega arith)) h.ensures.0)
