-- What holds of each value of a segment that comes home, where it holds of all values sent of it.
use mathlib.Core.Path.{◌≡◌, refl}
use mathlib.Core.Bool.{Bool, false}
use mathlib.Core.List.{List, [], map}
use Prim.Native.Nat.{ℕ, zero, suc, ◌*◌, ◌≤◌, ◌<◌}
use native.Mathlib.Omega.{arith}
use lib.IntN.{ℤ, nat_abs}
use lib.ListN.{length, get_or, drop, length-take, length-drop}
use lib.Ieee.{Float, nan, inf, fin, is_nan}
use Rattle.laws.specs.FirstFail.{first_fail, NoneFails}
use Rattle.laws.proofs.FirstFailLaws.{none-take, none-drop}
use Rattle.sheet.specs.Counts.{most_bits}
use Rattle.pattern.specs.Pattern.{copies_at, after, shared_from, negative, shared}
use Rattle.joining.specs.Joining.{home_of}
use Rattle.joining.specs.Whole.{Whole, small_whole, whole_of, total, bound, bounded, Under}
use Rattle.joining.proofs.HomeLaws.{home_shared}
use Rattle.joining.proofs.WholeLaws.{join_exact}
use Rattle.joining.proofs.MadeLaws.{join_under}

-- a bit's values are among those sent
pub record Among {A : Type 0} (ok : A → Bool) (vs part : List A) : Type 0 where
  pub none : NoneFails ok part
  pub few : length part ≤ length vs

among-from : {A : Type 0} (ok : A → Bool) (less : Bool) (P D e n j : ℕ) (vs : List A) → NoneFails ok vs
    → Among ok vs (get_or (shared_from less P D e n vs) j [])
unfolding first_fail shared_from
among-from ok less P D e zero j vs h = record { none = refl; few = omega arith }
among-from ok less P D e (suc n) zero vs h = record { none = none-take ok (copies_at less P D e) vs h; few = rw length-take (omega arith) }
among-from ok less P D e (suc n) (suc j) vs h =
    let c = copies_at less P D e in
    let r = among-from ok less P D (after less P D e) n j (drop c vs) (none-drop ok c vs h) in
    record { none = r.none; few = omega (arith, r.few, length-drop c vs) }

pub among : {A : Type 0} (ok : A → Bool) (d : ℤ) (N e j : ℕ) (vs : List A) → NoneFails ok vs → Among ok vs (get_or (shared d N e vs) j [])
unfolding shared
among ok d N e j vs h = among-from ok (negative d) (2 * N) (2 * nat_abs d) e N j vs h

-- whole values of at most 255 in magnitude: each joined value is the exact whole sum of the bit's copies, clipped
pub home_exact : (d : ℤ) (N e j : ℕ) (vs : List Float) (z : Float) → NoneFails small_whole vs → length vs ≤ most_bits → j < N
    → Whole (get_or (home_of d N e vs) j z) (bounded (total (map whole_of (get_or (shared d N e vs) j []))))
home_exact d N e j vs z h l k =
    let a = among small_whole d N e j vs h in
    rw (home_shared d N e j vs z k) (join_exact (get_or (shared d N e vs) j []) a.none (omega (arith, a.few)))

-- each joined value is finite, and at most 1,024 in magnitude
pub home_under : (d : ℤ) (N e j : ℕ) (vs : List Float) (z : Float) → j < N → Under (get_or (home_of d N e vs) j z) bound
home_under d N e j vs z k = rw (home_shared d N e j vs z k) (join_under (get_or (shared d N e vs) j []))

-- and no NaN
pub under_number : (x : Float) (n : ℕ) → Under x n → is_nan x ≡ false
unfolding is_nan
under_number nan n u = absurd u
under_number (inf s) n u = refl
under_number (fin s m e) n u = refl
