use mathlib.Core.Path.{◌≡◌}
use mathlib.Core.Bool.{false}
use Prim.Native.Nat.{suc, ◌+◌, ◌*◌, ◌-◌, ◌≤◌, ◌<◌}
use lib.Dec.{T}
use lib.ListN.{length, get_or}
use lib.Ieee.{nan, binary32, fits}
use Rattle.pattern.specs.Pattern.{grown}
use Rattle.joining.proofs.JoinLaws.{summed}
use Rattle.joining.proofs.walking.hear_sent.Given as goal

-- what is added and what is still to be added make the sum, and the same of the copies and of e
abbrev pub invariant-loop-e : goal.invariant-loop-e
invariant-loop-e l =
    let end = l.k + suc (grown false l.p l.q l.start) in
    (l.k < l.next) × (l.e ≤ l.q + l.p) × (0 < l.e) × (end ≤ length l.values) × (end ≡ l.next + grown false l.p l.q l.e)
    × (l.start + grown false l.p l.q l.start * l.p ≡ l.e + grown false l.p l.q l.e * l.p)
    × (summed l.values l.sum l.next end ≡ summed l.values (get_or l.values l.k nan) (l.k + 1) end)
    × T (fits binary32 l.sum)

abbrev pub decreases-loop-e : goal.decreases-loop-e
decreases-loop-e l = l.q + 1 - l.e
