use mathlib.Core.Bool.{false}
use mathlib.Core.List.{List, map}
use Prim.Native.Nat.{ℕ, ◌-◌, ◌≤◌}
use lib.Ieee.{Float}
use Rattle.matching.specs.Signed.{signed_by}
use Rattle.joining.specs.declared.Heard.{Heard}
use Rattle.joining.specs.declared.linking.Link.{Link}
use Rattle.joining.specs.Joining.{join_of, heard_of}
use Rattle.joining.proofs.PlaceLaws.{Place, left}
use Rattle.joining.proofs.LinkLaws.{Surveying}
use Rattle.joining.proofs.LaneLaws.{Dealt}
use Rattle.joining.proofs.linking.link_sent.Given as goal

-- l has the first i bits
abbrev pub Held : ℕ → ℕ → List Float → List Heard → Link → ℕ → ℕ → ℕ → Type 0
Held m n vs all l e k i = Place false m n vs e k i × Surveying all l i (map join_of (left false m n vs e k i))

-- and so have the lanes
abbrev pub InLanes : ℕ → ℕ → List Float → List Heard → ℕ → Link → Link → Link → Link → ℕ → ℕ → ℕ → Type 0
InLanes m n vs all last a b c d e k i = Place false m n vs e k i × Dealt all a b c d i (map join_of (left false m n vs e k i)) × (last ≤ n - 3)

abbrev pub invariant-loop-i : goal.invariant-loop-i
invariant-loop-i l = InLanes l.m l.n l.values (heard_of (signed_by false l.m) l.n l.start l.values) l.last l.w.a l.w.b l.w.c l.w.d l.e l.k l.i

abbrev pub decreases-loop-i : goal.decreases-loop-i
decreases-loop-i l = l.n - l.i

abbrev pub invariant-loop-bit : goal.invariant-loop-bit
invariant-loop-bit l = Held l.m l.n l.values (heard_of (signed_by false l.m) l.n l.start l.values) l.l l.e l.k l.bit
