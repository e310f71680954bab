use mathlib.Core.Path.{◌≡◌}
use Prim.Native.Nat.{◌+◌, ◌*◌, ◌≤◌}
use Rattle.listing.specs.Listing.{lines_to, text_of}
use Rattle.listing.proofs.list.Given as goal

abbrev pub invariant-loop-i : goal.invariant-loop-i
invariant-loop-i l = (l.text ≡ text_of (lines_to l.opened.fields l.i)) × (l.text.len ≤ 87 + 113 * l.i)
