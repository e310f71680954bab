use native.Mathlib.Omega.{arith}
use mathlib.Core.List.{[]}
use Rattle.listing.specs.Listing.{head_line}
use Rattle.listing.proofs.head_line.Goals as goal

pub returns : goal.returns
unfolding head_line
returns c =
    let n = c.new-text.ensures in
    let p = c.push_pair.ensures in
    let q = c.push_pair-2.ensures in
    let r = c.push_pair-3.ensures in
    let e = c.push.ensures in (
      rw (c.from.ensures, c.from-2.ensures, c.capacity.ensures.0) at (e.text _ (r.0 _ (q.0 _ (p.0 [] n.0)))),
      omega (arith, n.1, p.1, q.1, r.1, e.len),
    )
