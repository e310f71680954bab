use native.Mathlib.Omega.{arith}
use mathlib.Core.List.{[]}
use Rattle.listing.specs.Listing.{refusal}
use Rattle.listing.proofs.refuse.Goals as goal

pub returns : goal.returns
unfolding refusal
returns c =
    let p = c.push.ensures in
    let q = c.push_pair.ensures in
    (rw c.from.ensures at (p.text _ (q.0 [] c.new-text.ensures.0)), omega (arith, p.len, q.1, c.new-text.ensures.1))
