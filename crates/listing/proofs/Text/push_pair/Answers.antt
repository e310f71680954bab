use native.Mathlib.Omega.{arith}
use Rattle.listing.proofs.Text.push_pair.Goals as goal

pub returns : goal.returns
returns c =
    let p = c.push.ensures in
    let q = c.push_number.ensures.0 in
    (λ l e. q.text _ (p.text l e), omega (arith, p.len, q.len, c.push_number.ensures.1))
