use native.Mathlib.Omega.{arith}
use mathlib.Core.Path.{ap, ◌∙◌}
use Prim.Native.Nat.{ℕ}
use lib.ListN.{get_or}
use Rattle.opening.proofs.OpenLaws.{last-is, capacity_most}
use Rattle.opening.proofs.Opened.capacity.Goals as goal

pub returns : goal.returns
returns c =
    let o = c.args.self.now in
    let e = c.from-2.ensures ∙ ap (λ (i : ℕ). get_or o.cuts i 0) c.from.ensures ∙ last-is o in
    (e, omega (arith, e, capacity_most o.fields o.accepted))
