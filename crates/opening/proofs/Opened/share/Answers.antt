use native.Mathlib.Omega.{arith}
use mathlib.Core.Path.{ap₂, ◌∙◌}
use Prim.Native.Nat.{◌-◌}
use Rattle.opening.proofs.OpenLaws.{low-is, high_is, cut_rises}
use Rattle.opening.proofs.Opened.share.Goals as goal

pub overflow_sub-self : goal.overflow_sub-self
overflow_sub-self c = omega (arith, cut_rises c.args.self.now c.args.i c.requires)

pub returns : goal.returns
returns c =
    let a = c.args in
    c.from.ensures ∙ ap₂ ◌-◌ (high_is a.self.now a.i c.requires) (low-is a.self.now a.i c.requires)
