use native.Mathlib.Omega.{arith}
use mathlib.Core.List.{map}
use mathlib.Core.Path.{sym, ◌∙◌}
use lib.Ieee.{nan}
use lib.ListN.{length-map}
use Rattle.std.proofs.lemmas.List.{get_or-map}
use lib.Seq.{ext_get_or}
use Rattle.joining.specs.Joining.{clipped}
use Rattle.joining.proofs.filling.copy_values.Goals as goal

pub returns : goal.returns
returns c =
    let l = c.loop-i in
    let v = c.args.values.now in
    ext_get_or nan l.segment (map clipped v) (omega (arith, length-map v clipped)) (λ k h. l.invariant k (omega arith) ∙ sym (get_or-map clipped v k nan nan (omega arith)))
