use mathlib.Core.Path.{ap₂}
use Prim.Native.Nat.{◌*◌, ◌≤◌}
use native.Mathlib.Nat.{mul-le-mul}
use native.Mathlib.Omega.{arith}
use Rattle.sheet.specs.Counts.{most_slots, most_codes, most_capacity}
use Rattle.sheet.proofs.SizeLaws.{places-most}
use Rattle.sheet.proofs.Sheet.frame_places.Goals as goal

pub overflow_mul-result : goal.overflow_mul-result
overflow_mul-result c =
    let w : c.args.w ≤ most_slots * (most_codes * most_capacity) = omega (arith, c.requires.1, places-most c.args.self.now c.requires.0) in
    omega (arith, mul-le-mul c.subframes.ensures.2 w)

pub returns : goal.returns
returns c = ap₂ ◌*◌ c.subframes.ensures.0 c.requires.1
