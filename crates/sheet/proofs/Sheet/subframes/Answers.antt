use native.Mathlib.Omega.{arith}
use Rattle.sheet.proofs.SizeLaws.{subframes_are}
use Rattle.sheet.proofs.Sheet.subframes.Goals as goal

pub returns : goal.returns
returns c =
    let f = c.args.self.now in
    let k = c.from.ensures in
    (subframes_are f k, omega arith, omega (arith, k, c.requires.lcr))
