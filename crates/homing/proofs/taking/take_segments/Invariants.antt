use mathlib.Core.Path.{◌≡◌}
use Rattle.homing.specs.Home.{channel_start}
use Rattle.homing.specs.Taking.{taken_from}
use Rattle.homing.proofs.taking.take_segments.Given as goal

abbrev pub invariant-loop-i : goal.invariant-loop-i
invariant-loop-i l =
    (l.base ≡ channel_start l.opened.fields l.i)
    × (l.joined ≡ taken_from l.opened.fields l.number.0 l.values l.i l.initial.joined)
