use Rattle.sheet.specs.Sizes.{places_all, subframes_of}
use Rattle.frame.specs.Frame.{spread_subframe}
use Rattle.frame.specs.Slots.{Partwise}
use Rattle.frame.proofs.spreading.spread_bits.Given as goal

abbrev pub invariant-loop-h : goal.invariant-loop-h
invariant-loop-h l = Partwise (λ i. places_all l.fields) (subframes_of l.fields) (λ i. spread_subframe l.fields i l.bits) l.initial.out l.out l.h l.a
