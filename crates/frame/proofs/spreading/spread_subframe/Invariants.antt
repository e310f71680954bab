use Rattle.sheet.specs.Sizes.{slot_capacity}
use Rattle.frame.specs.Frame.{slot_bits, slot_mapped}
use Rattle.frame.specs.Slots.{Partwise}
use Rattle.frame.proofs.spreading.spread_subframe.Given as goal

abbrev pub invariant-loop-t : goal.invariant-loop-t
invariant-loop-t l = Partwise (slot_capacity l.fields) l.fields.slots (λ i. slot_mapped l.fields i (slot_bits l.fields l.bits l.h i)) l.initial.out l.out l.t l.a
