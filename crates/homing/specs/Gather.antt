-- Steps 9 and 8 undone: the values of a frame in the order of the multiplexed frame. Each place is read once; z is read nowhere.
use Rattle.std.specs.Prelude.{cond, List, ℕ, eqb}
use Rattle.laws.specs.Joined.{joined}
use Rattle.sheet.specs.Sizes.{subframes_of}
use Rattle.sheet.specs.declared.Sheet.{Sheet}
use Rattle.interleaving.specs.Second.{second_undone}
use Rattle.mapping.specs.Mapping.{slot_undone}
use Rattle.frame.specs.Frame.{caps_of, runs_of, slot_part, slot_share, in_slots}

-- g h t for each slot t of each sub-frame h, in the order of the interleaved elements. Mode 0: the frame's own; mode 1: those of a slot in all
-- sub-frames are its share, and share stands after share
unfoldable pub assembled : {A : Type 0} → Sheet → (ℕ → ℕ → List A) → List A
assembled sh g = cond (eqb sh.mode 0) (in_slots sh g) (joined (λ t. joined (λ h. g h t) (subframes_of sh)) sh.slots)

module _ {A : Type 0} (z : A) where
  -- step 9 of one slot undone: what stands at the place of the slot's bit 1, 2, ..
  abbrev pub slot_unmapped : Sheet → ℕ → List A → List A
  slot_unmapped sh t w = slot_undone (runs_of sh t) (caps_of sh t) z w

  -- of slot t of sub-frame h of a frame, and of all slots of all sub-frames
  abbrev pub part_unmapped : Sheet → List A → ℕ → ℕ → List A
  part_unmapped sh xs h t = slot_unmapped sh t (slot_part sh h t xs)

  unfoldable pub unmapped_slots : Sheet → List A → List A
  unmapped_slots sh xs = assembled sh (part_unmapped sh xs)

  -- step 8 undone in mode 1: each slot's share by itself
  unfoldable pub undone_slots : Sheet → List A → List A
  undone_slots sh xs = joined (λ t. second_undone z (slot_share sh t xs)) sh.slots

  -- step 8 undone, by the mode
  unfoldable pub undone_bits : Sheet → List A → List A
  undone_bits sh xs = cond (eqb sh.mode 0) (second_undone z xs) (undone_slots sh xs)

  unfoldable pub gathered : Sheet → List A → List A
  gathered sh xs = undone_bits sh (unmapped_slots sh xs)
