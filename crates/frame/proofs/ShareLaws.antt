-- Laws of the slots' shares one after the other.
use mathlib.Core.Path.{◌≡◌, sym, ap, ◌∙◌}
use mathlib.Core.List.{List}
use Prim.Native.Nat.{ℕ, ◌+◌, ◌*◌, ◌<◌}
use native.Mathlib.Nat.{mul-zero, mul-add}
use lib.ListN.{length, take, drop}
use Rattle.laws.specs.Sums.{sum_to}
use Rattle.laws.specs.Joined.{joined}
use Rattle.laws.proofs.JoinedLaws.{Begins, length-joined, joined-part}
use Rattle.sheet.specs.Sizes.{slot_capacity, subframes_of, capacity_all}
use Rattle.sheet.specs.declared.Sheet.{Sheet}
use Rattle.frame.specs.Frame.{slot_start, slot_share}

module _ {A : Type 0} (sh : Sheet) where
  module _ (y : ℕ → List A) (long : (t : ℕ) → t < sh.slots → length (y t) ≡ subframes_of sh * slot_capacity sh t) where
    pub shares_begin : Begins y (λ t. subframes_of sh * slot_start sh t) sh.slots
    unfolding sum_to
    shares_begin =
        record { first = mul-zero (subframes_of sh); next = λ t l. mul-add (subframes_of sh) (slot_start sh t) (slot_capacity sh t) ∙ ap (λ (n : ℕ). subframes_of sh * slot_start sh t + n) (sym (long t l)) }

    pub length_shares : length (joined y sh.slots) ≡ capacity_all sh
    length_shares = length-joined y (λ t. subframes_of sh * slot_start sh t) sh.slots shares_begin

    pub share_of_lem : (t : ℕ) → t < sh.slots → slot_share sh t (joined y sh.slots) ≡ y t
    unfolding slot_share
    share_of_lem t l =
        ap (λ (n : ℕ). take n (drop (subframes_of sh * slot_start sh t) (joined y sh.slots))) (sym (long t l))
        ∙ joined-part y (λ i. subframes_of sh * slot_start sh i) sh.slots t shares_begin l
