-- Steps 2 to 7: what stands at an index of the multiplexed frame is what its name says.
use mathlib.Core.Path.{◌≡◌, ap, ◌∙◌}
use mathlib.Core.List.{List}
use Prim.Native.Nat.{ℕ, suc, ◌+◌, ◌*◌, ◌-◌, ◌%◌, ◌≤◌, ◌<◌}
use native.Mathlib.Nat.{mul-le-mul_right, suc-mul, mul_comm}
use native.Mathlib.Omega.{arith}
use lib.ListN.{length, get_or}
use Rattle.laws.proofs.JoinedLaws.{joined_at}
use Rattle.sheet.specs.Fields.{tti_of}
use Rattle.sheet.specs.Sizes.{frames_of, size_of, equalised_of, capacity_all}
use Rattle.sheet.specs.Range.{Accepted}
use Rattle.sheet.specs.declared.Sheet.{Sheet}
use Rattle.orders.specs.Orders.{column_at}
use Rattle.orders.proofs.OrderLaws.{column_swaps}
use Rattle.matching.specs.Shares.{cut_of, share_of, change_of, channel_of}
use Rattle.matching.proofs.ShareLaws.{channel_passes}
use Rattle.pattern.specs.Closed.{source_of, copy_of}
use Rattle.pattern.proofs.SourceLaws.{source_passes}
use Rattle.opening.proofs.OpenLaws.{weighs}
use Rattle.frame.specs.Frame.{start_at, sent_of, multiplexed}
use Rattle.frame.proofs.FrameLaws.{rates, cut_next, turn_inside, length_sent, sent_at, channels_begin}
use Rattle.naming.specs.Name.{bit_number, name_at, Inside}

-- an index lies in its channel's part
pub record Lies (sh : Sheet) (x : ℕ) : Type 0 where
  pub channel : channel_of sh x < sh.channels
  pub from : cut_of sh (channel_of sh x) ≤ x
  pub share : x - cut_of sh (channel_of sh x) < share_of sh (channel_of sh x)

pub lies : (sh : Sheet) → Accepted sh → (x : ℕ) → x < capacity_all sh → Lies sh x
lies sh ok x h =
    let p = channel_passes sh x (weighs sh ok) h in
    record { channel = p.below; from = p.low; share = omega (arith, p.low, p.high, cut_next sh ok (channel_of sh x)) }

module _ {A B : Type 0} (f : A → ℕ → B) (sh : Sheet) (ok : Accepted sh) (frame : ℕ) (ts : ℕ → List A)
    (full : (i : ℕ) → i < sh.channels → length (ts i) ≡ equalised_of sh i) where
  pub multiplexed-at : (x : ℕ) (b : B) (z : A) → x < capacity_all sh
      → get_or (multiplexed f sh frame ts) x b
      ≡ f (get_or (ts ((name_at sh frame x).channel - 1)) ((name_at sh frame x).bit - 1) z) (name_at sh frame x).copy
  unfolding multiplexed name_at bit_number
  multiplexed-at x b z h =
      let p = lies sh ok x h in
      let i = channel_of sh x in
      let v = x - cut_of sh i in
      let e : x ≡ cut_of sh i + v = omega (arith, p.from) in
      let n = length_sent f sh ok frame i (ts i) p.channel (full i p.channel) in
      let m = source_of (change_of sh i) (size_of sh i) (start_at sh frame i) v * frames_of sh i + column_at (tti_of sh i) (frame % frames_of sh i) in
      let j = copy_of (change_of sh i) (size_of sh i) (start_at sh frame i) v in
      let qi : i ≡ i + 1 - 1 = omega arith in
      let qm : m ≡ m + 1 - 1 = omega arith in
      ap (λ (k : ℕ). get_or (multiplexed f sh frame ts) k b) e
      ∙ joined_at (λ k. sent_of f sh frame k (ts k)) (cut_of sh) sh.channels i v b (channels_begin f sh ok frame ts full) p.channel
      (omega (arith, p.share))
      ∙ sent_at f sh ok frame i (ts i) p.channel (full i p.channel) v b z p.share
      ∙ ap (λ (k : ℕ). f (get_or (ts k) m z) j) qi
      ∙ ap (λ (k : ℕ). f (get_or (ts (i + 1 - 1)) k z) j) qm

-- a name's channel and bit exist
pub name-inside : (sh : Sheet) → Accepted sh → (frame x : ℕ) → x < capacity_all sh → Inside sh (name_at sh frame x)
unfolding name_at bit_number
name-inside sh ok frame x h =
    let p = lies sh ok x h in
    let i = channel_of sh x in
    let v = x - cut_of sh i in
    let F = frames_of sh i in
    let m = source_of (change_of sh i) (size_of sh i) (start_at sh frame i) v in
    let hm : m < size_of sh i =
    (source_passes (change_of sh i) (size_of sh i) (share_of sh i) (start_at sh frame i) v (rates sh ok frame i) p.share).below in
    let hc : column_at (tti_of sh i) (frame % F) < F =
    (column_swaps (tti_of sh i) (frame % F) (ok.ranged.tti i p.channel) (turn_inside sh ok frame i p.channel)).0 in
    let q : i + 1 - 1 ≡ i = omega arith in
    record {
      channel-from = omega arith;
      channel-to = omega (arith, p.channel);
      bit-from = omega arith;
      bit-to = rw q (omega (arith, mul-le-mul_right {m = suc m} {n = size_of sh i} F hm, suc-mul m F, mul_comm F (size_of sh i)));
    }
