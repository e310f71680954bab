-- Laws of steps 7 to 2 as the code goes back through them.
use mathlib.Core.Path.{◌≡◌, ap, ◌∙◌}
use Prim.Native.Nat.{ℕ, ◌+◌, ◌*◌, ◌-◌, ◌%◌, ◌≤◌, ◌<◌}
use lib.IntN.{nat_abs}
use Rattle.sheet.specs.Fields.{tti_of}
use Rattle.sheet.specs.Sizes.{frames_of, size_of, capacity_all}
use Rattle.sheet.specs.Range.{Accepted}
use Rattle.sheet.specs.declared.Sheet.{Sheet}
use Rattle.orders.specs.Orders.{column_at}
use Rattle.matching.specs.Signed.{signed_by}
use Rattle.matching.specs.Shares.{cut_of, share_of, change_of, channel_of}
use Rattle.pattern.specs.Pattern.{Rates}
use Rattle.pattern.specs.Closed.{source_of, copy_of, Stood}
use Rattle.matching.proofs.SignedLaws.{magnitude}
use Rattle.pattern.proofs.StoodLaws.{stood_start}
use Rattle.frame.specs.Frame.{start_at}
use Rattle.frame.proofs.FrameLaws.{rates}
use Rattle.frame.specs.Walk.{Walks}
use Rattle.frame.specs.declared.walking.Walk.{Walk}
use Rattle.naming.specs.Name.{Name, bit_number, name_at}
use Rattle.naming.proofs.Multiplexed.{lies}

-- index x in its channel i
pub record Part (sh : Sheet) (x i : ℕ) : Type 0 where
  pub inside : i < sh.channels
  pub from : cut_of sh i ≤ x
  pub share : x - cut_of sh i < share_of sh i

pub part : (sh : Sheet) → Accepted sh → (x : ℕ) → x < capacity_all sh → {i : ℕ} → i ≡ channel_of sh x → Part sh x i
part sh ok x h e = let p = lies sh ok x h in rw e (record { inside = p.channel; from = p.from; share = p.share })

-- what stands at v of the channel, by its walk
module _ (sh : Sheet) (ok : Accepted sh) (frame x i : ℕ) (p : Part sh x i) (w : Walk) (k : Walks sh frame i w) where
  pub stood : {N v bit copy : ℕ} → N ≡ size_of sh i → v ≡ x - cut_of sh i → Stood (signed_by w.d.less w.d.size) N w.e v bit copy
      → Stood (change_of sh i) (size_of sh i) (start_at sh frame i) (x - cut_of sh i) bit copy
  stood {N} {v} {bit} {copy} en ev o =
      let r : Rates (change_of sh i) (size_of sh i) (share_of sh i) w.e = rw (k.change, k.size) at k.fits.rates in
      let q : Stood (change_of sh i) (size_of sh i) w.e (x - cut_of sh i) bit copy = rw (k.change, en, ev) at o in
      stood_start (change_of sh i) (size_of sh i) (share_of sh i) w.e (start_at sh frame i) (x - cut_of sh i) bit copy r (rates sh ok frame i) p.share
      (λ a b. k.start a (let z : 0 < nat_abs (signed_by w.d.less w.d.size) = rw k.change b in rw (magnitude w.d.less w.d.size) at z)) q

-- the name of what stands there
abbrev name_from : Sheet → ℕ → ℕ → ℕ → Name
name_from sh frame x i =
    record {
      channel = i + 1;
      bit = bit_number sh frame i (source_of (change_of sh i) (size_of sh i) (start_at sh frame i) (x - cut_of sh i));
      copy = copy_of (change_of sh i) (size_of sh i) (start_at sh frame i) (x - cut_of sh i);
    }

pub name-is : (sh : Sheet) (frame x i : ℕ) {c b m j : ℕ} → i ≡ channel_of sh x → c ≡ i + 1
    → b ≡ m * frames_of sh i + column_at (tti_of sh i) (frame % frames_of sh i) + 1
    → Stood (change_of sh i) (size_of sh i) (start_at sh frame i) (x - cut_of sh i) m j
    → ◌≡◌ {A = Name} (record { channel = c; bit = b; copy = j }) (name_at sh frame x)
unfolding name_at bit_number
name-is sh frame x i {c} {b} {m} {j} ei ec eb o =
    let q : ◌≡◌ {A = Name} (record { channel = c; bit = b; copy = j }) (name_from sh frame x i) = rw (ec, eb, o.bit, o.copy) in
    q ∙ ap (name_from sh frame x) ei
