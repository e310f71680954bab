-- Every index of the multiplexed frame, and every index of the frame, is a place's.
use mathlib.Core.Path.{◌≡◌, ap, ◌∙◌}
use mathlib.Core.Bool.{Bool, true, false}
use Prim.Native.Nat.{ℕ, suc, ◌+◌, ◌*◌, ◌-◌, ◌≤◌, ◌<◌}
use native.Mathlib.Omega.{arith}
use lib.Dec.{eqb}
use Rattle.laws.proofs.FallLaws.{digits, falls, sum-times, in_row}
use Rattle.sheet.specs.Fields.{phchs_of, capacity_of}
use Rattle.sheet.specs.Sizes.{slot_capacity, subframes_of, capacity_all}
use Rattle.sheet.specs.declared.Sheet.{Sheet}
use Rattle.interleaving.specs.Second.{goes_to, comes_from}
use Rattle.interleaving.proofs.SecondLaws.{place-below, source_place}
use Rattle.mapping.specs.Mapping.{phch_of, rank_of, pos_of, number_of}
use Rattle.mapping.proofs.PlaceLaws.{pos_in, filled_pos}
use Rattle.mapping.proofs.TurnLaws.{bit-goes}
use Rattle.frame.specs.Frame.{runs_of, slot_start}
use Rattle.frame.proofs.FrameLaws.{slot-room}
use Rattle.frame.proofs.TurnLaws.{runs-some}
use Rattle.naming.specs.Name.{index_of, slot_bit_at, read_from, multiplexed_at, Exists}
use Rattle.naming.proofs.Slots as Slots

-- ---- step 8: each index of the multiplexed frame is read by a slot

record Reads (sh : Sheet) (b : Bool) (x : ℕ) : Type 0 where
  subframe : ℕ
  slot : ℕ
  bit : ℕ
  present : subframe < subframes_of sh
  inside : slot < sh.slots
  below : bit < slot_capacity sh slot
  read : Slots.read_by sh b subframe slot bit ≡ x

reads : (sh : Sheet) (b : Bool) (x : ℕ) → x < capacity_all sh → Reads sh b x
reads sh true x h =
    let w = in_row (slot_capacity sh) (subframes_of sh) sh.slots (goes_to (capacity_all sh) x) (place-below (capacity_all sh) x h) in
    record {
      subframe = w.row;
      slot = w.list;
      bit = w.rest;
      present = w.row_inside;
      inside = w.list_inside;
      below = w.below;
      read = ap (comes_from (capacity_all sh)) w.is ∙ source_place (capacity_all sh) x h;
    }
reads sh false x h =
    let K = subframes_of sh in
    let s = sum-times K (slot_capacity sh) in
    let t = falls (λ i. K * slot_capacity sh i) sh.slots x (omega (arith, s sh.slots)) in
    let n = K * slot_capacity sh t.at in
    let d = digits K (slot_capacity sh t.at) (goes_to n t.rest) (place-below n t.rest t.below) in
    record {
      subframe = d.part;
      slot = t.at;
      bit = d.rest;
      present = d.inside;
      inside = t.inside;
      below = d.below;
      read = ap (λ (j : ℕ). K * slot_start sh t.at + comes_from n j) d.is ∙ omega (arith, source_place n t.rest t.below, t.is, s t.at);
    }

-- ---- step 9: and stands at a place of it

pub record Place (sh : Sheet) (x : ℕ) : Type 0 where
  pub subframe : ℕ
  pub slot : ℕ
  pub phch : ℕ
  pub place : ℕ
  pub there : Exists sh subframe slot phch place
  pub index : multiplexed_at sh subframe slot phch place ≡ x

existing : (sh : Sheet) (h t p place : ℕ) → h < subframes_of sh → t < sh.slots → p < phchs_of sh t → 0 < place → place ≤ capacity_of sh t p
    → Exists sh (suc h) (suc t) (suc p) place
existing sh h t p place k l b from to =
    let qt : suc t - 1 ≡ t = omega arith in
    let qp : suc p - 1 ≡ p = omega arith in
    record {
      subframe-from = omega arith;
      subframe-to = k;
      slot-from = omega arith;
      slot-to = l;
      phch-from = omega arith;
      phch-to = rw qt b;
      place-from = from;
      place-to = rw (qt, qp) to;
    }

pub place_onto : (sh : Sheet) (x : ℕ) → x < capacity_all sh → Place sh x
unfolding multiplexed_at read_from slot_bit_at
place_onto sh x h =
    let r = reads sh (eqb sh.mode 0) x h in
    let s = r.subframe in
    let t = r.slot in
    let U = capacity_of sh t in
    let B = runs_of sh t in
    let P = phchs_of sh t in
    let k = r.bit in
    let p = phch_of U B P k in
    let y = rank_of U B P k in
    let g = bit-goes U B P (λ q l. runs-some sh t q) k r.below in
    let place = pos_of (U p) (p + 1) y in
    let w = pos_in (U p) (p + 1) y g.1 in
    let qs : suc s - 1 ≡ s = omega arith in
    let qt : suc t - 1 ≡ t = omega arith in
    let qp : suc p - 1 ≡ p = omega arith in
    record {
      subframe = suc s;
      slot = suc t;
      phch = suc p;
      place = place;
      there = existing sh s t p place r.present r.inside g.0 w.0 w.1;
      index =
          ap (λ (i : ℕ). read_from sh i (suc t - 1) (slot_bit_at sh (suc t - 1) (suc p - 1) place)) qs
          ∙ ap (λ (i : ℕ). read_from sh s i (slot_bit_at sh i (suc p - 1) place)) qt
          ∙ ap (λ (q : ℕ). read_from sh s t (slot_bit_at sh t q place)) qp
          ∙ ap (read_from sh s t) (ap (number_of U B P p) (filled_pos (U p) (p + 1) y g.1) ∙ g.2)
          ∙ r.read;
    }

-- ---- every index of the frame is a place's

pub record Index (sh : Sheet) (x : ℕ) : Type 0 where
  pub subframe : ℕ
  pub slot : ℕ
  pub phch : ℕ
  pub place : ℕ
  pub there : Exists sh subframe slot phch place
  pub index : index_of sh subframe slot phch place ≡ x

pub index_onto : (sh : Sheet) (x : ℕ) → x < capacity_all sh → Index sh x
unfolding index_of
index_onto sh x h =
    let w = in_row (slot_capacity sh) (subframes_of sh) sh.slots x h in
    let s = w.row in
    let t = w.list in
    let U = capacity_of sh t in
    let z = falls U (phchs_of sh t) w.rest w.below in
    let p = z.at in
    let qs : suc s - 1 ≡ s = omega arith in
    let qt : suc t - 1 ≡ t = omega arith in
    let qp : suc p - 1 ≡ p = omega arith in
    let qe : suc z.rest - 1 ≡ z.rest = omega arith in
    record {
      subframe = suc s;
      slot = suc t;
      phch = suc p;
      place = suc z.rest;
      there = existing sh s t p (suc z.rest) w.row_inside w.list_inside z.inside (omega arith) z.below;
      index = rw (qs, qt, qp, qe, z.is) w.is;
    }

-- and every place stands at an index of the frame
pub index-inside : (sh : Sheet) (subframe slot phch place : ℕ) → Exists sh subframe slot phch place → index_of sh subframe slot phch place < capacity_all sh
unfolding index_of
index-inside sh subframe slot phch place w =
    omega (
      arith,
      slot-room sh (slot - 1) (Slots.slot_in sh subframe slot phch place w) (subframe - 1) (Slots.subframe_in sh subframe slot phch place w),
      Slots.place-below sh (slot - 1) (phch - 1) place (Slots.phch_in sh subframe slot phch place w) w.place-from w.place-to,
    )
