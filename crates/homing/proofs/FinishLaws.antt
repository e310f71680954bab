-- Laws of finishing a channel: its part of the buffer, which begins at a and has u values.
use mathlib.Core.Path.{◌≡◌, ◌∙◌}
use mathlib.Core.List.{List}
use Prim.Native.Nat.{ℕ, ◌+◌, ◌-◌, ◌≤◌, ◌<◌}
use native.Mathlib.Omega.{arith}
use lib.Ieee.{Float, nan}
use lib.ListN.{length, take, drop}
use Rattle.laws.proofs.SumLaws.{sum-within}
use Rattle.laws.proofs.PartLaws.{part_length}
use Rattle.sheet.specs.Fields.{tti_of, encoded_of}
use Rattle.sheet.specs.Sizes.{frames_of, size_of, equalised_of, equalised_all}
use Rattle.sheet.specs.Range.{Ranged}
use Rattle.sheet.specs.declared.Sheet.{Sheet}
use Rattle.orders.proofs.OrderLaws.{frames_bounds}
use Rattle.interleaving.specs.First.{finished, Finishing}
use Rattle.interleaving.proofs.EqualisedLaws.{segments_hold}
use Rattle.homing.specs.Home.{channel_start, finished_of}

module _ (sh : Sheet) (i : ℕ) {a u : ℕ} (pa : a ≡ channel_start sh i) (pu : u ≡ equalised_of sh i) where
  pub part_ends : i < sh.channels → a + u ≤ equalised_all sh
  unfolding channel_start
  part_ends l = omega (arith, sum-within (equalised_of sh) i sh.channels l)

  module _ {t n e : ℕ} (pt : t ≡ tti_of sh i) (pn : n ≡ size_of sh i) (pe : e ≡ encoded_of sh i) (buffer : List Float) where
    pub part_finishes : Ranged sh → i < sh.channels → length buffer ≡ equalised_all sh → Finishing t n (length (take (a + u - a) (drop a buffer))) e
    part_finishes r l full =
        let long : length (take (a + u - a) (drop a buffer)) ≡ equalised_of sh i =
        part_length buffer a (a + u) (omega arith) (omega (arith, part_ends l)) ∙ (let q : a + u - a ≡ u = omega arith in q ∙ pu) in
        rw (pt, pn, pe)
        (record {
          known = r.tti i l;
          whole = long;
          fits = (segments_hold (encoded_of sh i) (frames_of sh i) (frames_bounds (tti_of sh i) (r.tti i l)).0).0;
        })

    pub part-finished : finished nan t n e (take (a + u - a) (drop a buffer)) ≡ finished_of sh i buffer
    unfolding finished_of
    part-finished =
        let q : a + u - a ≡ equalised_of sh i = omega arith in
        rw (pt, pn, pe, q, pa)
