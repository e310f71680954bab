-- Laws of step 1, of the contents: how long each channel's bits are, and which they are.
use mathlib.Core.Path.{◌≡◌, ◌∙◌}
use mathlib.Core.List.{List}
use Prim.Native.Nat.{ℕ, ◌+◌, ◌≤◌, ◌<◌}
use native.Mathlib.Omega.{arith}
use lib.ListN.{length, get_or, drop, length-take, length-drop}
use lib.Seq.{get_or-take, get_or-drop}
use Rattle.laws.specs.Sums.{sum_to}
use Rattle.laws.proofs.SumLaws.{sum-within}
use Rattle.sheet.specs.Fields.{tti_of, encoded_of}
use Rattle.sheet.specs.Sizes.{frames_of, size_of, equalised_of, encoded_all}
use Rattle.sheet.specs.Range.{Accepted}
use Rattle.sheet.specs.declared.Sheet.{Sheet}
use Rattle.orders.proofs.OrderLaws.{frames_bounds}
use Rattle.interleaving.proofs.EqualisedLaws.{segments_hold, equalised-length, equalised-bit, equalised_filler}
use Rattle.frame.specs.Frame.{contents_of, bits_of}

module _ (sh : Sheet) (contents : List ℕ) (all : length contents ≡ encoded_all sh) (i : ℕ) (l : i < sh.channels) where
  -- E bits of a channel
  pub length-contents : length (contents_of sh contents i) ≡ encoded_of sh i
  unfolding contents_of
  length-contents = rw (length-take, length-drop, all) (omega (arith, sum-within (encoded_of sh) i sh.channels l))

  module _ (ok : Accepted sh) where
    fits : length (contents_of sh contents i) ≤ equalised_of sh i
    fits = omega (arith, length-contents, (segments_hold (encoded_of sh i) (frames_of sh i) (frames_bounds (tti_of sh i) (ok.ranged.tti i l)).0).0)

    -- T_i with the fillers
    pub length-bits : length (bits_of sh contents i) ≡ equalised_of sh i
    unfolding bits_of
    length-bits = equalised-length 0 (tti_of sh i) (size_of sh i) (contents_of sh contents i) fits

    -- a bit of the contents, and a filler
    pub bit_carried : (k : ℕ) → k < encoded_of sh i → get_or (bits_of sh contents i) k 0 ≡ get_or contents (sum_to (encoded_of sh) i + k) 0
    unfolding bits_of
    bit_carried k h =
        equalised-bit 0 (tti_of sh i) (size_of sh i) (contents_of sh contents i) k 0 (omega (arith, length-contents))
        ∙ unfold contents_of in get_or-take (encoded_of sh i) (drop (sum_to (encoded_of sh) i) contents) k 0 h
        ∙ get_or-drop (sum_to (encoded_of sh) i) contents k 0

    pub bit-filled : (k : ℕ) → encoded_of sh i ≤ k → k < equalised_of sh i → get_or (bits_of sh contents i) k 0 ≡ 0
    unfolding bits_of
    bit-filled k h b =
        equalised_filler 0 (tti_of sh i) (size_of sh i) (contents_of sh contents i) k 0 (omega (arith, length-contents)) b
