-- The contents of the frame at a place are the contents of the bit that the place is named by.
use mathlib.Core.Path.{◌≡◌, ◌∙◌}
use mathlib.Core.List.{List}
use Prim.Native.Nat.{ℕ, ◌-◌}
use native.Mathlib.Omega.{arith}
use borrow.Author.Tests.{lt-ltb, le-ltb}
use lib.ListN.{length, get_or}
use Rattle.laws.proofs.TestLaws.{split}
use Rattle.sheet.specs.Fields.{encoded_of}
use Rattle.sheet.specs.Sizes.{encoded_all}
use Rattle.sheet.specs.Range.{Accepted}
use Rattle.sheet.specs.declared.Sheet.{Sheet}
use Rattle.pattern.specs.Pattern.{as_is}
use Rattle.frame.specs.Frame.{bits_of, bit_frame}
use Rattle.frame.proofs.ContentLaws.{length-bits, bit_carried, bit-filled}
use Rattle.naming.specs.Name.{Name, index_of, name_of, content_of, Exists, Inside}
use Rattle.naming.proofs.Named.{stands, named-inside}

module _ (sh : Sheet) (ok : Accepted sh) (contents : List ℕ) (all : length contents ≡ encoded_all sh) where
  content_at : (n : Name) → Inside sh n → get_or (bits_of sh contents (n.channel - 1)) (n.bit - 1) 0 ≡ content_of sh contents n
  unfolding content_of
  content_at n s =
      let i = n.channel - 1 in
      split n.bit (encoded_of sh i)
      (λ le.
      rw (le-ltb (encoded_of sh i) n.bit le)
      (bit_carried sh contents all i (omega (arith, s.channel-from, s.channel-to)) ok (n.bit - 1) (omega (arith, s.bit-from))))
      (λ lt.
      rw (lt-ltb (encoded_of sh i) n.bit lt)
      (bit-filled sh contents all i (omega (arith, s.channel-from, s.channel-to)) ok (n.bit - 1) (omega arith)
      (omega (arith, s.bit-from, s.bit-to))))

  pub contents-at : (frame subframe slot phch place : ℕ) → Exists sh subframe slot phch place
      → get_or (bit_frame sh frame contents) (index_of sh subframe slot phch place) 0 ≡ content_of sh contents (name_of sh frame subframe slot phch place)
  unfolding bit_frame
  contents-at frame subframe slot phch place there =
      stands sh ok frame subframe slot phch place there as_is (bits_of sh contents) (λ i l. length-bits sh contents all i l ok) 0 0
      ∙ content_at (name_of sh frame subframe slot phch place) (named-inside sh ok frame subframe slot phch place there)
