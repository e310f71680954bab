use native.Mathlib.Omega.{arith}
use mathlib.Core.Path.{refl, sym, ap, ◌∙◌, subst}
use Prim.Native.Nat.{ℕ, ◌<◌}
use lib.ListN.{length-replicate}
use Rattle.bits.specs.Bits.{packed, bit_of}
use Rattle.bits.proofs.BitLaws.{packed-same}
use Rattle.writing.specs.Written.{sheet_bits}
use Rattle.writing.proofs.HoldLaws.{room, holds_zeros}
use Rattle.writing.proofs.ByteLaws.{slots_binary}
use Rattle.writing.proofs.written.put_sheet.Goals as goal

pub put_head-requires : goal.put_head-requires
put_head-requires c = (c.requires.0, record { holds = holds_zeros room (length-replicate {A = ℕ} room 0); at = refl })

pub pack-requires : goal.pack-requires
pack-requires c =
    let a = c.args in
    let q = c.requires in
    let h = c.put_slots.ensures.holds in
    (omega (arith, h.long, q.1, q.2), λ i. subst (λ (x : ℕ). x < 2) (sym (h.same i)) ((slots_binary a.fields.now a.fields.now.slots).below i))

pub returns : goal.returns
returns c =
    let a = c.args in
    let h = c.put_slots.ensures.holds in
    c.pack.ensures ∙ packed-same _ (bit_of (sheet_bits a.fields.now)) _ (λ i l. h.same i) ∙ ap (packed (bit_of (sheet_bits a.fields.now))) c.requires.1
