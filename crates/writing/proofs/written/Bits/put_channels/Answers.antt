use native.Mathlib.Omega.{arith}
use mathlib.Core.Path.{refl, ap, ◌∙◌, subst}
use Prim.Native.Nat.{ℕ, ◌-◌}
use Rattle.sheet.specs.Layout.{tti_width, encoded_width, ratio_width}
use Rattle.writing.specs.Written.{channel_bits, BitsWritten}
use Rattle.writing.proofs.HoldLaws.{to_tti, to_encoded, put_as, head_length, channel-more}
use Rattle.writing.proofs.written.Bits.put_channels.Goals as goal

pub loop-i-init : goal.loop-i-init
unfolding channel_bits
loop-i-init c = let h = c.requires.1 in (omega arith, h.at ∙ head_length c.args.fields.now 8, h)

pub loop-i-preserved : goal.loop-i-preserved
loop-i-preserved c =
    let f = c.args.fields.now in
    let i = c.loop-i.i in
    let h1 = put_as tti_width (channel_bits f i) c.loop-i.invariant.2 c.put.ensures.more refl c.from.ensures in
    let h2 = put_as encoded_width (to_tti f i) h1 c.put-in-loop-i.ensures.more refl c.from-in-loop-i.ensures in
    let h3 = put_as ratio_width (to_encoded f i) h2 c.put-in-loop-i-2.ensures.more refl (ap (λ (x : ℕ). x - 1) c.from-in-loop-i-2.ensures) in
    (omega arith, omega arith, subst (BitsWritten c.put-in-loop-i-2.new.self) (channel-more f i) h3)
