use native.Mathlib.Omega.{arith}
use mathlib.Core.Path.{◌≡◌, refl, ap, ◌∙◌}
use Prim.Native.Nat.{ℕ, ◌+◌, ◌*◌, ◌/◌}
use Rattle.laws.specs.Tables.{table}
use Rattle.bits.specs.Bits.{bits_at}
use Rattle.sheet.specs.Layout.{tti_width, encoded_width, ratio_width, channel_at}
use Rattle.sheet.specs.Reading.{channels_to}
use Rattle.sheet.proofs.SlotLaws.{channels_more}
use Rattle.sheet.proofs.fields.read_channels.Goals as goal

pub loop-k-init : goal.loop-k-init
unfolding table
loop-k-init c = (omega arith, refl)

pub loop-k-preserved : goal.loop-k-preserved
loop-k-preserved c =
    let s = c.args.s.now in
    let l = c.loop-k in
    let third : 8 * ((16 + 24 * l.k) / 8 + 2) ≡ channel_at l.k + (tti_width + encoded_width) = omega arith in (
      omega arith,
      channels_more s l.k l.c (omega arith) l.invariant.1 c.read_field-two.ensures.0
          (c.read_byte.ensures.0 ∙ ap (λ (at : ℕ). bits_at s at ratio_width) third),
    )

pub returns : goal.returns
returns c =
    let a = c.args in
    let e : c.loop-k.k ≡ a.n = omega arith in
    c.loop-k.invariant.1 ∙ ap (channels_to a.s.now) e
