use mathlib.Core.Path.{refl, ap}
use Prim.Native.Nat.{ℕ, ◌-◌, ◌/◌, ◌%◌, ◌^◌}
use Rattle.sheet.specs.Layout.{count_width}
use Rattle.writing.specs.Written.{head_to}
use Rattle.writing.proofs.HoldLaws.{head_more}
use Rattle.writing.proofs.written.Bits.put_head.Goals as goal

pub returns : goal.returns
unfolding head_to
returns c =
    let f = c.args.fields.now in
    let h1 = head_more f 0 c.requires.1 c.put.ensures.more c.from.ensures in
    let h2 = head_more f 1 h1 c.put-2.ensures.more c.from-2.ensures in
    let h3 = head_more f 2 h2 c.put-3.ensures.more (ap (λ (x : ℕ). (x - 1) % 2 ^ count_width) c.from-last.ensures) in
    let h4 = head_more f 3 h3 c.put-4.ensures.more c.from-3.ensures in
    let h5 = head_more f 4 h4 c.put-5.ensures.more c.from-4.ensures in
    let h6 = head_more f 5 h5 c.put-6.ensures.more c.from-5.ensures in
    let h7 = head_more f 6 h6 c.put-7.ensures.more (ap (λ (x : ℕ). (x - 1) / 2 ^ count_width) c.from-last.ensures) in
    head_more f 7 h7 c.put-8.ensures.more refl
