use native.Mathlib.Omega.{arith}
use mathlib.Core.Path.{◌∙◌, ap}
use Rattle.listing.specs.Listing.{lines_to, text_of}
use Rattle.listing.proofs.ListLaws.{lines_more}
use Rattle.listing.proofs.list.Goals as goal

pub loop-i-init : goal.loop-i-init
unfolding lines_to
loop-i-init c = c.head_line-text.ensures

pub loop-i-preserved : goal.loop-i-preserved
loop-i-preserved c =
    let l = c.loop-i in
    let h = c.channel_line.ensures in
    (h.0 _ l.invariant.0 ∙ ap text_of (lines_more c.args.opened.now.fields l.i), omega (arith, h.1))
