use native.Mathlib.Omega.{arith}
use mathlib.Core.Path.{◌∙◌}
use Rattle.opening.proofs.OpenLaws.{size_is}
use Rattle.listing.specs.Listing.{with_line}
use Rattle.listing.proofs.channel_line.Goals as goal

pub frames-requires : goal.frames-requires
frames-requires c = c.args.opened.now.accepted.ranged.tti c.args.i c.requires.1

pub returns : goal.returns
unfolding with_line
returns c =
    let o = c.args.opened.now in
    let m = c.push_number.ensures in
    let p = c.push_pair.ensures in
    let q = c.push_pair-2.ensures in
    let r = c.push_pair-3.ensures in
    let s = c.push_pair-4.ensures in
    let e = c.push.ensures in
    let z = c.from-2.ensures ∙ size_is o c.args.i c.requires.1 in (
      λ l h.
          rw (c.frames.ensures.0, c.from.ensures, z, c.share.ensures) at (e.text _ (s.0 _ (r.0 _ (q.0 _ (p.0 _ (m.0.text l h)))))),
      omega (arith, m.0.len, m.1, p.1, q.1, r.1, s.1, e.len),
    )
