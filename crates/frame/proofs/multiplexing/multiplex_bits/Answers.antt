use native.Mathlib.Omega.{arith}
use mathlib.Core.Path.{◌≡◌, refl, sym, ap, ◌∙◌}
use mathlib.Core.List.{List}
use Prim.Native.Nat.{ℕ, ◌+◌, ◌≤◌, ◌<◌}
use lib.ListN.{length, get_or}
use Rattle.laws.specs.Sums.{sum_to}
use Rattle.laws.specs.Joined.{joined}
use Rattle.laws.proofs.SumLaws.{sum_more}
use Rattle.laws.proofs.LaidLaws.{laid-all}
use Rattle.sheet.specs.Fields.{tti_of, encoded_of}
use Rattle.sheet.specs.Sizes.{size_of}
use Rattle.matching.specs.Shares.{cut_of}
use Rattle.opening.specs.declared.Opened.{Opened}
use Rattle.opening.proofs.OpenLaws.{cut_rises}
use Rattle.interleaving.specs.First.{equalised}
use Rattle.pattern.specs.Pattern.{as_is}
use Rattle.frame.specs.Frame.{sent_of, bits_of, multiplexed, multiplexed_bits}
use Rattle.laws.proofs.PartLaws.{part_length}
use Rattle.frame.proofs.FrameLaws.{cuts_end}
use Rattle.frame.proofs.SendLaws.{content_part, cut_share, cut_within, sent_more, sent_none}
use Rattle.frame.proofs.multiplexing.multiplex_bits.Goals.{In-loop-i}
use Rattle.frame.proofs.multiplexing.multiplex_bits.Goals as goal

-- the channel's part of the frame
module _ (c : In-loop-i) where
  abbrev o : Opened
  o = c.args.opened.now

  abbrev i : ℕ
  i = c.loop-i.i

  inside : i < o.fields.channels
  inside = omega arith

  up : get_or o.cuts i 0 ≤ get_or o.cuts (i + 1) 0
  up = cut_rises o i inside

  last : get_or o.cuts (i + 1) 0 ≤ length c.loop-i.out
  last = omega (arith, cut_within o i inside)

pub loop-i-init : goal.loop-i-init
unfolding sum_to joined
loop-i-init c = (refl, sent_none c.args.opened.now.fields c.args.opened.now.accepted _)

pub send-requires : goal.send-requires
send-requires c =
    let g = (goal.at.send-requires c).In-loop-i in
    let part = content_part (o g) (i g) (inside g) c.args.contents.now c.loop-i.invariant.0 c.from.ensures c.requires.0 in
    let n = part_length c.loop-i.out c.from-a.result c.from-z.result (omega (arith, up g)) (omega (arith, last g)) in
    (inside g, part.1, omega (arith, n, cut_share (o g) (i g) (inside g)))

pub loop-i-preserved : goal.loop-i-preserved
unfolding bits_of
loop-i-preserved c =
    let g = (goal.at.loop-i-preserved c).In-loop-i in
    let l = c.loop-i in
    let sh = (o g).fields in
    let f = c.args.frame.0 in
    let part = content_part (o g) (i g) (inside g) c.args.contents.now l.invariant.0 c.from.ensures c.requires.0 in
    let sent = c.send.ensures ∙ ap (λ (x : List ℕ). sent_of as_is sh f (i g) (equalised 0 (tti_of sh (i g)) (size_of sh (i g)) x)) part.0 in
    let n = c.send.auto.out ∙ part_length l.out c.from-a.result c.from-z.result (omega (arith, up g)) (omega (arith, last g)) in (
      sum_more (encoded_of sh) (i g) l.invariant.0 c.from.ensures,
      sent_more (o g) (i g) (inside g) (λ j. sent_of as_is sh f j (bits_of sh c.args.contents.now j)) c.args.out.now l.out c.from-a.ensures
          c.from-z.ensures l.invariant.1 n sent,
    )

pub returns : goal.returns
unfolding multiplexed_bits multiplexed
returns c =
    let l = c.loop-i in
    let sh = c.args.opened.now.fields in
    let e : l.i ≡ sh.channels = omega arith in
    let d = ap (cut_of sh) e ∙ cuts_end sh c.args.opened.now.accepted ∙ sym c.requires.1 in
    laid-all _ _ _ _ l.invariant.1 d ∙ ap (joined (λ k. sent_of as_is sh c.args.frame.0 k (bits_of sh c.args.contents.now k))) e
