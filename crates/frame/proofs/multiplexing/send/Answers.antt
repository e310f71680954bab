use mathlib.Core.Path.{◌≡◌, refl, sym, ap, ap₂, ◌∙◌}
use Prim.Native.Nat.{ℕ, ◌%◌}
use Rattle.sheet.specs.Fields.{tti_of}
use Rattle.sheet.specs.Sizes.{frames_in, frames_of}
use Rattle.opening.proofs.OpenLaws.{size_is}
use Rattle.orders.specs.Orders.{column_at}
use Rattle.frame.proofs.SendLaws.{column-one, strided, sent_is, fits_by}
use Rattle.frame.proofs.multiplexing.send.Goals.{After-column-p}
use Rattle.frame.proofs.multiplexing.send.Goals as goal

pub walk_of-w-requires : goal.walk_of-w-requires
walk_of-w-requires c =
    let o = c.args.opened.now in
    (c.args.opened.now.accepted, c.requires.0, c.from-n.ensures ∙ size_is o c.args.i c.requires.0, c.requires.2, refl)

-- the column of n = frame number mod F
turned : (c : After-column-p)
    → c.column-p.result
    ≡ (column_at (tti_of c.args.opened.now.fields c.args.i) (c.args.frame.0 % frames_of c.args.opened.now.fields c.args.i))
turned c =
    let k = c.within-k.ensures.0 ∙ ap (λ (x : ℕ). c.args.frame.0 % x) c.frames-f.ensures.0 in
    c.column-p.ensures.0 ∙ ap₂ column_at c.from.ensures k

pub match_rate-requires-else-tti-eq0 : goal.match_rate-requires-else-tti-eq0
match_rate-requires-else-tti-eq0 c =
    let sh = c.args.opened.now.fields in (
      fits_by sh c.args.frame.0 c.args.i c.walk_of-w.result c.walk_of-w.ensures c.walk_of-w.ensures.size c.requires.2,
      strided sh c.args.opened.now.accepted c.args.i c.requires.0 c.frames-f.ensures.0 c.walk_of-w.ensures.size c.requires.1,
    )

pub returns-then-tti-eq0 : goal.returns-then-tti-eq0
returns-then-tti-eq0 c =
    let sh = c.args.opened.now.fields in
    let i = c.args.i in
    sent_is sh c.args.opened.now.accepted i c.requires.0 c.args.frame.0 c.walk_of-w.result c.walk_of-w.ensures c.args.contents.now c.requires.1
    (column-one (tti_of sh i) c.args.frame.0 c.if-tti-eq0.true) (ap frames_in (sym c.if-tti-eq0.true)) c.match_rate.ensures

pub returns-else-tti-eq0 : goal.returns-else-tti-eq0
returns-else-tti-eq0 c =
    sent_is c.args.opened.now.fields c.args.opened.now.accepted c.args.i c.requires.0 c.args.frame.0 c.walk_of-w.result c.walk_of-w.ensures
    c.args.contents.now c.requires.1 (turned (goal.at.returns-else-tti-eq0 c).After-column-p) c.frames-f.ensures.0 c.match_rate-else-tti-eq0.ensures
