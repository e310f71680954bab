use mathlib.Core.Path.{◌≡◌}
use mathlib.Core.Bool.{true, false≢true}
use mathlib.Core.Logic.{◌⊎◌, inl, inr, ⊎_elim}
use native.Mathlib.Omega.{arith}
use lib.ListN.{length}
use Rattle.pattern.proofs.SegmentLaws.{stands}
use Rattle.joining.proofs.OnceLaws.{alone, link_alone}
use Rattle.joining.proofs.linking.link_segment.Goals as goal

pub link_sent-l-requires : goal.link_sent-l-requires
link_sent-l-requires c =
    let a = c.args in
    let one : (a.d.less ≡ true) ⊎ (a.d.size ≡ 0) = ⊎_elim inl (λ w. inr w.1) c.then-d.either in (
      alone a.d.less a.d.size a.n a.e a.values.now c.requires one,
      λ h. record { above = omega arith; top = omega arith; most = λ q. absurd (false≢true q) },
    )

pub returns-then-d : goal.returns-then-d
returns-then-d c =
    let a = c.args in
    link_alone a.d.less a.d.size a.n a.e a.values.now c.requires
    (⊎_elim inl (λ w. inr w.1) c.then-d.either)
    c.link_sent-l.ensures

pub link_sent-requires : goal.link_sent-requires
link_sent-requires c =
    let a = c.args in
    let s = rw c.if-d.false at c.requires in
    (s, λ h. stands _ a.d.size a.n (length a.values.now) a.e s (omega arith))

pub returns : goal.returns
returns c = rw c.if-d.false c.link_sent.ensures
