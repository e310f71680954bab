use mathlib.Core.Path.{sym, ◌∙◌}
use lib.ListN.{length}
use Rattle.pattern.proofs.SegmentLaws.{sized_same}
use Rattle.joining.proofs.HomeLaws.{home_same}
use Rattle.joining.proofs.filling.join_segment.Goals as goal

pub copy_values-requires : goal.copy_values-requires
copy_values-requires c =
    let a = c.args in
    sym (sized_same a.d.less a.d.size (length a.segment.now) (length a.values.now) a.e c.requires c.if-d-eq0.true)

pub returns-then-d-eq0 : goal.returns-then-d-eq0
returns-then-d-eq0 c =
    let a = c.args in
    c.copy_values.ensures
    ∙ sym (home_same a.d.less a.d.size (length a.segment.now) a.e a.values.now c.if-d-eq0.true
    (sized_same a.d.less a.d.size (length a.segment.now) (length a.values.now) a.e c.requires c.if-d-eq0.true))
