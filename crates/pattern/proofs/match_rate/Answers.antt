use mathlib.Core.Path.{sym, ◌∙◌}
use lib.ListN.{length}
use Rattle.pattern.specs.Every.{every}
use Rattle.pattern.proofs.SegmentLaws.{sized_same, matched-none}
use Rattle.pattern.proofs.match_rate.Goals as goal

pub copy-requires : goal.copy-requires
copy-requires c =
    let a = c.args in
    rw (sized_same a.d.less a.d.size a.n (length a.dst.now) a.e c.requires.0 c.if-m-eq0.true) c.requires.1

pub returns-then-m-eq0 : goal.returns-then-m-eq0
returns-then-m-eq0 c =
    let a = c.args in
    rw (sized_same a.d.less a.d.size a.n (length a.dst.now) a.e c.requires.0 c.if-m-eq0.true) at c.copy.ensures
    ∙ sym (matched-none a.d.less a.d.size a.n a.e (every 0 a.from a.step a.n a.src.now) c.if-m-eq0.true)
