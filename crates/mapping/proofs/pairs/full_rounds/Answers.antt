use Rattle.mapping.proofs.RunLaws.{rounds_min}
use Rattle.mapping.proofs.pairs.full_rounds.Goals as goal

pub returns : goal.returns
returns c =
    let a = c.args in
    rw (c.min.ensures, c.whole_runs.ensures, c.whole_runs-2.ensures)
    (rounds_min a.u a.b a.v a.c c.requires.0 c.requires.1)
