use Rattle.std.proofs.Common.{ℕ, ◌+◌, ◌/◌, length, sym, ap, ◌∙◌, div-le_self, arith}
use Rattle.laws.specs.Sums.{sum_to}
use Rattle.laws.proofs.SumLaws.{summed_none, summed_more, summed_all}
use Rattle.mapping.specs.Mapping.{number_of, filled_as, in_runs, at}
use Rattle.mapping.specs.Runs.{had_in}
use Rattle.mapping.proofs.RunLaws.{had-number}
use Rattle.mapping.proofs.bit_at.Goals as goal

pub whole_runs-turn-requires : goal.whole_runs-turn-requires
whole_runs-turn-requires c = c.run_of.ensures.1

pub loop-q-init : goal.loop-q-init
loop-q-init c = summed_none _ 65535 _

pub had_by-sum-requires : goal.had_by-sum-requires
had_by-sum-requires c =
    let t = div-le_self c.rank_at-x.result c.run_of.result in
    let l = c.whole_runs-turn.ensures in
    (omega arith, omega (arith, l, t, c.rank_at-x.ensures.1, c.capacity.ensures.1), c.requires.4)

pub overflow_add-sum : goal.overflow_add-sum
overflow_add-sum c = omega (arith, c.loop-q.invariant.most)

pub loop-q-preserved : goal.loop-q-preserved
loop-q-preserved c = summed_more c.loop-q.invariant (omega arith) c.had_by-sum.ensures.0 c.had_by-sum.ensures.1

pub returns : goal.returns
returns c =
    let a = c.args in
    let r = c.rank_at-x in
    let B = in_runs a.runs.first a.runs.other in
    let U = at a.caps.now in
    let P = length a.caps.now in
    ap (λ (n : ℕ). r.result + n) (summed_all c.loop-q.invariant (omega arith))
    ∙ ap (λ (n : ℕ). r.result + sum_to (had_in U B a.p n) P) c.whole_runs-turn.ensures
    ∙ ap (λ (n : ℕ). r.result + sum_to (had_in U B a.p (r.result / n)) P) c.run_of.ensures.0
    ∙ sym (had-number U B P a.p r.result c.requires.0)
    ∙ ap (number_of U B P a.p) (r.ensures.0 ∙ ap (λ (n : ℕ). filled_as n (a.p + 1) a.place) c.capacity.ensures.0)
