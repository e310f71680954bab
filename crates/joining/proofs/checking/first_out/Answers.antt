use Rattle.std.proofs.Common.{rules, not}
use Rattle.std.proofs.lemmas.Iterator.{YieldsList-from_slice}
use Rattle.std.proofs.lemmas.Iterator.Search.{position_from_yields_List}
use Rattle.joining.specs.Range.{in_range}
use Rattle.joining.proofs.RangeLaws.{all_none, first_place}
use Rattle.joining.proofs.checking.first_out.Goals as goal

pub returns-then-all_in_range : goal.returns-then-all_in_range
returns-then-all_in_range c = all_none in_range c.args.values.now cc

pub returns : goal.returns
returns c =
    let v = c.args.values.now in
    let p = c.position in
    first_place in_range p.result v (position_from_yields_List (λ x. not (in_range x)) _ _ p.result p.ensures.ran (YieldsList-from_slice v cc) (λ x b q k. search rules))
