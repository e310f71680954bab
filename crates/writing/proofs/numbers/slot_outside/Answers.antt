use native.Mathlib.Omega.{arith}
use mathlib.Core.Path.{◌≡◌, sym, ap, ◌∙◌}
use mathlib.Core.Bool.{Bool, true, ◌||◌, or-true}
use borrow.Author.Tests.{lt-ltb}
use lib.Dec.{ltb}
use Rattle.laws.specs.Sums.{any_to}
use Rattle.laws.proofs.SumLaws.{any_hit}
use Rattle.sheet.specs.Counts.{most_codes, most_capacity}
use Rattle.sheet.specs.Fields.{phchs_of, capacity_of}
use Rattle.writing.specs.Numbers.{outside}
use Rattle.writing.proofs.numbers.slot_outside.Goals as goal

pub returns-then-fields-m-gt-MOST_CAPACITY : goal.returns-then-fields-m-gt-MOST_CAPACITY
returns-then-fields-m-gt-MOST_CAPACITY c =
    let f = c.args.fields.now in
    let t = c.args.t in
    let hit : any_to (λ k. ltb most_capacity (capacity_of f t k)) (phchs_of f t) ≡ true = any_hit (λ k. ltb most_capacity (capacity_of f t k)) (phchs_of f t) c.loop-p.p (omega arith) (lt-ltb _ _ c.if-fields-m-gt-MOST_CAPACITY.true) in
    sym (ap (λ (b : Bool). outside 1 most_codes (phchs_of f t) || b) hit ∙ or-true (outside 1 most_codes (phchs_of f t)))
