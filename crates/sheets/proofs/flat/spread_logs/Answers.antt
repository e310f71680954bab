use Prim.Native.Nat.{◌/◌, ◌%◌}
use Rattle.std.proofs.Common.{rules}
use Rattle.sheet.specs.Counts.{most_codes, most_capacities}
use Rattle.sheet.specs.Fields.{log_in}
use Rattle.laws.proofs.FromFnLaws.{made-table}
use Rattle.sheets.proofs.flat.spread_logs.Goals as goal

pub returns : goal.returns
returns c =
    made-table _ _ (λ m. log_in c.args.logs.now (m / most_codes) (m % most_codes)) (λ m y q h. search rules) c.from_fn.result most_capacities 0
    c.from_fn.ensures.items
