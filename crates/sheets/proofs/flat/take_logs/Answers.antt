use Prim.Native.Nat.{◌+◌, ◌*◌, ◌/◌, ◌%◌}
use lib.ListN.{get_or}
use Rattle.std.proofs.Common.{rules}
use Rattle.sheet.specs.Counts.{most_codes, most_paired, most_logs}
use Rattle.laws.proofs.FromFnLaws.{made-table}
use Rattle.sheets.specs.Flat.{logs_from}
use Rattle.sheets.proofs.flat.take_logs.Goals as goal

pub returns : goal.returns
returns c =
    made-table _ _ (λ k. get_or c.args.flat.now (logs_from + (most_codes * (k / most_paired) + k % most_paired)) 0)
    (λ k y q h. search rules) c.from_fn.result most_logs 0 c.from_fn.ensures.items
