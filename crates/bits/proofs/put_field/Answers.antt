use mathlib.Core.Path.{◌≡◌, sym, ap, ap₂, ◌∙◌}
use mathlib.Core.List.{List}
use Prim.Native.Nat.{ℕ, ◌+◌}
use native.Mathlib.Numerals.{add-one}
use native.Mathlib.Omega.{arith}
use lib.ListN.{length, set}
use lib.Seq.{paste, paste-suc}
use Rattle.bits.specs.Bits.{field, digit}
use Rattle.laws.proofs.TableLaws.{table-length, table_at}
use Rattle.bits.proofs.put_field.Goals as goal

pub loop-i-preserved : goal.loop-i-preserved
loop-i-preserved c =
    let a = c.args in
    let l = c.loop-i in
    let t : length (field a.n a.v) ≡ a.n = table-length (digit a.n a.v) 0 a.n in
    ap₂ (λ (d : List ℕ) (x : ℕ). set d (a.at + l.i) x) l.invariant (sym (table_at (digit a.n a.v) a.n l.i c.loop-i-test.true))
    ∙ paste-suc a.bs.now a.at (field a.n a.v) l.i 0 (omega arith) (omega arith)
    ∙ ap (paste a.bs.now a.at (field a.n a.v)) (sym (add-one l.i))
