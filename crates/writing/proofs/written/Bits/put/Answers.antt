use native.Mathlib.Omega.{arith}
use mathlib.Core.Path.{refl, sym, ap, ◌∙◌}
use Prim.Native.Nat.{ℕ, ◌+◌}
use Rattle.bits.proofs.BitLaws.{field-after}
use Rattle.writing.proofs.HoldLaws.{room, holds_more}
use Rattle.writing.proofs.written.Bits.put.Goals as goal

pub returns-clause-more : goal.returns-clause-more
returns-clause-more c l h =
    let a = c.args in
    record {
      holds = holds_more a.self.now.bits room l a.self.now.at a.width a.value h.holds (sym h.at) (omega arith) refl c.put_field.ensures;
      at = ap (λ (x : ℕ). x + a.width) h.at ∙ sym (field-after l a.width a.value);
    }
