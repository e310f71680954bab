use mathlib.Core.Path.{◌≡◌, refl, sym, ◌∙◌}
use borrow.Author.Rules.{rules}
use Rattle.counters.specs.Refusals.{refusal_number}
use Rattle.writing.specs.Numbers.{write_number}
use Rattle.writing.proofs.RangeLaws.{sound, field-first, write_eleven, some_number}
use Rattle.writing.proofs.numbers.check_write.Goals as goal

pub returns-in_err-check_fields : goal.returns-in_err-check_fields
returns-in_err-check_fields c =
    let a = c.args in
    let r = c.in_err-check_fields.field-0.0 in
    let e = c.in_err-check_fields.ensures.0 in
    let w : refusal_number r ≡ write_number a.fields.now a.n = e ∙ field-first a.fields.now a.n (λ z. some_number r (e ∙ z)) in
    search rules

pub bytes_needed-requires : goal.bytes_needed-requires
bytes_needed-requires c = (sound c.args.fields.now (sym c.in_ok-check_fields.ensures.0)).ranged

pub returns-then-n-bytes_needed : goal.returns-then-n-bytes_needed
returns-then-n-bytes_needed c =
    let a = c.args in
    (sym (write_eleven a.fields.now a.n (sym c.in_ok-check_fields.ensures.0) (λ y. c.if-n-bytes_needed.true (y ∙ sym c.bytes_needed.ensures.0))), refl)
