use native.Mathlib.Omega.{arith}
use mathlib.Core.Path.{sym, ap, ◌∙◌}
use Rattle.counters.proofs.RefusalLaws.{refusal_positive}
use Rattle.sheet.specs.declared.Sheet.{Sheet}
use Rattle.listing.specs.Listing.{lines_to, refusal, text_of}
use Rattle.listing.proofs.ListLaws.{listing_yes, listing_no}
use Rattle.listing.proofs.list_sheet.Goals as goal

pub returns-in-Ok : goal.returns-in-Ok
returns-in-Ok c =
    let o = c.in-Ok.ensures in
    let f = ap (λ (x : Sheet). lines_to x x.channels) o.opened in
    search (c.list.ensures.0 ∙ ap text_of (f ∙ listing_yes c.args.bytes.now (sym o.number.0)), c.list.ensures.1)

pub returns-in-Err : goal.returns-in-Err
returns-in-Err c =
    let e = c.in-Err.ensures.number.0 in
    let n = c.number.ensures ∙ e in
    search (c.refuse.ensures.0 ∙ ap text_of (ap refusal n ∙ listing_no c.args.bytes.now (λ q. omega (arith, refusal_positive c.in-Err.refusal))), c.refuse.ensures.1)
