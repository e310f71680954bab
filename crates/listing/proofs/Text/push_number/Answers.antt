use native.Mathlib.Omega.{arith}
use mathlib.Core.Path.{◌≡◌, sym, ap, ◌∙◌, subst}
use Prim.Native.Nat.{◌≤◌, ◌<◌}
use lib.ListN.{length, take}
use Rattle.listing.specs.Listing.{decimal_of, Pushed}
use Rattle.listing.proofs.ListLaws.{decimal_is, few_digits}
use Rattle.listing.proofs.Text.push_number.Goals as goal

pub push-requires : goal.push-requires
push-requires c =
    let a = c.args in
    let d = c.decimal-k in
    let u : a.n < 18446744073709551616 = omega arith in
    omega (arith, d.ensures.in_bounds.1, few_digits a.n d.result d.ensures.len u)

pub returns : goal.returns
returns c =
    let a = c.args in
    let d = c.decimal-k in
    let u : a.n < 18446744073709551616 = omega arith in
    let b : d.result ≤ 20 = few_digits a.n d.result d.ensures.len u in
    let e : take d.result d.new.out ≡ decimal_of a.n = d.ensures.digits ∙ decimal_is a.n d.result d.ensures.len b in
    let m : length (decimal_of a.n) ≡ d.result = ap length (sym e) ∙ sym d.ensures.in_bounds.1 in
    (subst (Pushed a.self.now c.push.new.self) e c.push.ensures, omega arith)
