use mathlib.Core.Path.{◌≡◌, refl, ◌∙◌}
use Prim.Native.Nat.{ℕ}
use Rattle.std.specs.Prelude.{Result, Ok, Err}
use Rattle.std.specs.Result.{result_unwrap_or}
use Rattle.counters.specs.Refusals.{value_or}
use Rattle.counters.specs.declared.refusal.Refusal.{Refusal}
use Rattle.joining.specs.declared.linking.Link.{Link}
use lib.Ieee.{of_bits}
use Rattle.receiving.specs.Listening.{link_made}
use Rattle.ummervia.proofs.exports_home.umv_link.Goals as goal

-- what stands where the call refuses
or_same : (d : Link) (r : Result Link Refusal) → result_unwrap_or r d ≡ value_or d r
or_same d (Ok x) = refl
or_same d (Err e) = refl

made : {n m i j : ℕ} {g h : Link} → n ≡ m → i ≡ j → g ≡ h
    → link_made n i g.least g.greatest g.punctured ≡ (record { number = m; at = j; link = h })
made p q r = rw (p, q, r)

pub returns : goal.returns
unfolding of_bits
returns c =
    let r = c.link-answer.result in
    let e = c.unwrap_or-found.ensures ∙ or_same _ r in
    made c.number.ensures c.index.ensures e ∙ c.link-answer.ensures
