use mathlib.Core.Path.{◌≡◌, refl, sym, ap, ◌∙◌}
use Prim.Native.Nat.{ℕ}
use lib.Ieee.{Float, of_bits}
use Rattle.std.specs.Prelude.{Result, Ok, Err}
use Rattle.std.specs.Result.{result_unwrap_or}
use Rattle.counters.specs.Refusals.{value_or}
use Rattle.counters.specs.declared.refusal.Refusal.{Refusal}
use Rattle.joining.specs.Joining.{value_of, count_of}
use Rattle.joining.specs.declared.Heard.{Heard}
use Rattle.joining.specs.declared.Heard.TheVariants.{Nothing}
use Rattle.receiving.specs.Listening.{numbers, heard_numbers}
use Rattle.ummervia.proofs.exports_home.umv_heard.Goals.{After-number, in-Nothing, in-Once, in-Joined}
use Rattle.ummervia.proofs.exports_home.umv_heard.Goals as goal

-- what stands where the call refuses
or_same : (d : Heard) (r : Result Heard Refusal) → result_unwrap_or r d ≡ value_or d r
or_same d (Ok x) = refl
or_same d (Err e) = refl

heard : (c : After-number) → c.unwrap_or.result ≡ value_or Nothing c.heard-answer.result
heard c = c.unwrap_or.ensures ∙ or_same Nothing c.heard-answer.result

made : {n m i j : ℕ} {v : Float} {k : ℕ} {h g : Heard} → n ≡ m → i ≡ j → v ≡ value_of g → k ≡ count_of g → g ≡ h
    → numbers n i v k ≡ heard_numbers (record { number = m; at = j; heard = h })
made p q a b e = rw (p, q, a, b, e)

pub returns : goal.returns
unfolding of_bits value_of count_of
returns c =
    let g = (goal.at.returns c).After-number in
    elim c.match-unwrap_or.branch [
      | in-Nothing w ↦ made c.number.ensures c.index.ensures w.value-is w.copies-is (sym w.in-Nothing.is ∙ heard g) ∙ ap heard_numbers c.heard-answer.ensures
      | in-Once w ↦ made c.number.ensures c.index.ensures w.value-is w.copies-is (sym w.in-Once.is ∙ heard g) ∙ ap heard_numbers c.heard-answer.ensures
      | in-Joined w ↦ made c.number.ensures c.index.ensures w.value-is w.copies-is (sym w.in-Joined.is ∙ heard g) ∙ ap heard_numbers c.heard-answer.ensures
    ]
