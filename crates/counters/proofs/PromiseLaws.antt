-- Laws of what is promised: what is read off two things that are equal to one is equal.
use mathlib.Core.Path.{◌≡◌, refl, sym, ap, ◌∙◌}

-- the result alone: nothing is lent for writing
pub alone : {X L : Type 0} {l : L} {a b c : X} → a ≡ c → b ≡ c → (a ≡ b) × (l ≡ l)
alone p q = (p ∙ sym q, refl)

-- the result, and the last values of what is lent for writing
module _ {X R L : Type 0} (result : X → R) (lasts : X → L) where
  pub with_lasts : {a b c : X} → a ≡ c → b ≡ c → (result a ≡ result b) × (lasts a ≡ lasts b)
  with_lasts p q = (ap result (p ∙ sym q), ap lasts (p ∙ sym q))
