-- The index of the first element that fails a test, and the length where none does.
use Rattle.std.specs.Prelude.{◌≡◌, Bool, cond, List, [], ◌∷◌, ℕ, suc, length}

unfoldable pub first_fail : {A : Type 0} → (A → Bool) → List A → ℕ
first_fail ok [] = 0
first_fail ok (x ∷ xs) = cond (ok x) (suc (first_fail ok xs)) 0

-- none fails
abbrev pub NoneFails : {A : Type 0} → (A → Bool) → List A → Type 0
NoneFails ok xs = first_fail ok xs ≡ length xs
