-- The two directions in which elements pass step 8.
use Rattle.std.specs.Prelude.{◌≡◌, ℕ, ◌⊎◌, List}
use Rattle.interleaving.specs.Second.{second_interleaved}

-- Of a list that is read and one that is written `rows` is the one whose elements stand in rows, and `sent` the other. Of a number for either
-- `reads` takes that of the list which is read, and `writes` the other. Once step 8 is done what is read stands as `seen` has it, and what is written
-- as `made` has it.
-- from the rows
pub record Ahead {A : Type 0} (rows sent : List A → List A → List A) (seen made : List A → List A) (reads writes : ℕ → ℕ → ℕ) : Type 0 where
  pub row : rows ≡ (λ from to. from)
  pub other : sent ≡ (λ from to. to)
  pub source : seen ≡ second_interleaved
  pub target : made ≡ (λ xs. xs)
  pub read : reads ≡ (λ seat place. seat)
  pub write : writes ≡ (λ seat place. place)

-- and back
pub record Undoing {A : Type 0} (rows sent : List A → List A → List A) (seen made : List A → List A) (reads writes : ℕ → ℕ → ℕ) : Type 0 where
  pub row : rows ≡ (λ from to. to)
  pub other : sent ≡ (λ from to. from)
  pub source : seen ≡ (λ xs. xs)
  pub target : made ≡ second_interleaved
  pub read : reads ≡ (λ seat place. place)
  pub write : writes ≡ (λ seat place. seat)

abbrev pub Directed : {A : Type 0} → (List A → List A → List A) → (List A → List A → List A) → (List A → List A) → (List A → List A)
    → (ℕ → ℕ → ℕ) → (ℕ → ℕ → ℕ) → Type 0
Directed rows sent seen made reads writes = Ahead rows sent seen made reads writes ⊎ Undoing rows sent seen made reads writes
