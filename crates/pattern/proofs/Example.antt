-- Values of document 01, computed by the text's walk: N = 6 and e = 1, to D = 4 and to D = 8; bits alone, and with their copies' numbers.
use mathlib.Core.Path.{◌≡◌, refl}
use mathlib.Core.List.{List, [], ◌∷◌}
use Prim.Native.Nat.{ℕ, suc}
use native.Mathlib.Omega.{arith}
use lib.IntN.{pos, negsuc}
use Rattle.laws.specs.Tables.{table}
use Rattle.pattern.specs.Text.{punctured_text, while_low, repeated_text, matched_text}
use Rattle.pattern.specs.Pattern.{as_is, again, grown, copies_of, shared_from, shared, Rates}
use Rattle.pattern.proofs.MatchedLaws.{changed-none, changed-all, copies_added}

abbrev bits : List ℕ
bits = table suc 0 6

abbrev copied : ℕ → ℕ → ℕ × ℕ
copied x j = (x, j)

-- d = -2: bits 1 and 4 are dropped
pub dropped : matched_text as_is (negsuc 1) 6 1 bits ≡ 2 ∷ 3 ∷ 5 ∷ 6 ∷ []
unfolding table punctured_text matched_text
dropped = refl

pub dropped-copies : matched_text copied (negsuc 1) 6 1 bits ≡ (2, 0) ∷ (3, 0) ∷ (5, 0) ∷ (6, 0) ∷ []
unfolding table punctured_text matched_text
dropped-copies = refl

-- d = 2
pub repeated : matched_text as_is (pos 2) 6 1 bits ≡ 1 ∷ 1 ∷ 2 ∷ 3 ∷ 4 ∷ 4 ∷ 5 ∷ 6 ∷ []
unfolding table while_low repeated_text matched_text
repeated = refl

pub repeated_copies : matched_text copied (pos 2) 6 1 bits
    ≡ (1, 0) ∷ (1, 1) ∷ (2, 0) ∷ (3, 0) ∷ (4, 0) ∷ (4, 1) ∷ (5, 0) ∷ (6, 0) ∷ []
unfolding table while_low repeated_text matched_text
repeated_copies = refl

-- and the values sent, shared out again
pub shared_out : (shared {A = ℕ} (negsuc 1) 6 1 (2 ∷ 3 ∷ 5 ∷ 6 ∷ []) ≡ [] ∷ (2 ∷ []) ∷ (3 ∷ []) ∷ [] ∷ (5 ∷ []) ∷ (6 ∷ []) ∷ [])
    × (shared {A = ℕ} (pos 2) 6 1 (1 ∷ 1 ∷ 2 ∷ 3 ∷ 4 ∷ 4 ∷ 5 ∷ 6 ∷ []) ≡ (1 ∷ 1 ∷ []) ∷ (2 ∷ []) ∷ (3 ∷ []) ∷ (4 ∷ 4 ∷ []) ∷ (5 ∷ []) ∷ (6 ∷ []) ∷ [])
unfolding again grown shared_from shared
shared_out = (refl, refl)

-- N = 1, d = 59,999: the one bit is sent 60,000 times
pub sixty_thousand : copies_of (pos 59999) 1 1 0 ≡ 60000
sixty_thousand =
    let r : Rates (pos 59999) 1 60000 1 = record { change = refl; empty = λ z. absurd (omega arith); start = λ n k. (omega arith, omega arith) } in
    omega (arith, copies_added 59999 1 60000 1 0 r, changed-none (pos 59999) 1 60000 1 r, changed-all (pos 59999) 1 60000 1 r)
