-- What the sheet lister prints, byte by byte.
use Rattle.std.specs.Prelude.{◌≡◌, cond, List, [], ◌∷◌, ◌++◌, ℕ, zero, suc, ◌+◌, ◌-◌, ◌*◌, ◌^◌, ltb, length, replicate, codes}
use Rattle.io.specs.Digits.{last_digits}
use Rattle.counters.specs.Lines.{given}
use Rattle.sheet.specs.Counts.{most_channels}
use Rattle.sheet.specs.Fields.{sheet_of, encoded_of}
use Rattle.sheet.specs.Sizes.{frames_of, size_of, capacity_all}
use Rattle.sheet.specs.Numbers.{read_answer}
use Rattle.sheet.specs.declared.Sheet.{Sheet}
use Rattle.matching.specs.Shares.{share_of}
use Rattle.listing.specs.declared.Text.{Text}

-- the bytes that a listing has room for: a first line of at most 87, and one of at most 113 for each channel
abbrev pub room : ℕ
room = 87 + 113 * most_channels

-- the first k from there on, of `more` that are tried, with n < 10 ^ k
unfoldable pub least_from : ℕ → ℕ → ℕ → ℕ
least_from zero k n = k
least_from (suc more) k n = cond (ltb n (10 ^ k)) k (least_from more (k + 1) n)

-- n in decimal, with the fewest digits; n is below 10 ^ 20
unfoldable pub decimal_of : ℕ → List ℕ
decimal_of n = last_digits 10 (least_from 20 1 n) n

-- a list, and then each of some
abbrev pub followed : List ℕ → List (List ℕ) → List ℕ
followed l [] = l
followed l (t ∷ ts) = followed (l ++ t) ts

-- channels I slots T capacity D
unfoldable pub head_line : Sheet → List ℕ
head_line sh =
    followed []
    (codes "channels " ∷ decimal_of sh.channels ∷ codes " slots " ∷ decimal_of sh.slots ∷ codes " capacity " ∷ decimal_of (capacity_all sh) ∷ codes "\n" ∷ [])

-- a text, and then the line of channel i, counted from 0: its number, F, E, N, V
unfoldable pub with_line : Sheet → ℕ → List ℕ → List ℕ
with_line sh i l =
    followed l
    (decimal_of (i + 1) ∷
    codes " F " ∷ decimal_of (frames_of sh i) ∷
    codes " E " ∷ decimal_of (encoded_of sh i) ∷
    codes " N " ∷ decimal_of (size_of sh i) ∷
    codes " V " ∷ decimal_of (share_of sh i) ∷
    codes "\n" ∷ [])

-- the first line and those of the first i channels
unfoldable pub lines_to : Sheet → ℕ → List ℕ
lines_to sh zero = head_line sh
lines_to sh (suc i) = with_line sh i (lines_to sh i)

-- refused N
unfoldable pub refusal : ℕ → List ℕ
refusal n = followed [] (codes "refused " ∷ decimal_of n ∷ codes "\n" ∷ [])

-- the listing of a sheet's bytes
unfoldable pub listing_of : List ℕ → List ℕ
listing_of s = given (read_answer s).number (lines_to (sheet_of s) (sheet_of s).channels) (refusal (read_answer s).number)

-- a text in an array, zeros past it
unfoldable pub text_of : List ℕ → Text
text_of l = record { bytes = l ++ replicate (room - length l) 0; len = length l }

-- where `old` is a text, `new` is that text and t behind it
pub record Pushed (old new : Text) (t : List ℕ) : Type 0 where
  pub text : (l : List ℕ) → old ≡ text_of l → new ≡ text_of (l ++ t)
  pub len : new.len ≡ old.len + length t
