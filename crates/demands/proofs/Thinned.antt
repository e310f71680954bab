-- > In any L neighbouring bits of one frame's segment, L from 0 to N with N above 0, the number dropped (or the number of extra copies) is L x |d| / N rounded
-- > down or rounded up. It holds for every accepted sheet, every channel and every frame number.
--
-- The theorems speak of what the public calls answer for a sheet's bytes s, as demand 3 does, and of copies however they are counted: in step 6's text, by the names of
-- the frame's places, or as `heard` gives them.
use mathlib.Core.Path.{◌≡◌, refl, sym, ◌∙◌}
use mathlib.Core.List.{List}
use Prim.Native.Nat.{ℕ, ◌≤◌, ◌<◌}
use native.Mathlib.Omega.{arith}
use lib.Ieee.{Float}
use lib.ListN.{length}
use Rattle.laws.specs.Sums.{sum_to}
use Rattle.laws.proofs.TestLaws.{split}
use Rattle.looking.specs.Looking.{last_frame}
use Rattle.receiving.specs.Listening.{heard_answer, link_answer, heard_numbers}
use Rattle.demands.specs.Words.{asked_n, Has, sent_bits, times}
use Rattle.demands.specs.Thinned.{CountsNames, fewer, Evenly, Relied}
use Rattle.demands.proofs.AskedLaws.{channel-some}
use Rattle.demands.proofs.ZeroLaws.{heard-zero, link_zero}
use Rattle.demands.proofs.EvenLaws.{even}
use Rattle.demands.proofs.RelyLaws as RelyLaws
use Rattle.demands.proofs.Demand3.{copied, copies-text, heard, link}

-- by step 6's own text: of any bytes, frame number and channel
pub sent_evenly : (s : List ℕ) (frame k : ℕ) → Evenly s k (λ m. times m (sent_bits s frame k))
sent_evenly s frame k n a L from to = even s frame k (λ m. times m (sent_bits s frame k)) (λ m h. refl) n a L from to

-- by the names that `name` answers; and there are such counts: those of the text
pub named_evenly : (s : List ℕ) (frame k : ℕ) (copies : ℕ → ℕ) → frame ≤ last_frame → CountsNames s frame k copies → Evenly s k copies
named_evenly s frame k copies early counts n a L from to =
    even s frame k copies (λ m h. let w = counts m h in w.2 ∙ copies-text s frame k m early h w.0 w.1) n a L from to

pub sent_named : (s : List ℕ) (frame k : ℕ) → frame ≤ last_frame → CountsNames s frame k (λ m. times m (sent_bits s frame k))
sent_named s frame k early m h =
    let c = copied s frame k m early h in (c.0, c.1, sym (copies-text s frame k m early h c.0 c.1))

-- by the copies that `heard` gives
pub heard_evenly : (s : List ℕ) (frame : ℕ) (values : List Float) (k : ℕ) → ((m : ℕ) → Has s k m → (heard_answer s frame values k m).number ≡ 0)
    → Evenly s k (λ m. (heard_numbers (heard_answer s frame values k m)).copies)
heard_evenly s frame values k accepted n a L from to =
    let one : Has s k 1 = record { channel = channel-some s k n; from = omega arith; to = omega arith } in
    named_evenly s frame k (λ m. (heard_numbers (heard_answer s frame values k m)).copies) (heard-zero s frame values k 1 (accepted 1 one)).early
    (λ m h. let w = heard s frame values k m (accepted m h) in (w.0, w.1, w.3))
    n a L from to

-- what decoders rely on follows from that alone
pub relied : (s : List ℕ) (k : ℕ) (copies : ℕ → ℕ) → 0 < asked_n s k → Evenly s k copies → Relied s k copies
relied = RelyLaws.relied

-- a link record's punctured bits are |d| for d < 0, otherwise 0
pub link_punctured : (s : List ℕ) (frame : ℕ) (values : List Float) (k : ℕ) → (link_answer s frame values k).number ≡ 0
    → (link_answer s frame values k).link.punctured ≡ fewer s k
link_punctured s frame values k accepted =
    let l = link s frame values k accepted in
    let count : ℕ → ℕ = λ m. length (l.places m) in
    l.punctured
    ∙ split 1 (asked_n s k)
    (λ some. (relied s k count some (named_evenly s frame k count (link_zero s frame values k accepted).early (λ m h. (l.places m, l.own m h, refl)))).dropped-all)
    (λ none. let z : asked_n s k ≡ 0 = omega arith in rw z (unfold sum_to in omega arith))
