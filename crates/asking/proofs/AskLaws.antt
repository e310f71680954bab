-- Laws of asking for sizes and for a channel's numbers.
use mathlib.Core.Path.{◌≡◌, ap, ◌∙◌}
use mathlib.Core.List.{List}
use Prim.Native.Nat.{ℕ, ◌-◌}
use Rattle.std.specs.Prelude.{Result, Ok, Err, IfOk}
use Rattle.counters.specs.Refusals.{refusal_number, answer_index, Refuses}
use Rattle.counters.specs.declared.refusal.Refusal.{Refusal}
use Rattle.sheet.specs.Fields.{sheet_of}
use Rattle.sheet.specs.declared.Sheet.{Sheet}
use Rattle.looking.proofs.LookLaws.{given_refused, given_accepted}
use Rattle.asking.specs.Asking.{channel_lines, channel_number, channel_made, channel_in, no_channel, channel_answer, channel_given, channel_left}
use Rattle.asking.specs.declared.ChannelSizes.{ChannelSizes}

pub channel-same : (sh : Sheet) (i : ℕ) {f e n v : ℕ} → f ≡ (channel_in sh i).f → e ≡ (channel_in sh i).e → n ≡ (channel_in sh i).n → v ≡ (channel_in sh i).v
    → channel_made 0 f e n v ≡ channel_in sh i
channel-same sh i ef ee en ev = rw (ef, ee, en, ev)

pub channel_refused : (s : List ℕ) (k : ℕ) (r : Refusal) → refusal_number r ≡ channel_number s k → no_channel (refusal_number r) ≡ channel_answer s k
channel_refused s k r e = ap no_channel e ∙ given_refused (channel_number s k) _ _ r e

pub channel_from : (s : List ℕ) (k : ℕ) (x : Result ChannelSizes Refusal) → Refuses (channel_lines s k) x → IfOk x (λ c. channel_given c ≡ channel_in (sheet_of s) (k - 1))
    → (channel_left x ≡ channel_answer s k) × (answer_index x ≡ 0)
channel_from s k (Ok c) n v = (v ∙ given_accepted (channel_number s k) _ _ n.0, n.1)
channel_from s k (Err r) n v = (channel_refused s k r n.0, n.1)
