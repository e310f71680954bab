-- Coming home with soft values: a received frame taken back through steps 9 to 6, and steps 2 and 1 undone. Channels are counted from 0 here.
use Rattle.std.specs.Prelude.{List, [], ℕ, zero, suc, ◌+◌, ◌*◌, ◌%◌, Float, get_or, take, drop}
use Rattle.std.specs.Float.{nan}
use Rattle.std.proofs.lemmas.List.Edits.{sets}
use Rattle.laws.specs.Sums.{sum_to}
use Rattle.sheet.specs.Fields.{tti_of, encoded_of}
use Rattle.sheet.specs.Sizes.{frames_of, size_of, equalised_of}
use Rattle.sheet.specs.declared.Sheet.{Sheet}
use Rattle.matching.specs.Shares.{change_of, channel_part}
use Rattle.pattern.specs.Pattern.{shared}
use Rattle.interleaving.specs.First.{finished}
use Rattle.frame.specs.Frame.{start_at}
use Rattle.joining.specs.Joining.{join_of, heard_of, home_of}
use Rattle.joining.specs.Linked.{link_of}
use Rattle.joining.specs.declared.Heard.{Heard}
use Rattle.joining.specs.declared.linking.Link.{Link}
use Rattle.homing.specs.Gather.{gathered}

-- the values of channel i in a received frame, in the order in which they were sent
unfoldable pub heard_in : Sheet → ℕ → List Float → List Float
heard_in sh i frame = channel_part sh i (gathered nan sh frame)

-- step 6 undone: the N joined values of channel i's segment in this frame
unfoldable pub segment_home : Sheet → ℕ → ℕ → List Float → List Float
segment_home sh number i frame = home_of (change_of sh i) (size_of sh i) (start_at sh number i) (heard_in sh i frame)

-- the buffer has all T_i, channels in order, each in first-interleaved order: where channel i begins, and its segment of this frame
unfoldable pub channel_start : Sheet → ℕ → ℕ
channel_start sh i = sum_to (equalised_of sh) i

unfoldable pub segment_start : Sheet → ℕ → ℕ → ℕ
segment_start sh number i = channel_start sh i + number % frames_of sh i * size_of sh i

-- the segments of the first n channels, written over what stood there; the rest of the buffer is as it was
unfoldable pub taken_to : Sheet → ℕ → List Float → ℕ → List Float → List Float
taken_to sh number frame zero old = old
taken_to sh number frame (suc n) old = sets (taken_to sh number frame n old) (segment_start sh number n) (segment_home sh number n frame)

unfoldable pub taken_back_of : Sheet → ℕ → List Float → List Float → List Float
taken_back_of sh number frame old = taken_to sh number frame sh.channels old

-- how many values are written: the sum of N
unfoldable pub taken_count : Sheet → ℕ
taken_count sh = sum_to (size_of sh) sh.channels

-- steps 2 and 1 undone for channel i: its E values in the coder's order, out of the whole buffer
unfoldable pub finished_of : Sheet → ℕ → List Float → List Float
finished_of sh i buffer =
    finished nan (tti_of sh i) (size_of sh i) (encoded_of sh i) (take (equalised_of sh i) (drop (channel_start sh i) buffer))

-- what was heard of bit m, from 0, of channel i's segment in this frame; and the channel's link record
unfoldable pub heard_at : Sheet → ℕ → ℕ → ℕ → List Float → Heard
heard_at sh number i m frame = join_of (get_or (shared (change_of sh i) (size_of sh i) (start_at sh number i) (heard_in sh i frame)) m [])

unfoldable pub link_in : Sheet → ℕ → ℕ → List Float → Link
link_in sh number i frame = link_of (heard_of (change_of sh i) (size_of sh i) (start_at sh number i) (heard_in sh i frame))
