-- What the code of taking back works with: segments taken out of multiplexed values.
use Rattle.std.specs.Prelude.{List, [], ℕ, zero, suc, Float, get_or}
use Rattle.std.proofs.lemmas.List.Edits.{sets}
use Rattle.sheet.specs.Sizes.{size_of}
use Rattle.sheet.specs.declared.Sheet.{Sheet}
use Rattle.matching.specs.Shares.{change_of, channel_part}
use Rattle.pattern.specs.Pattern.{shared}
use Rattle.frame.specs.Frame.{start_at}
use Rattle.joining.specs.Joining.{join_of, heard_of, home_of}
use Rattle.joining.specs.Linked.{link_of}
use Rattle.joining.specs.declared.Heard.{Heard}
use Rattle.joining.specs.declared.linking.Link.{Link}
use Rattle.homing.specs.Home.{segment_start}

-- a channel's segment, out of its values as they were sent
unfoldable pub home_in : Sheet → ℕ → ℕ → List Float → List Float
home_in sh number i vs = home_of (change_of sh i) (size_of sh i) (start_at sh number i) vs

unfoldable pub hear_in : Sheet → ℕ → ℕ → ℕ → List Float → Heard
hear_in sh number i m vs = join_of (get_or (shared (change_of sh i) (size_of sh i) (start_at sh number i) vs) m [])

unfoldable pub survey_in : Sheet → ℕ → ℕ → List Float → Link
survey_in sh number i vs = link_of (heard_of (change_of sh i) (size_of sh i) (start_at sh number i) vs)

-- the segments of the first n channels, written over what stood in the buffer
unfoldable pub taken_from : Sheet → ℕ → List Float → ℕ → List Float → List Float
taken_from sh number ms zero old = old
taken_from sh number ms (suc n) old = sets (taken_from sh number ms n old) (segment_start sh number n) (home_in sh number n (channel_part sh n ms))
