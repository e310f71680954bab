-- What demands 2 and 3 take for the answers of the library's calls is what those that C links leave.
use mathlib.Core.Path.{◌≡◌}
use Rattle.looking.specs.Outcome.{outcome}
use Rattle.asking.specs.Asking.{sizes_made, sizes_answer, channel_made, channel_answer}
use Rattle.asking.specs.Naming.{name_left, name_answer}
use Rattle.sending.specs.Building.{build_into}
use Rattle.receiving.specs.Receiving.{take_into, finish_into}
use Rattle.receiving.specs.Listening.{heard_answer, numbers, heard_numbers, link_made, link_answer}
use Rattle.counters.specs.Promised.{Always}
use Rattle.demands.proofs.Answered as Answered

pub umv_sizes : Always Rattle.ummervia_c.specs.contracts.umv_sizes.ended Rattle.ummervia_c.proofs.umv_sizes.Reads.Learnt
    (λ κs (bytes, _) r (_, (channels, (slots, (contents, (capacity, (joined, _)))))). sizes_made r channels slots contents capacity joined ≡ sizes_answer bytes.now)
umv_sizes = Answered.umv_sizes

pub umv_channel : Always Rattle.ummervia_c.specs.contracts.umv_channel.ended Rattle.ummervia_c.proofs.umv_channel.Reads.Learnt
    (λ κs (bytes, (trch, _)) r (_, (_, (f, (e, (n, (v, _)))))). channel_made r f e n v ≡ channel_answer bytes.now trch)
umv_channel = Answered.umv_channel

pub umv_name : Always Rattle.ummervia_c.specs.contracts.umv_name.ended Rattle.ummervia_c.proofs.umv_name.Reads.Learnt
    (λ κs (bytes, (frame, (subframe, (slot, (phch, (place, _)))))) r (_, (_, (_, (_, (_, (_, (channel, (bit, (copy, _))))))))).
    name_left r channel bit copy ≡ name_answer bytes.now frame subframe slot phch place)
umv_name = Answered.umv_name

pub umv_build : Always Rattle.ummervia_c.specs.contracts.umv_build.ended Rattle.ummervia_c.proofs.umv_build.Reads.Learnt
    (λ κs (bytes, (frame, (contents, (old, _)))) r (_, (_, (_, (new, (at, _))))). outcome r at new ≡ build_into bytes.now frame contents.now old.now)
umv_build = Answered.umv_build

pub umv_take_back : Always Rattle.ummervia_c.specs.contracts.umv_take_back.ended Rattle.ummervia_c.proofs.umv_take_back.Reads.Learnt
    (λ κs (bytes, (number, (frame, (old, _)))) r (_, (_, (_, (new, (at, _))))). outcome r at new ≡ take_into bytes.now number frame.now old.now)
umv_take_back = Answered.umv_take_back

pub umv_finish : Always Rattle.ummervia_c.specs.contracts.umv_finish.ended Rattle.ummervia_c.proofs.umv_finish.Reads.Learnt
    (λ κs (bytes, (trch, (joined, (old, _)))) r (_, (_, (_, (new, (at, _))))). outcome r at new ≡ finish_into bytes.now trch joined.now old.now)
umv_finish = Answered.umv_finish

pub umv_heard : Always Rattle.ummervia_c.specs.contracts.umv_heard.ended Rattle.ummervia_c.proofs.umv_heard.Reads.Learnt
    (λ κs (bytes, (number, (frame, (trch, (bit, _))))) r (_, (_, (_, (_, (_, (at, (value, (copies, _)))))))). numbers r at value copies ≡ heard_numbers (heard_answer bytes.now number frame.now trch bit))
umv_heard = Answered.umv_heard

pub umv_link : Always Rattle.ummervia_c.specs.contracts.umv_link.ended Rattle.ummervia_c.proofs.umv_link.Reads.Learnt
    (λ κs (bytes, (number, (frame, (trch, _)))) r (_, (_, (_, (_, (at, (least, (greatest, (punctured, _)))))))). link_made r at least greatest punctured ≡ link_answer bytes.now number frame.now trch)
umv_link = Answered.umv_link
