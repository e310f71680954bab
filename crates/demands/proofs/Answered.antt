-- What demands 2 and 3 take for the answers of the public calls is what their contracts, as the toolchain reads them out of the code, say that they leave.
-- The parameters stand as in Demand1.
use mathlib.Core.Path.{◌≡◌}
use Rattle.counters.specs.Refusals.{answer_number, at_of}
use Rattle.sheet.specs.Numbers.{read_left, read_answer}
use Rattle.looking.specs.Outcome.{outcome}
use Rattle.asking.specs.Asking.{sizes_made, sizes_left, sizes_answer, channel_made, channel_left, channel_answer}
use Rattle.asking.specs.Naming.{name_left, naming_left, name_answer}
use Rattle.sending.specs.Building.{build_into}
use Rattle.receiving.specs.Receiving.{take_into, finish_into}
use Rattle.receiving.specs.Listening.{heard_left, heard_answer, numbers, heard_numbers, link_made, link_left, link_answer}
use Rattle.counters.specs.Promised.{Always}

pub sheet_read : Always Rattle.sheets.specs.contracts.sheet_read.ended Rattle.sheets.proofs.sheet_read.Reads.Learnt
    (λ κs (bytes, _) r _. read_left r ≡ read_answer bytes.now)
sheet_read κs i r v met = met.0

pub sizes : Always Rattle.asking.specs.contracts.sizes.ended Rattle.asking.proofs.sizes.Reads.Learnt
    (λ κs (bytes, _) r _. sizes_left r ≡ sizes_answer bytes.now)
sizes κs i r v met = met.0

pub umv_sizes : Always Rattle.ummervia.specs.contracts.exports.umv_sizes.ended Rattle.ummervia.proofs.exports.umv_sizes.Reads.Learnt
    (λ κs (bytes, _) r (_, (channels, (slots, (contents, (capacity, (joined, _)))))). sizes_made r channels slots contents capacity joined ≡ sizes_answer bytes.now)
umv_sizes κs i r v met = met

pub channel : Always Rattle.asking.specs.contracts.channel.ended Rattle.asking.proofs.channel.Reads.Learnt
    (λ κs (bytes, (trch, _)) r _. channel_left r ≡ channel_answer bytes.now trch.0)
channel κs i r v met = met.0

pub umv_channel : Always Rattle.ummervia.specs.contracts.exports.umv_channel.ended Rattle.ummervia.proofs.exports.umv_channel.Reads.Learnt
    (λ κs (bytes, (trch, _)) r (_, (_, (f, (e, (n, (v, _)))))). channel_made r f e n v ≡ channel_answer bytes.now trch)
umv_channel κs i r v met = met

pub name : Always Rattle.asking.specs.contracts.name.name.ended Rattle.asking.proofs.name.name.Reads.Learnt
    (λ κs (bytes, (frame, (subframe, (slot, (phch, (place, _)))))) r _.
    naming_left r ≡ name_answer bytes.now frame.0 subframe slot phch.0 place)
name κs i r v met = met.0

pub umv_name : Always Rattle.ummervia.specs.contracts.exports.umv_name.ended Rattle.ummervia.proofs.exports.umv_name.Reads.Learnt
    (λ κs (bytes, (frame, (subframe, (slot, (phch, (place, _)))))) r (_, (_, (_, (_, (_, (_, (channel, (bit, (copy, _))))))))).
    name_left r channel bit copy ≡ name_answer bytes.now frame subframe slot phch place)
umv_name κs i r v met = met

pub build : Always Rattle.sending.specs.contracts.build.ended Rattle.sending.proofs.build.Reads.Learnt
    (λ κs (bytes, (frame, (contents, (old, _)))) r (_, (_, (_, (new, _)))). outcome (answer_number r) (at_of r) new ≡ build_into bytes.now frame.0 contents.now old.now)
build κs i r v met = met

pub umv_build : Always Rattle.ummervia.specs.contracts.exports.umv_build.ended Rattle.ummervia.proofs.exports.umv_build.Reads.Learnt
    (λ κs (bytes, (frame, (contents, (old, _)))) r (_, (_, (_, (new, (at, _))))). outcome r at new ≡ build_into bytes.now frame contents.now old.now)
umv_build κs i r v met = met

pub take_back : Always Rattle.receiving.specs.contracts.take_back.ended Rattle.receiving.proofs.take_back.Reads.Learnt
    (λ κs (bytes, (number, (frame, (old, _)))) r (_, (_, (_, (new, _)))). outcome (answer_number r) (at_of r) new ≡ take_into bytes.now number.0 frame.now old.now)
take_back κs i r v met = met

pub umv_take_back : Always Rattle.ummervia.specs.contracts.exports_home.umv_take_back.ended Rattle.ummervia.proofs.exports_home.umv_take_back.Reads.Learnt
    (λ κs (bytes, (number, (frame, (old, _)))) r (_, (_, (_, (new, (at, _))))). outcome r at new ≡ take_into bytes.now number frame.now old.now)
umv_take_back κs i r v met = met

pub finish : Always Rattle.receiving.specs.contracts.finishing.finish.ended Rattle.receiving.proofs.finishing.finish.Reads.Learnt
    (λ κs (bytes, (trch, (joined, (old, _)))) r (_, (_, (_, (new, _)))). outcome (answer_number r) (at_of r) new ≡ finish_into bytes.now trch.0 joined.now old.now)
finish κs i r v met = met

pub umv_finish : Always Rattle.ummervia.specs.contracts.exports_home.umv_finish.ended Rattle.ummervia.proofs.exports_home.umv_finish.Reads.Learnt
    (λ κs (bytes, (trch, (joined, (old, _)))) r (_, (_, (_, (new, (at, _))))). outcome r at new ≡ finish_into bytes.now trch joined.now old.now)
umv_finish κs i r v met = met

pub heard : Always Rattle.receiving.specs.contracts.listening.heard.ended Rattle.receiving.proofs.listening.heard.Reads.Learnt
    (λ κs (bytes, (number, (frame, (trch, (bit, _))))) r _. heard_left r ≡ heard_answer bytes.now number.0 frame.now trch.0 bit.0)
heard κs i r v met = met

pub umv_heard : Always Rattle.ummervia.specs.contracts.exports_home.umv_heard.ended Rattle.ummervia.proofs.exports_home.umv_heard.Reads.Learnt
    (λ κs (bytes, (number, (frame, (trch, (bit, _))))) r (_, (_, (_, (_, (_, (at, (value, (copies, _)))))))). numbers r at value copies ≡ heard_numbers (heard_answer bytes.now number frame.now trch bit))
umv_heard κs i r v met = met

pub link : Always Rattle.receiving.specs.contracts.listening.link.ended Rattle.receiving.proofs.listening.link.Reads.Learnt
    (λ κs (bytes, (number, (frame, (trch, _)))) r _. link_left r ≡ link_answer bytes.now number.0 frame.now trch.0)
link κs i r v met = met

pub umv_link : Always Rattle.ummervia.specs.contracts.exports_home.umv_link.ended Rattle.ummervia.proofs.exports_home.umv_link.Reads.Learnt
    (λ κs (bytes, (number, (frame, (trch, _)))) r (_, (_, (_, (_, (at, (least, (greatest, (punctured, _)))))))). link_made r at least greatest punctured ≡ link_answer bytes.now number frame.now trch)
umv_link κs i r v met = met
