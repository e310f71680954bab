-- > 1. Every public call takes all inputs and ends. Bad input is met with the number that document 01 gives, in the order it gives; a refused call changes
-- > no byte or soft value lent to it. No caller is asked to have checked first.
--
-- A theorem a call, in Rattle and in C, over its contract as the toolchain reads it out of the code. Behind λ κs stand the call's parameters in order, its result
-- r, and for each parameter in order what it holds at the end if it was lent for writing.
use mathlib.Core.Path.{◌≡◌}
use mathlib.Core.Logic.{◌↔◌, ◌≢◌}
use Prim.Native.Nat.{◌<◌}
use lib.ListN.{length}
use denote.Triple.Clauses.{Ended}
use Rattle.counters.specs.Refusals.{answer_number, answer_index, at_of, value_or, answer_in}
use Rattle.sheet.specs.Fields.{sheet_of, blank}
use Rattle.sheet.specs.Numbers.{read_left}
use Rattle.joining.specs.declared.Heard.TheVariants.{Nothing}
use Rattle.homing.specs.Receiving.{no_link}
use Rattle.naming.specs.Name.{name_in}
use Rattle.looking.specs.Outcome.{outcome}
use Rattle.sheets.specs.Sheets.{answer_made}
use Rattle.asking.specs.Asking.{sizes_made, channel_made, no_sizes_found, sizes_left, no_channel_found, channel_left}
use Rattle.asking.specs.Part.{part_made, no_part_found, part_left}
use Rattle.asking.specs.Naming.{name_left, no_name_found, naming_left}
use Rattle.receiving.specs.Listening.{numbers, link_made, heard_left, link_left}
use Rattle.counters.specs.Promised.{seen, AsksOf, TellsOf, SaidOf, Promised, Always}
use Rattle.demands.specs.Demanded.{Demanded, DemandedAs}
use Rattle.demands.specs.Calls.{SheetReadCall, SheetLengthCall, SheetWriteCall, UmvSheetReadCall, UmvSheetLengthCall, UmvSheetWriteCall, SizesCall, ChannelCall, NameCall, PartCall, PartOfCall, BuildCall, MultiplexCall, SpreadCall, GatherCall, TakeBackCall, FinishCall, HeardCall, UmvHeardCall, LinkCall, ListSheetCall}
use Rattle.demands.proofs.CallLaws.{sheet_read_law, sheet_length_law, sheet_write_law, umv_sheet_read_law, umv_sheet_length_law, umv_sheet_write_law, sizes_law, channel_law, name_law, part_law, part_of_law, build_law, multiplex_law, spread_law, gather_law, take_back_law, finish_law, heard_law, umv_heard_law, link_law, list_sheet_law}
use Rattle.sheets.proofs.Unique as Sheets
use Rattle.asking.proofs.Unique as Asking
use Rattle.sending.proofs.Unique as Sending
use Rattle.receiving.proofs.Unique as Receiving
use Rattle.ummervia.proofs.Unique as Ummervia
use Rattle.listing.proofs.Unique as Listing

demanded : {call : Ended} {asks : AsksOf call} {tells : TellsOf call} {said : SaidOf call} → Promised call asks tells → Always call tells said
    → Demanded call asks tells said
demanded p a = record { takes_all = p.takes_all; one_answer = p.one_answer; as_said = a }

-- ---- a sheet

pub sheet_read : Demanded Rattle.sheets.specs.contracts.sheet_read.ended Rattle.sheets.proofs.sheet_read.Reads.Asked Rattle.sheets.proofs.sheet_read.Reads.Learnt
    (λ κs (bytes, _) r _. SheetReadCall bytes.now (answer_number r) (value_or blank r))
sheet_read = demanded Sheets.sheet_read (λ κs i r v met. sheet_read_law _ (read_left r) met.0)

pub umv_sheet_read : Demanded Rattle.ummervia.specs.contracts.exports.umv_sheet_read.ended Rattle.ummervia.proofs.exports.umv_sheet_read.Reads.Asked Rattle.ummervia.proofs.exports.umv_sheet_read.Reads.Learnt
    (λ κs (bytes, (old, _)) r (_, (new, (at, _))). UmvSheetReadCall bytes.now old.now r (at, new))
umv_sheet_read = demanded Ummervia.umv_sheet_read (λ κs i r (_, (new, (at, _))) met. umv_sheet_read_law _ _ (outcome r at new) met)

pub sheet_length : Demanded Rattle.sheets.specs.contracts.sheet_length.ended Rattle.sheets.proofs.sheet_length.Reads.Asked Rattle.sheets.proofs.sheet_length.Reads.Learnt
    (λ κs (sheet, _) r _. SheetLengthCall sheet.now (answer_number r) (at_of r))
sheet_length = demanded Sheets.sheet_length (λ κs i r v met. sheet_length_law i.0.now (answer_in r) met)

pub umv_sheet_length : Demanded Rattle.ummervia.specs.contracts.exports.umv_sheet_length.ended Rattle.ummervia.proofs.exports.umv_sheet_length.Reads.Asked Rattle.ummervia.proofs.exports.umv_sheet_length.Reads.Learnt
    (λ κs (row, _) r (_, (at, _)). UmvSheetLengthCall row.now r at)
umv_sheet_length = demanded Ummervia.umv_sheet_length (λ κs i r (_, (at, _)) met. umv_sheet_length_law _ (answer_made r at) met)

pub sheet_write : Demanded Rattle.sheets.specs.contracts.sheet_write.ended Rattle.sheets.proofs.sheet_write.Reads.Asked Rattle.sheets.proofs.sheet_write.Reads.Learnt
    (λ κs (sheet, (old, _)) r (_, (new, _)). SheetWriteCall sheet.now old.now (answer_number r) (at_of r, new))
sheet_write = demanded Sheets.sheet_write (λ κs i r (_, (new, _)) met. sheet_write_law _ _ (outcome (answer_number r) (at_of r) new) met)

pub umv_sheet_write : Demanded Rattle.ummervia.specs.contracts.exports.umv_sheet_write.ended Rattle.ummervia.proofs.exports.umv_sheet_write.Reads.Asked Rattle.ummervia.proofs.exports.umv_sheet_write.Reads.Learnt
    (λ κs (row, (old, _)) r (_, (new, (at, _))). UmvSheetWriteCall row.now old.now r (at, new))
umv_sheet_write = demanded Ummervia.umv_sheet_write (λ κs i r (_, (new, (at, _))) met. umv_sheet_write_law _ _ (outcome r at new) met)

-- ---- its numbers

pub sizes : Demanded Rattle.asking.specs.contracts.sizes.ended Rattle.asking.proofs.sizes.Reads.Asked Rattle.asking.proofs.sizes.Reads.Learnt
    (λ κs (bytes, _) r _.
    let z = value_or no_sizes_found r in
    SizesCall bytes.now (answer_number r) (z.channels, z.slots, z.contents, z.capacity, z.joined))
sizes = demanded Asking.sizes (λ κs i r v met. sizes_law _ (sizes_left r) met.0)

pub umv_sizes : Demanded Rattle.ummervia.specs.contracts.exports.umv_sizes.ended Rattle.ummervia.proofs.exports.umv_sizes.Reads.Asked Rattle.ummervia.proofs.exports.umv_sizes.Reads.Learnt
    (λ κs (bytes, _) r (_, (channels, (slots, (contents, (capacity, (joined, _)))))).
    SizesCall bytes.now r (channels, slots, contents, capacity, joined))
umv_sizes = demanded Ummervia.umv_sizes (λ κs i r (_, (channels, (slots, (contents, (capacity, (joined, _)))))) met. sizes_law _ (sizes_made r channels slots contents capacity joined) met)

pub channel : Demanded Rattle.asking.specs.contracts.channel.ended Rattle.asking.proofs.channel.Reads.Asked Rattle.asking.proofs.channel.Reads.Learnt
    (λ κs (bytes, (trch, _)) r _.
    let z = value_or no_channel_found r in
    ChannelCall bytes.now trch.0 (answer_number r) (z.f, z.e, z.n, z.v))
channel = demanded Asking.channel (λ κs i r v met. channel_law _ _ (channel_left r) met.0)

pub umv_channel : Demanded Rattle.ummervia.specs.contracts.exports.umv_channel.ended Rattle.ummervia.proofs.exports.umv_channel.Reads.Asked Rattle.ummervia.proofs.exports.umv_channel.Reads.Learnt
    (λ κs (bytes, (trch, _)) r (_, (_, (f, (e, (n, (v, _)))))). ChannelCall bytes.now trch r (f, e, n, v))
umv_channel = demanded Ummervia.umv_channel (λ κs i r (_, (_, (f, (e, (n, (v, _)))))) met. channel_law _ _ (channel_made r f e n v) met)

pub name : Demanded Rattle.asking.specs.contracts.name.name.ended Rattle.asking.proofs.name.name.Reads.Asked Rattle.asking.proofs.name.name.Reads.Learnt
    (λ κs (bytes, (frame, (subframe, (slot, (phch, (place, _)))))) r _.
    NameCall bytes.now frame.0 subframe slot phch.0 place (answer_number r) (name_in (value_or no_name_found r)))
name = demanded Asking.name (λ κs i r v met. name_law _ _ _ _ _ _ (naming_left r) met.0)

pub umv_name : Demanded Rattle.ummervia.specs.contracts.exports.umv_name.ended Rattle.ummervia.proofs.exports.umv_name.Reads.Asked Rattle.ummervia.proofs.exports.umv_name.Reads.Learnt
    (λ κs (bytes, (frame, (subframe, (slot, (phch, (place, _)))))) r (_, (_, (_, (_, (_, (_, (channel, (bit, (copy, _))))))))).
    NameCall bytes.now frame subframe slot phch place r (record { channel = channel; bit = bit; copy = copy }))
umv_name = demanded Ummervia.umv_name (λ κs i r (_, (_, (_, (_, (_, (_, (channel, (bit, (copy, _))))))))) met. name_law _ _ _ _ _ _ (name_left r channel bit copy) met)

pub part : Demanded Rattle.asking.specs.contracts.part.part.ended Rattle.asking.proofs.part.part.Reads.Asked Rattle.asking.proofs.part.part.Reads.Learnt
    (λ κs (bytes, (trch, (n, _))) r _.
    let z = value_or no_part_found r in
    PartCall bytes.now trch.0 n (answer_number r) (z.start, z.length))
part = demanded Asking.part (λ κs i r v met. part_law _ _ _ (part_left r) met.0)

pub umv_part : Demanded Rattle.ummervia.specs.contracts.exports.umv_part.ended Rattle.ummervia.proofs.exports.umv_part.Reads.Asked Rattle.ummervia.proofs.exports.umv_part.Reads.Learnt
    (λ κs (bytes, (trch, (n, _))) r (_, (_, (_, (start, (size, _))))).
    PartCall bytes.now trch n r (start, size))
umv_part = demanded Ummervia.umv_part (λ κs i r (_, (_, (_, (start, (size, _))))) met. part_law _ _ _ (part_made r start size) met)

pub part-bits : DemandedAs Rattle.asking.specs.contracts.part.part_bits.ended (λ κs r. seen r) Rattle.asking.proofs.part.part_bits.Reads.Asked Rattle.asking.proofs.part.part_bits.Reads.Learnt
    (λ κs (bytes, (trch, (values, _))) r _. PartOfCall 1 bytes.now trch.0 (seen values) (seen r))
part-bits = record { takes_all = (Asking.part-bits).0; one_answer = (Asking.part-bits).1; as_said = λ κs i r v met. part_of_law 1 _ _ _ (seen r) met.0 met.1 }

pub part-soft : DemandedAs Rattle.asking.specs.contracts.part.part_soft.ended (λ κs r. seen r) Rattle.asking.proofs.part.part_soft.Reads.Asked Rattle.asking.proofs.part.part_soft.Reads.Learnt
    (λ κs (bytes, (trch, (values, _))) r _. PartOfCall 4 bytes.now trch.0 (seen values) (seen r))
part-soft = record { takes_all = (Asking.part-soft).0; one_answer = (Asking.part-soft).1; as_said = λ κs i r v met. part_of_law 4 _ _ _ (seen r) met.0 met.1 }

-- ---- there

pub build : Demanded Rattle.sending.specs.contracts.build.ended Rattle.sending.proofs.build.Reads.Asked Rattle.sending.proofs.build.Reads.Learnt
    (λ κs (bytes, (frame, (contents, (old, _)))) r (_, (_, (_, (new, _)))).
    BuildCall bytes.now frame.0 contents.now old.now (answer_number r) (at_of r) new)
build = demanded Sending.build (λ κs i r (_, (_, (_, (new, _)))) met. build_law _ _ _ _ (outcome (answer_number r) (at_of r) new) met)

pub umv_build : Demanded Rattle.ummervia.specs.contracts.exports.umv_build.ended Rattle.ummervia.proofs.exports.umv_build.Reads.Asked Rattle.ummervia.proofs.exports.umv_build.Reads.Learnt
    (λ κs (bytes, (frame, (contents, (old, _)))) r (_, (_, (_, (new, (at, _))))).
    BuildCall bytes.now frame contents.now old.now r at new)
umv_build = demanded Ummervia.umv_build (λ κs i r (_, (_, (_, (new, (at, _))))) met. build_law _ _ _ _ (outcome r at new) met)

pub multiplex : Demanded Rattle.sending.specs.contracts.multiplex.ended Rattle.sending.proofs.multiplex.Reads.Asked Rattle.sending.proofs.multiplex.Reads.Learnt
    (λ κs (bytes, (frame, (contents, (old, _)))) r (_, (_, (_, (new, _)))).
    MultiplexCall bytes.now frame.0 contents.now old.now (answer_number r) (at_of r) new)
multiplex = demanded Sending.multiplex (λ κs i r (_, (_, (_, (new, _)))) met. multiplex_law _ _ _ _ (outcome (answer_number r) (at_of r) new) met)

pub umv_multiplex : Demanded Rattle.ummervia.specs.contracts.exports.umv_multiplex.ended Rattle.ummervia.proofs.exports.umv_multiplex.Reads.Asked Rattle.ummervia.proofs.exports.umv_multiplex.Reads.Learnt
    (λ κs (bytes, (frame, (contents, (old, _)))) r (_, (_, (_, (new, (at, _))))).
    MultiplexCall bytes.now frame contents.now old.now r at new)
umv_multiplex = demanded Ummervia.umv_multiplex (λ κs i r (_, (_, (_, (new, (at, _))))) met. multiplex_law _ _ _ _ (outcome r at new) met)

pub spread : Demanded Rattle.sending.specs.contracts.spread.ended Rattle.sending.proofs.spread.Reads.Asked Rattle.sending.proofs.spread.Reads.Learnt
    (λ κs (bytes, (bits, (old, _))) r (_, (_, (new, _))).
    SpreadCall bytes.now bits.now old.now (answer_number r) (at_of r) new)
spread = demanded Sending.spread (λ κs i r (_, (_, (new, _))) met. spread_law _ _ _ (outcome (answer_number r) (at_of r) new) met)

pub umv_spread : Demanded Rattle.ummervia.specs.contracts.exports.umv_spread.ended Rattle.ummervia.proofs.exports.umv_spread.Reads.Asked Rattle.ummervia.proofs.exports.umv_spread.Reads.Learnt
    (λ κs (bytes, (bits, (old, _))) r (_, (_, (new, (at, _)))).
    SpreadCall bytes.now bits.now old.now r at new)
umv_spread = demanded Ummervia.umv_spread (λ κs i r (_, (_, (new, (at, _)))) met. spread_law _ _ _ (outcome r at new) met)

-- ---- and back

pub gather : Demanded Rattle.receiving.specs.contracts.gather.ended Rattle.receiving.proofs.gather.Reads.Asked Rattle.receiving.proofs.gather.Reads.Learnt
    (λ κs (bytes, (frame, (old, _))) r (_, (_, (new, _))).
    GatherCall bytes.now frame.now old.now (answer_number r) (at_of r) new)
gather = demanded Receiving.gather (λ κs i r (_, (_, (new, _))) met. gather_law _ _ _ (outcome (answer_number r) (at_of r) new) met)

pub umv_gather : Demanded Rattle.ummervia.specs.contracts.exports_home.umv_gather.ended Rattle.ummervia.proofs.exports_home.umv_gather.Reads.Asked Rattle.ummervia.proofs.exports_home.umv_gather.Reads.Learnt
    (λ κs (bytes, (frame, (old, _))) r (_, (_, (new, (at, _)))).
    GatherCall bytes.now frame.now old.now r at new)
umv_gather = demanded Ummervia.umv_gather (λ κs i r (_, (_, (new, (at, _)))) met. gather_law _ _ _ (outcome r at new) met)

pub take_back : Demanded Rattle.receiving.specs.contracts.take_back.ended Rattle.receiving.proofs.take_back.Reads.Asked Rattle.receiving.proofs.take_back.Reads.Learnt
    (λ κs (bytes, (number, (frame, (old, _)))) r (_, (_, (_, (new, _)))).
    TakeBackCall bytes.now number.0 frame.now old.now (answer_number r) (at_of r) new)
take_back = demanded Receiving.take_back (λ κs i r (_, (_, (_, (new, _)))) met. take_back_law _ _ _ _ (outcome (answer_number r) (at_of r) new) met)

pub umv_take_back : Demanded Rattle.ummervia.specs.contracts.exports_home.umv_take_back.ended Rattle.ummervia.proofs.exports_home.umv_take_back.Reads.Asked Rattle.ummervia.proofs.exports_home.umv_take_back.Reads.Learnt
    (λ κs (bytes, (number, (frame, (old, _)))) r (_, (_, (_, (new, (at, _))))).
    TakeBackCall bytes.now number frame.now old.now r at new)
umv_take_back = demanded Ummervia.umv_take_back (λ κs i r (_, (_, (_, (new, (at, _))))) met. take_back_law _ _ _ _ (outcome r at new) met)

pub finish : Demanded Rattle.receiving.specs.contracts.finishing.finish.ended Rattle.receiving.proofs.finishing.finish.Reads.Asked Rattle.receiving.proofs.finishing.finish.Reads.Learnt
    (λ κs (bytes, (trch, (joined, (old, _)))) r (_, (_, (_, (new, _)))).
    FinishCall bytes.now trch.0 joined.now old.now (answer_number r) (at_of r, new))
finish = demanded Receiving.finish (λ κs i r (_, (_, (_, (new, _)))) met. finish_law _ _ _ _ (outcome (answer_number r) (at_of r) new) met)

pub umv_finish : Demanded Rattle.ummervia.specs.contracts.exports_home.umv_finish.ended Rattle.ummervia.proofs.exports_home.umv_finish.Reads.Asked Rattle.ummervia.proofs.exports_home.umv_finish.Reads.Learnt
    (λ κs (bytes, (trch, (joined, (old, _)))) r (_, (_, (_, (new, (at, _))))).
    FinishCall bytes.now trch joined.now old.now r (at, new))
umv_finish = demanded Ummervia.umv_finish (λ κs i r (_, (_, (_, (new, (at, _))))) met. finish_law _ _ _ _ (outcome r at new) met)

pub heard : Demanded Rattle.receiving.specs.contracts.listening.heard.ended Rattle.receiving.proofs.listening.heard.Reads.Asked Rattle.receiving.proofs.listening.heard.Reads.Learnt
    (λ κs (bytes, (number, (frame, (trch, (bit, _))))) r _.
    HeardCall bytes.now number.0 frame.now trch.0 bit.0 (answer_number r) (answer_index r) (value_or Nothing r))
heard = demanded Receiving.heard (λ κs i r v met. heard_law _ _ _ _ _ (heard_left r) met)

pub umv_heard : Demanded Rattle.ummervia.specs.contracts.exports_home.umv_heard.ended Rattle.ummervia.proofs.exports_home.umv_heard.Reads.Asked Rattle.ummervia.proofs.exports_home.umv_heard.Reads.Learnt
    (λ κs (bytes, (number, (frame, (trch, (bit, _))))) r (_, (_, (_, (_, (_, (at, (value, (copies, _)))))))).
    UmvHeardCall bytes.now number frame.now trch bit r at (value, copies))
umv_heard = demanded Ummervia.umv_heard (λ κs i r (_, (_, (_, (_, (_, (at, (value, (copies, _)))))))) met. umv_heard_law _ _ _ _ _ (numbers r at value copies) met)

pub link : Demanded Rattle.receiving.specs.contracts.listening.link.ended Rattle.receiving.proofs.listening.link.Reads.Asked Rattle.receiving.proofs.listening.link.Reads.Learnt
    (λ κs (bytes, (number, (frame, (trch, _)))) r _.
    LinkCall bytes.now number.0 frame.now trch.0 (answer_number r) (answer_index r) (value_or no_link r))
link = demanded Receiving.link (λ κs i r v met. link_law _ _ _ _ (link_left r) met)

pub umv_link : Demanded Rattle.ummervia.specs.contracts.exports_home.umv_link.ended Rattle.ummervia.proofs.exports_home.umv_link.Reads.Asked Rattle.ummervia.proofs.exports_home.umv_link.Reads.Learnt
    (λ κs (bytes, (number, (frame, (trch, _)))) r (_, (_, (_, (_, (at, (least, (greatest, (punctured, _)))))))).
    LinkCall bytes.now number frame.now trch r at (record { least = least; greatest = greatest; punctured = punctured }))
umv_link = demanded Ummervia.umv_link (λ κs i r (_, (_, (_, (_, (at, (least, (greatest, (punctured, _)))))))) met. link_law _ _ _ _ (link_made r at least greatest punctured) met)

-- ---- the lister

pub list_sheet : Demanded Rattle.listing.specs.contracts.list_sheet.ended Rattle.listing.proofs.list_sheet.Reads.Asked Rattle.listing.proofs.list_sheet.Reads.Learnt
    (λ κs (bytes, _) r _. ListSheetCall bytes.now r)
list_sheet = demanded Listing.list_sheet (λ κs i r v met. list_sheet_law _ r met.0)

-- what `numbers` says of one line, in full: 3 is answered exactly when the sheet has at least 2 bytes, its version is 1, and T is 0
pub build_three : Always Rattle.sending.specs.contracts.build.ended Rattle.sending.proofs.build.Reads.Learnt
    (λ κs (bytes, _) r _. (answer_number r ≡ 3)
    ↔ (((Unit {0} × (length bytes.now < 2 → ⊥)) × ((sheet_of bytes.now).version ≢ 1 → ⊥)) × ((sheet_of bytes.now).slots ≡ 0)))
build_three κs i r v met = (build.as_said κs i r v met).0.numbers.1.1.0
